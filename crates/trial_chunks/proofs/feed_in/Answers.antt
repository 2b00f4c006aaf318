-- `trial_chunks::feed_in` is safe: table and output keep their lengths, so the end has room.
use Prim.Native.Nat.{◌≤◌}
use mathlib.Core.Path.{refl, ◌∙◌}
use lib.ListN.{length}
use borrow.Author.Rules.{rules}
use Rattle.table.specs.Tables.{limit_of}
use Rattle.feed.specs.Steps.{room_at_end}
use Rattle.sheet_run.proofs.Leading.{begun_long, room_kept}
use Rattle.trial_chunks.proofs.feed_in.Goals as goal

pub end-requires : goal.end-requires
end-requires g c =
    let long = c.feed_chunks.ensures ∙ begun_long c.args.t.now c.begin-day.ensures.t_after in
    let room : room_at_end (limit_of (length c.feed_chunks.new.day.table.now)) ≤ length c.args.out.now = room_kept long refl c.requires.t_in_bounds in
    record { t_in_bounds = search (rules, room, c.feed_chunks.auto.out) }
