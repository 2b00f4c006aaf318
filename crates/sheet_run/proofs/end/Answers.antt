-- `sheet_run::end` meets its contract: what the end of the text says has room.
use Prim.Native.Nat.{ℕ, ◌≤◌}
use native.Mathlib.Omega.{arith}
use mathlib.Core.Path.{◌≡◌, ap}
use mathlib.Core.Bool.{true}
use mathlib.Core.List.{List}
use lib.ListN.{length}
use lib.Seq.{length-sets}
use Rattle.table.specs.Tables.{limit_of, sound}
use Rattle.row.specs.Writes.{Wrote}
use Rattle.feed.specs.Steps.{between_of, finished, Held, room_at_end}
use Rattle.feed.proofs.Finishing.{finished_most}
use Rattle.sheet_run.proofs.end.Goals as goal

written_inside : (hold : Held) (t before : List ℕ) {out : List ℕ} {n : ℕ} → sound t ≡ true → room_at_end (limit_of (length t)) ≤ length before
    → Wrote (finished (between_of hold t)) before out n → n ≤ length out
written_inside hold t before e h w =
    omega (arith, w.long, ap length w.out, length-sets before 0 (finished (between_of hold t)), finished_most hold.piece hold.line t e)

pub say-requires : goal.say-requires
say-requires g c =
    let a = c.args in
    written_inside a.hold.now a.day.now.table.now a.out.now a.day.now.sound c.requires.t_in_bounds c.finish-n.ensures.wrote
