-- `saving::put_day` meets its contract: what is stored, and the entries that are left, give the same end.
use mathlib.Core.Path.{◌≡◌}
use borrow.Author.Rules.{rules}
use lib.ListN.{length}
use Rattle.saving.proofs.Steps.{front_fits, lay_next, lay_room, all_laid}
use Rattle.saving.proofs.put_day.Goals as goal

pub put_front-at-requires-clause-t_in_bounds : goal.put_front-at-requires-clause-t_in_bounds
put_front-at-requires-clause-t_in_bounds c = front_fits c.args.t.now c.requires.t_in_bounds

pub lay_entry-at-requires-clause-k_in_bounds : goal.lay_entry-at-requires-clause-k_in_bounds
lay_entry-at-requires-clause-k_in_bounds c =
    lay_room c.loop-k.invariant.1 c.put_front-at.ensures c.loop-k-test.true c.requires.t_in_bounds

pub loop-k-preserved : goal.loop-k-preserved
loop-k-preserved c =
    let room : length c.lay_entry-at.new.buffer ≡ 115 = search rules in
    (room, lay_next c.loop-k.invariant.1 c.loop-k-test.true c.lay_entry-at.ensures)

pub returns : goal.returns
returns c = all_laid c.loop-k.invariant.1 c.put_front-at.ensures c.loop-k-test.false
