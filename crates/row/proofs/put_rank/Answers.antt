-- `row::put_rank` meets its contract: two numbers and the dot between them, each right behind the other.
use mathlib.Core.List.{[], ◌∷◌}
use Rattle.row.proofs.Puts.{run_put, then}
use Rattle.row.proofs.put_rank.Goals as goal

pub returns : goal.returns
returns c =
    let family = c.put_number-dot in
    let rank = c.put_number in
    then family.ensures (then (run_put (46 ∷ []) c.store.ensures) rank.ensures)
