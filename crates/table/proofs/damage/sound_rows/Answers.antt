-- `table::damage::sound_rows` meets its contract.
use native.Mathlib.Omega.{arith}
use lib.ListN.{length}
use Rattle.quote.proofs.Named.{row_number}
use Rattle.table.proofs.Limits.{rows_inside, slots_inside}
use Rattle.table.proofs.RowPasses.{too_many_rows, rows_judged}
use Rattle.table.proofs.damage.sound_rows.Goals as goal

pub row_count-n-requires : goal.row_count-n-requires
row_count-n-requires c = omega (arith, slots_inside (length c.args.t.now) 0 c.requires (omega arith))

pub returns-then-most_rows-n : goal.returns-then-most_rows-n
returns-then-most_rows-n c = too_many_rows c.args.t.now (omega (arith, c.most_rows.ensures, c.row_count-n.ensures))

pub unlike-requires : goal.unlike-requires
unlike-requires c =
    let inside = rows_inside (length c.args.t.now) c.row_count-n.result c.requires (omega (arith, c.most_rows.ensures)) in
    record { n_in_bounds = omega (arith, inside, c.base-base.ensures); n_bound = omega (arith, row_number, c.most_rows.ensures) }

pub each_sound-requires : goal.each_sound-requires
each_sound-requires c =
    let inside = rows_inside (length c.args.t.now) c.row_count-n.result c.requires (omega (arith, c.most_rows.ensures)) in
    omega (arith, inside, c.base-base.ensures)

pub returns : goal.returns
returns c =
    let s = c.args.t.now in
    let count = c.row_count-n.ensures in
    rows_judged s (omega (arith, count, c.most_rows.ensures)) _ _ c.base-base.ensures count _ _ c.unlike.ensures c.each_sound.ensures
