-- `sheet::quotes::write` meets its contract: the line of each row stands behind those before it.
use native.Mathlib.Omega.{arith}
use Rattle.table.proofs.Sound.{header_there}
use Rattle.sheet.proofs.Joining.{keeps_length}
use Rattle.sheet.proofs.Quoting.{row_there, line_room, written_first, written_inside, written_next, written_all}
use Rattle.sheet.proofs.quotes.write.Goals as goal

pub row_count-i-end-requires : goal.row_count-i-end-requires
row_count-i-end-requires c = header_there _ c.requires.t_value

pub loop-i-init : goal.loop-i-init
loop-i-init c = written_first c.requires.t_value c.base-base.ensures c.row_count-i-end.ensures

pub slice_bounds-write-count : goal.slice_bounds-write-count
slice_bounds-write-count c = written_inside c.loop-i.invariant c.requires.t_in_bounds

pub slice_bounds-write-start : goal.slice_bounds-write-start
slice_bounds-write-start c = written_inside c.loop-i.invariant c.requires.t_in_bounds

pub write-wrote-requires : goal.write-wrote-requires
write-wrote-requires c =
    let x = c.loop-i.invariant in
    let h = c.loop-i-test.true in
    record { row_inside = row_there x.lines h; i_in_bounds = line_room x c.requires.t_in_bounds h }

pub overflow_add-wrote : goal.overflow_add-wrote
overflow_add-wrote c =
    let x = written_next c.loop-i.invariant c.loop-i-test.true c.write-wrote.ensures in
    omega (arith, written_inside x c.requires.t_in_bounds, keeps_length x.so, c.well_formed)

pub loop-i-preserved : goal.loop-i-preserved
loop-i-preserved c = written_next c.loop-i.invariant c.loop-i-test.true c.write-wrote.ensures

pub shape_of-out : goal.shape_of-out
shape_of-out c = keeps_length c.loop-i.invariant.so

pub returns : goal.returns
returns c = written_all c.loop-i.invariant c.loop-i-test.false
