-- `sheet::write_sound` meets its contract: with room for heading, rows and quote section they are written, one behind the other; else nothing is.
use native.Mathlib.Omega.{arith}
use lib.ListN.{length, length-replicate}
use Rattle.table.proofs.Limits.{limit_most}
use Rattle.table.proofs.Sound.{header_there, sound_apart}
use Rattle.sheet.proofs.Answering.{AllFits, Measured, all_fits, families_inside, neither_fits, no_rows, rows_room, section_room, sheet_written, slots_inside, small, written_inside, written_kept}
use Rattle.sheet.proofs.write_sound.Goals as goal
use Rattle.sheet.proofs.write_sound.Goals.{After-length-below, Else-not-rows_fit}

pub count-n-requires : goal.count-n-requires
count-n-requires c = header_there c.args.t.now c.requires

pub count_roots-families-requires : goal.count_roots-families-requires
count_roots-families-requires c = slots_inside c.args.t.now c.count-n.result c.requires c.count-n.ensures

pub length-below-requires : goal.length-below-requires
length-below-requires c = c.requires

measured : (c : After-length-below)
    → Measured c.args.t.now c.count-n.result c.count_roots-families.result c.length-head.result c.length-below.result
measured c =
    record {
      good = c.requires;
      count = c.count-n.ensures;
      roots = c.count_roots-families.ensures;
      long = c.length-head.ensures;
      lines = c.length-below.ensures;
    }

pub overflow_add-head : goal.overflow_add-head
overflow_add-head c = omega (arith, small (measured c) c.args.out.now, c.well_formed)

pub returns-then-out-head : goal.returns-then-out-head
returns-then-out-head c = neither_fits (measured (goal.at.returns-then-out-head c).After-length-below) c.args.out.now c.if-out-head.true

pub note_all-requires : goal.note_all-requires
note_all-requires c =
    let m = measured (goal.at.note_all-requires c).After-length-below in
    let s = c.args.t.now in
    let n = c.count-n.result in
    let few = (sound_apart s m.good).bytes.few in
    let most = limit_most (length s) in
    let slots = slots_inside s n m.good m.count in
    record { n_in_bounds = slots; n_in_bounds_2 = rw length-replicate (omega (arith, m.count, few, most)); n_bound = omega (arith, m.count, few, most) }

pub returns-then-not-rows_fit : goal.returns-then-not-rows_fit
returns-then-not-rows_fit c =
    let x = c.start-first in
    no_rows (measured (goal.at.returns-then-not-rows_fit c).After-length-below) c.args.out.now x.result x.ensures.result_value c.if-out-head.false c.rows_fit.result c.rows_fit.ensures
    c.if-not-rows_fit.true

-- there is room for all of it
room : (c : Else-not-rows_fit) → AllFits c.args.t.now c.args.out.now c.count-n.result c.count_roots-families.result c.start-first.result
room c =
    let x = c.start-first in
    all_fits
    (record { good = c.requires; count = c.count-n.ensures; roots = c.count_roots-families.ensures; long = c.length-head.ensures; lines = c.length-below.ensures })
    c.args.out.now x.result x.ensures.result_value c.if-out-head.false c.rows_fit.result c.rows_fit.ensures
    c.if-not-rows_fit.false

pub rows-rows-requires-clause-first_in_bounds : goal.rows-rows-requires-clause-first_in_bounds
rows-rows-requires-clause-first_in_bounds c = rows_room (room (goal.at.rows-rows-requires-clause-first_in_bounds c).Else-not-rows_fit) c.write-wrote.ensures

pub overflow_add-end : goal.overflow_add-end
overflow_add-end c =
    let end = (families_inside (room (goal.at.overflow_add-end c).Else-not-rows_fit) c.write-wrote.ensures c.rows-rows.ensures).0 in
    omega (arith, end, c.well_formed)

pub slice_bounds-write-count : goal.slice_bounds-write-count
slice_bounds-write-count c = (families_inside (room (goal.at.slice_bounds-write-count c).Else-not-rows_fit) c.write-wrote.ensures c.rows-rows.ensures).1

pub slice_bounds-write-start : goal.slice_bounds-write-start
slice_bounds-write-start c = slice_bounds-write-count c

pub write-lines-requires : goal.write-lines-requires
write-lines-requires c =
    record { t_value = c.requires; t_in_bounds = section_room (room (goal.at.write-lines-requires c).Else-not-rows_fit) c.write-wrote.ensures c.rows-rows.ensures }

-- heading, rows and quote section are the sheet
pub returns : goal.returns
returns c = sheet_written (room (goal.at.returns c).Else-not-rows_fit) c.write-wrote.ensures c.rows-rows.ensures c.write-lines.ensures

pub overflow_add-result : goal.overflow_add-result
overflow_add-result c = omega (arith, written_inside (returns c), c.well_formed)

pub shape_of-out : goal.shape_of-out
shape_of-out c = written_kept (returns c)
