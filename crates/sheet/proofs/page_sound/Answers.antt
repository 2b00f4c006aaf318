-- `sheet::page_sound` meets its contract: the rows from the turn on are the page.
use native.Mathlib.Omega.{arith}
use mathlib.Core.Path.{◌≡◌}
use lib.ListN.{length, length-replicate}
use Rattle.table.proofs.Limits.{limit_most}
use Rattle.table.proofs.Sound.{header_there, sound_apart}
use Rattle.sheet.specs.Pages.{page_of}
use Rattle.sheet.specs.Walk.{text_left}
use Rattle.sheet.proofs.Answering.{slots_inside}
use Rattle.sheet.proofs.Paging.{page_refused, page_room, page_text, page_written}
use Rattle.sheet.proofs.page_sound.Goals as goal
use Rattle.sheet.proofs.page_sound.Goals.{After-skip-first}

pub count-n-requires : goal.count-n-requires
count-n-requires c = header_there c.args.t.now c.requires

pub note_all-requires : goal.note_all-requires
note_all-requires c =
    let s = c.args.t.now in
    let n = c.count-n in
    let few = (sound_apart s c.requires).bytes.few in
    let most = limit_most (length s) in
    let slots = slots_inside s n.result c.requires n.ensures in
    record { n_in_bounds = slots; n_in_bounds_2 = rw length-replicate (omega (arith, n.ensures, few, most)); n_bound = omega (arith, n.ensures, few, most) }

-- the rows from the turn on are the page
here : (c : After-skip-first) → text_left c.count-n.result c.args.t.now c.args.most c.skip-first.result
    ≡ page_of c.args.t.now c.args.passed c.args.most
here c =
    let a = c.args in
    let n = c.count-n in
    page_text a.t.now n.result a.passed a.most c.skip-first.result n.ensures c.skip-first.ensures.result_value

pub returns-then-not-rows_fit : goal.returns-then-not-rows_fit
returns-then-not-rows_fit c =
    let a = c.args in
    let r = c.rows_fit in
    page_refused (page_of a.t.now a.passed a.most) a.out.now r.result (rw (here (goal.at.returns-then-not-rows_fit c).After-skip-first) at r.ensures)
    c.if-not-rows_fit.true

pub rows-requires-clause-first_in_bounds : goal.rows-requires-clause-first_in_bounds
rows-requires-clause-first_in_bounds c =
    let r = c.rows_fit in
    page_room (text_left c.count-n.result c.args.t.now c.args.most c.skip-first.result) c.args.out.now r.result r.ensures c.if-not-rows_fit.false

pub returns : goal.returns
returns c =
    let a = c.args in
    let r = c.rows_fit in
    let same = here (goal.at.returns c).After-skip-first in
    page_written (page_of a.t.now a.passed a.most) a.out.now r.result (rw same at r.ensures)
    c.if-not-rows_fit.false (rw same at c.rows.ensures)
