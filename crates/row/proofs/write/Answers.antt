-- `row::write` meets its contract: three texts, one right behind the other, from the parts of the table that are lent.
use native.Mathlib.Omega.{arith}
use Rattle.slot.specs.Slots.{order_in}
use Rattle.slot.specs.Places.{slot}
use Rattle.row.proofs.Lent.{figures_room, names_room, row_wrote}
use Rattle.row.proofs.Puts.{row_length}
use Rattle.row.proofs.write.Goals as goal

pub put_rank-rank_end-requires : goal.put_rank-rank_end-requires
put_rank-rank_end-requires c =
    let a = c.args in
    omega (arith, row_length a.family a.rank (order_in (slot a.t.now a.i)))

pub put_figures-figures_end-requires : goal.put_figures-figures_end-requires
put_figures-figures_end-requires c =
    let a = c.args in
    let figures = c.figures_in in
    let rank = c.put_rank-rank_end in
    figures_room a.t.now a.i a.family a.rank figures.result figures.ensures rank.result _ rank.ensures.end (omega (arith, c.requires.i_in_bounds))

pub put_names-requires : goal.put_names-requires
put_names-requires c =
    let a = c.args in
    let figures = c.figures_in in
    let rank = c.put_rank-rank_end in
    let put = c.put_figures-figures_end in
    names_room a.t.now a.i a.family a.rank figures.result figures.ensures rank.result put.result _ rank.ensures.end put.ensures.end (omega (arith, c.requires.i_in_bounds))

pub returns : goal.returns
returns c =
    let a = c.args in
    let figures = c.figures_in in
    row_wrote a.t.now a.i a.family a.rank figures.result figures.ensures a.out.now _ _ _ _ _ _
    c.put_rank-rank_end.ensures c.put_figures-figures_end.ensures c.put_names.ensures
