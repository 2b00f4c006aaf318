-- `row::length` meets its contract: the parts of a row, and the ten bytes between and behind them.
use native.Mathlib.Omega.{arith}
use mathlib.Core.Path.{ap}
use borrow.Author.Rules.{rules}
use lib.ListN.{length}
use Rattle.row.proofs.Lent.{row_long}
use Rattle.row.proofs.length.Goals as goal

pub returns : goal.returns
returns c =
    let a = c.args in
    let figures = c.figures_in in
    let left = ap length c.unpadded.ensures in
    let long = row_long a.t.now a.i a.family a.rank figures.result figures.ensures _ (search rules) left in
    omega (arith, long)
