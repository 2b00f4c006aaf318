-- `row::quotes::length` meets its contract: the digits of two sums, and the 32 bytes that every such line has.
use native.Mathlib.Omega.{arith}
use Rattle.row.proofs.LentQuote.{line_long}
use Rattle.row.proofs.quotes.length.Goals as goal

pub returns : goal.returns
returns c =
    let a = c.args in
    let executed = c.get in
    let broken = c.get-2 in
    let long = line_long a.t.now a.base a.i executed.result broken.result executed.ensures broken.ensures c.requires in
    omega (arith, long, c.digits.ensures, c.digits-2.ensures)
