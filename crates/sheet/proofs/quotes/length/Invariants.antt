-- `sheet::quotes::length` meets its contract: the sum grows by the line of each row.
use Rattle.sheet.proofs.Quoting.{Summed}
use Rattle.sheet.proofs.quotes.length.Given as goal

abbrev pub invariant-loop-i : goal.invariant-loop-i
invariant-loop-i l = Summed l.t l.base l.i-end l.i l.long
