-- `sheet::quotes::write` meets its contract: the line of each row stands behind those before it.
use Rattle.sheet.proofs.Quoting.{Written}
use Rattle.sheet.proofs.quotes.write.Given as goal

abbrev pub invariant-loop-i : goal.invariant-loop-i
invariant-loop-i l = Written l.t l.base l.i-end l.i l.initial.out l.out l.wrote
