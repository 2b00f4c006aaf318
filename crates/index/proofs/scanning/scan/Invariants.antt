-- `index::scanning::scan` meets its contract: none of the records passed has the key.
use Rattle.std.proofs.Common.{◌≡◌}
use Rattle.index.specs.Searches.{earliest}
use Rattle.index.proofs.scanning.scan.Given as goal

abbrev pub invariant-loop-i : goal.invariant-loop-i
invariant-loop-i l = earliest l.keys l.t l.i l.key ≡ 0
