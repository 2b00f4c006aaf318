-- `table::empty::make_empty` meets its contract.
use mathlib.Core.Path.{sym, ◌∙◌}
use native.Mathlib.Omega.{arith}
use Rattle.table.proofs.Limits.{least_length}
use Rattle.table.proofs.Making.{too_short, no_meaning, made}
use Rattle.table.proofs.empty.make_empty.Goals as goal

pub returns-then-t-lt-TABLE : goal.returns-then-t-lt-TABLE
returns-then-t-lt-TABLE c = too_short c.args.t.now (omega (arith, least_length))

pub returns-then-limit-eq0 : goal.returns-then-limit-eq0
returns-then-limit-eq0 c = no_meaning c.args.t.now (omega (arith, least_length)) (sym c.limit.ensures ∙ c.if-limit-eq0.true)

pub returns : goal.returns
returns c =
    made c.args.t.now _
    (omega (arith, c.limit.ensures, c.if-limit-eq0.false))
    c.clear.ensures
