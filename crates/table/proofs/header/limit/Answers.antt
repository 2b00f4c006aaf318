-- `table::header::limit` meets its contract.
use native.Mathlib.Omega.{arith}
use Rattle.table.proofs.Limits.{limit_is, limit_none, least_length}
use Rattle.table.proofs.header.limit.Goals as goal

pub returns-then-len-eq-TABLE : goal.returns-then-len-eq-TABLE
returns-then-len-eq-TABLE c = limit_is c.args.len (omega (arith, c.if-len-eq-TABLE.true, least_length))

pub returns-else-len-eq-TABLE : goal.returns-else-len-eq-TABLE
returns-else-len-eq-TABLE c = limit_none c.args.len (λ e. omega (arith, c.if-len-eq-TABLE.false, least_length))
