-- `table::header::base` meets its contract.
use native.Mathlib.Omega.{arith}
use Rattle.table.proofs.Limits.{limit_small}
use Rattle.table.proofs.header.base.Goals as goal

pub overflow_mul-result : goal.overflow_mul-result
overflow_mul-result c = omega (arith, c.limit.ensures, limit_small c.args.len)

pub overflow_add-result : goal.overflow_add-result
overflow_add-result c = omega (arith, c.limit.ensures, limit_small c.args.len)
