-- `sheet::room::rows_fit` meets its contract: the rows left fit into the space left exactly when all of them fit into all of it.
use native.Mathlib.Nat.{sub-zero}
use native.Mathlib.Omega.{arith}
use Rattle.sheet.proofs.Fitting.{fitting_first, fitting_next, fitting_stands, no_space, all_fit, wanted_fit}
use Rattle.sheet.proofs.room.rows_fit.Goals as goal

pub loop-init : goal.loop-init
loop-init c = rw sub-zero (fitting_first c.requires)

pub returns-in_default : goal.returns-in_default
returns-in_default c = all_fit c.loop.invariant c.in_default.is

pub returns-then-free-long : goal.returns-then-free-long
returns-then-free-long c = no_space c.loop.invariant c.in-Some.is (omega arith) c.length-long.ensures c.if-free-long.true

pub next-next-requires : goal.next-next-requires
next-next-requires c = fitting_stands c.loop.invariant c.in-Some.is

pub loop-preserved : goal.loop-preserved
loop-preserved c =
    let next = c.next-next.ensures in
    fitting_next c.loop.invariant c.in-Some.is (omega arith) (omega arith) c.length-long.ensures c.if-free-long.false next.stands_or_ends next.result_value

pub returns : goal.returns
returns c = wanted_fit c.loop.invariant (omega arith)
