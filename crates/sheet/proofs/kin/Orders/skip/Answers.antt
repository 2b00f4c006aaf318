-- `sheet::kin::Orders::skip` meets its contract: a member passed over is one less to pass over.
use Prim.Native.Nat.{◌+◌, ◌-◌}
use native.Mathlib.Omega.{arith}
use Rattle.sheet.proofs.Turning.{skipped_all, skipped_past, skipping_first, skipping_on}
use Rattle.sheet.proofs.kin.Orders.skip.Goals as goal

pub loop-init : goal.loop-init
loop-init c = let x = c.in_ok-x.ensures in skipping_first (omega arith) x.result_value x.stands_or_ends

pub next-requires : goal.next-requires
next-requires c = c.loop.invariant.stands

pub returns-in_err-x-2-clause-result_value : goal.returns-in_err-x-2-clause-result_value
returns-in_err-x-2-clause-result_value c =
    let past = skipped_past c.loop.invariant (c.args.count - (c.loop.counter + 1)) (omega arith) c.in_err-x-2.ensures.result_value in
    rw c.from_residual-in_err-x-2.ensures past

pub loop-preserved : goal.loop-preserved
loop-preserved c =
    let x = c.in_ok-x-2.ensures in
    skipping_on c.loop.invariant (c.args.count - (c.loop.counter + 1)) (omega arith) x.result_value x.stands_or_ends

pub returns : goal.returns
returns c =
    record { result_value = skipped_all c.loop.invariant (omega arith); stands_or_ends = c.loop.invariant.stands }
