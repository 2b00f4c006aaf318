-- `sheet::kin::Orders::skip` meets its contract: a member passed over is one less to pass over.
use Prim.Native.Nat.{◌-◌}
use Rattle.sheet.specs.Walk.{elders_in}
use Rattle.sheet.proofs.Turning.{Skipping}
use Rattle.sheet.proofs.kin.Orders.skip.Given as goal

abbrev pub invariant-loop : goal.invariant-loop
invariant-loop l = Skipping (elders_in l.self.n l.self.t.now) l.self.n l.count (l.count - l.counter) l.x
