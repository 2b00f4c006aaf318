-- A strike's unit, and the form of a value under one code.
use Prim.Native.Nat.{ℕ, ◌*◌, ◌≤◌, ◌<◌}
use mathlib.Core.Path.{◌≡◌}
use mathlib.Core.Bool.{Bool, true, false, cond}
use native.Mathlib.Nat.{mul-le-mul}
use native.Mathlib.Omega.{arith}
use lib.Dec.{eqb}
use Rattle.field.proofs.Fill.{between}
use Rattle.layout.specs.Layout.{least_strike}
use Rattle.layout.specs.Strikes.{unit, lawful_strike}

unit_bounds : (d : ℕ) → (0 < unit d) × (unit d ≤ 10000)
unit_bounds d = go (eqb d 65) (eqb d 66) (eqb d 67) (eqb d 68)
  where
    go : (a b c e : Bool) → let u : ℕ = cond a 10000 (cond b 1000 (cond c 100 (cond e 10 1))) in (0 < u) × (u ≤ 10000)
    go true b c e = (omega arith, omega arith)
    go false true c e = (omega arith, omega arith)
    go false false true e = (omega arith, omega arith)
    go false false false true = (omega arith, omega arith)
    go false false false false = (omega arith, omega arith)

pub unit_some : (d : ℕ) {u : ℕ} → u ≡ unit d → 0 < u
unit_some d e = rw e (unit_bounds d).0

pub value_most : (d n : ℕ) {u : ℕ} → u ≡ unit d → lawful_strike d n ≡ true → n * u ≤ 9999990000
value_most d n e l =
    let six : n ≤ 999999 = (between (least_strike d) 999999 n l).1 in
    rw e (mul-le-mul six (unit_bounds d).1)
