-- `sheet::kin::note` meets its contract: an elder that is no earlier order, or has a younger one, keeps what is noted.
use Prim.Native.Nat.{◌-◌}
use native.Mathlib.Omega.{arith}
use lib.ListN.{length-set}
use Rattle.sheet.proofs.Noting.{is_noted, not_noted, has_one}
use Rattle.sheet.proofs.kin.note.Goals as goal

pub returns-then-e-eq0 : goal.returns-then-e-eq0
returns-then-e-eq0 c =
    let e = c.if-e-eq0.true in
    not_noted c.args.kin.now c.args.i c.args.e c.requires.i_in_bounds (λ j l p. absurd (omega arith))

pub returns-then-i-e : goal.returns-then-i-e
returns-then-i-e c =
    let e = c.if-i-e.true in
    not_noted c.args.kin.now c.args.i c.args.e c.requires.i_in_bounds (λ j l p. absurd (omega arith))

pub bounds-kin-elder : goal.bounds-kin-elder
bounds-kin-elder c =
    omega (arith, length-set c.args.kin.now c.args.i 0)

pub returns-then-kin-elder-ne0 : goal.returns-then-kin-elder-ne0
returns-then-kin-elder-ne0 c =
    not_noted c.args.kin.now c.args.i c.args.e c.requires.i_in_bounds
    (has_one c.args.kin.now c.args.i c.args.e c.if-kin-elder-ne0.true)

pub bounds-kin-elder-2 : goal.bounds-kin-elder-2
bounds-kin-elder-2 c =
    omega (arith, length-set c.args.kin.now c.args.i 0)

pub returns : goal.returns
returns c =
    is_noted c.args.kin.now c.args.i c.args.e c.requires.i_in_bounds (c.args.e - 1) (omega arith) (omega arith) c.if-kin-elder-ne0.false
