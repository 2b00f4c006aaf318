-- One order's figures: the test of damage is the record Sound of crate order, and every event keeps it.
use Prim.Native.Nat.{ℕ, ◌+◌, ◌-◌, ◌≤◌}
use native.Mathlib.Omega.{arith}
use mathlib.Core.Path.{◌≡◌}
use mathlib.Core.Bool.{true, ◌&&◌}
use borrow.Author.Tests.{leb-true, le-leb, eqb-true, eq-eqb}
use lib.Dec.{leb, eqb}
use Rattle.run.proofs.Tests.{both}
use Rattle.field.proofs.Fill.{between, is_between}
use Rattle.order.specs.Figure.{Sound, fresh_by, executed_by, broken_by, cancelled_by, passed_on}
use Rattle.order.specs.declared.Figures.{Figures}
use Rattle.order.specs.Stored.{sound_figures}

pub figures_sound : (f : Figures) → sound_figures f ≡ true → Sound f
figures_sound f e =
    let total = f.executed + f.cancelled + f.passed + f.«open» in
    let a = both (leb 1 f.size && leb f.size 999999 && leb f.broken f.executed) (eqb f.size total) e in
    let b = both (leb 1 f.size && leb f.size 999999) (leb f.broken f.executed) a.0 in
    let c = between 1 999999 f.size b.0 in
    record { least = c.0; most = c.1; broken = leb-true f.broken f.executed b.1; sum = eqb-true f.size total a.1 }

pub sound_figures_lem : (f : Figures) → Sound f → sound_figures f ≡ true
sound_figures_lem f s =
    rw (
      is_between 1 999999 f.size s.least s.most,
      le-leb f.broken f.executed s.broken,
      eq-eqb f.size (f.executed + f.cancelled + f.passed + f.«open») s.sum,
    )

-- ---- what each event does

pub fresh_sound : (n : ℕ) → 1 ≤ n → n ≤ 999999 → Sound (fresh_by n)
fresh_sound n h k = omega arith

pub executed_sound : (f : Figures) (n : ℕ) → n ≤ f.«open» → Sound f → Sound (executed_by f n)
executed_sound f n h s = omega arith

pub cancelled_sound : (f : Figures) (n : ℕ) → n ≤ f.«open» → Sound f → Sound (cancelled_by f n)
cancelled_sound f n h s = omega arith

pub broken_sound : (f : Figures) (n : ℕ) → n ≤ f.executed - f.broken → Sound f → Sound (broken_by f n)
broken_sound f n h s = omega arith

pub passed_sound : (f : Figures) → Sound f → Sound (passed_on f)
passed_sound f s = omega arith
