-- A refusal is known by its number and its field.
use Prim.Native.Nat.{ℕ}
use mathlib.Core.Path.{◌≡◌, refl, sym, ap₂, ◌∙◌}
use mathlib.Core.Bool.{cond}
use lib.Dec.{eqb}
use Rattle.refusal.specs.Numbers.{number_of, field_of}
use Rattle.refusal.specs.declared.Refusal.{Refusal}
use Rattle.refusal.specs.declared.Refusal.TheVariants.{NoLine, BadByte, Field, NoRoom, Damaged, DayOver, KnownKey, UnknownKey, OtherSeries, NotOpen, NotExecuted, Full, RowFull}

-- the refusal with a number and a field
abbrev pub by_number : ℕ → ℕ → Refusal
by_number n f =
    cond (eqb n 1) NoLine
    (cond (eqb n 2) BadByte
    (cond (eqb n 3) (Field f)
    (cond (eqb n 4) NoRoom
    (cond (eqb n 5) Damaged
    (cond (eqb n 6) DayOver
    (cond (eqb n 7) KnownKey
    (cond (eqb n 8) UnknownKey
    (cond (eqb n 9) OtherSeries
    (cond (eqb n 10) NotOpen (cond (eqb n 11) NotExecuted (cond (eqb n 12) Full RowFull)))))))))))

same : (x : Refusal) → by_number (number_of x) (field_of x) ≡ x
same NoLine = refl
same BadByte = refl
same (Field f) = refl
same NoRoom = refl
same Damaged = refl
same DayOver = refl
same KnownKey = refl
same UnknownKey = refl
same OtherSeries = refl
same NotOpen = refl
same NotExecuted = refl
same Full = refl
same RowFull = refl

pub one_refusal : (x y : Refusal) → number_of x ≡ number_of y → field_of x ≡ field_of y → x ≡ y
one_refusal x y n f = sym (same x) ∙ ap₂ by_number n f ∙ same y
