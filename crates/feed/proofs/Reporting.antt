-- A refusal line: its parts one behind the other, and how long it can be.
use Prim.Native.Nat.{ℕ, ◌+◌, ◌≤◌}
use native.Mathlib.Omega.{arith}
use mathlib.Core.Path.{◌≡◌, refl}
use mathlib.Core.List.{List, [], ◌∷◌}
use borrow.Author.Tests.{ne_eqb}
use denote.Laws.{Is}
use denote.Enum.Declared.{row}
use denote.Enum.Laws.{val}
use lib.ListN.{length}
use lib.Seq.{sets}
use Rattle.refusal.specs.Numbers.{number_of, field_of}
use Rattle.refusal.specs.declared.Refusal.{Refusal}
use Rattle.refusal.specs.declared.Refusal.TheVariants.{NoLine, BadByte, Field, NoRoom, Damaged, DayOver, KnownKey, UnknownKey, OtherSeries, NotOpen, NotExecuted, Full, RowFull}
use Rattle.refusal.proofs.OneNumber.{one_refusal}
use Rattle.refusal.specs.contracts.Refusal.{the_type}
use Rattle.refusal.proofs.Refusal.TheLaws.{the_laws}
use Rattle.row.specs.Texts.{decimal}
use Rattle.row.specs.Writes.{Put}
use Rattle.row.proofs.Puts.{run_put, then}
use Rattle.feed.specs.Printed.{field_word, field_text}
use Rattle.feed.proofs.Longest.{tail_most}

-- ---- the field

-- "with ` field F` after a 3", and nothing after any other
pub other_put : (x : Refusal) (at : ℕ) (l : List ℕ) → ((f : ℕ) → x ≡ Field f → ⊥) → Put (field_text (number_of x) (field_of x)) at l l at
other_put x at l never =
    rw (ne_eqb (number_of x) 3 (λ e. never (field_of x) (one_refusal x (Field (field_of x)) e refl))) (record { end = omega arith; out = refl })

pub field_put : (x : Refusal) (f at : ℕ) (l₀ l₁ l₂ : List ℕ) (r : ℕ) → x ≡ Field f → l₁ ≡ sets l₀ at field_word
    → Put (decimal f) (at + 7) l₁ l₂ r → Put (field_text (number_of x) (field_of x)) at l₀ l₂ r
field_put x f at l₀ l₁ l₂ r e h p = rw e (then (run_put field_word h) p)

-- ---- how long it is

-- a field is a u8
few : (x : Refusal) → Is (row the_type) x (val the_type the_laws x ∷ []) → (number_of x ≤ 99) × (field_of x ≤ 255)
few NoLine g = (omega arith, omega arith)
few BadByte g = (omega arith, omega arith)
few (Field f) g = (omega arith, omega (arith, g))
few NoRoom g = (omega arith, omega arith)
few Damaged g = (omega arith, omega arith)
few DayOver g = (omega arith, omega arith)
few KnownKey g = (omega arith, omega arith)
few UnknownKey g = (omega arith, omega arith)
few OtherSeries g = (omega arith, omega arith)
few NotOpen g = (omega arith, omega arith)
few NotExecuted g = (omega arith, omega arith)
few Full g = (omega arith, omega arith)
few RowFull g = (omega arith, omega arith)

pub short : (x : Refusal) → Is (row the_type) x (val the_type the_laws x ∷ [])
    → (length (decimal (number_of x)) ≤ 2) × (length (decimal (number_of x)) + length (field_text (number_of x) (field_of x)) ≤ 11)
short x g = let h = few x g in tail_most (number_of x) (field_of x) (omega arith) (omega arith)
