-- 02, 2: what saving and loading are to one another, of the definitions alone. proofs/SavedDays.antt proves it.
use Rattle.std.specs.Prelude.{ℕ, ◌^◌, ◌≤◌, ◌<◌, ◌≡◌, true, List, ◌++◌, ◌↔◌, length, drop}
use Rattle.refusal.specs.Answer.{value, refused}
use Rattle.day.specs.Damage.{undamaged}
use Rattle.day.specs.Tables.{Table}
use Rattle.groups.specs.Taken.{taken, AreBytes}
use Rattle.groups.specs.Groups.{number_bytes, number_in}
use Rattle.saved.specs.Days.{saved_day, day_in}

-- "variable-length groups of seven bits .. always the fewest groups"
pub record NumberCode : Type 0 where
  -- what is written reads back, whatever stands behind it
  pub back : (v : ℕ) (s : List ℕ) → v < 2 ^ 64 → number_in (number_bytes v ++ s) ≡ taken v (length (number_bytes v))
  -- no other bytes read as a number
  pub forth : (s : List ℕ) (v w : ℕ) → AreBytes s → number_in s ≡ taken v w → (v < 2 ^ 64) × (number_bytes v ++ drop w s ≡ s)
  -- k groups hold what 7 * k bits do
  pub fewest : (k v : ℕ) → 1 ≤ k → k ≤ 10 → v < 128 ^ k → length (number_bytes v) ≤ k

pub record SavedDays (limit : ℕ) : Type 0 where
  -- "Saving then loading gives the same orders, rows and mark"
  pub saved_loaded : (t : Table) → undamaged limit t ≡ true → day_in limit (saved_day t) ≡ value t
  -- "loading then saving gives the bytes"
  pub loaded_saved : (s : List ℕ) (t : Table) → AreBytes s → day_in limit s ≡ value t → saved_day t ≡ s
  -- what is loaded is undamaged
  pub loaded_sound : (s : List ℕ) (t : Table) → day_in limit s ≡ value t → undamaged limit t ≡ true
  -- so a saved day has one table
  pub one_table : (t u : Table) → undamaged limit t ≡ true → undamaged limit u ≡ true → saved_day t ≡ saved_day u → t ≡ u
  -- "14, the bytes are no saved day or describe a damaged table": exactly then, and no other refusal
  pub no_day : (s : List ℕ) → AreBytes s → (day_in limit s ≡ refused 14 0) ↔ ((t : Table) → undamaged limit t ≡ true → saved_day t ≡ s → ⊥)
  pub no_other : (s : List ℕ) (n f : ℕ) → day_in limit s ≡ refused n f → (n ≡ 14) × (f ≡ 0)
