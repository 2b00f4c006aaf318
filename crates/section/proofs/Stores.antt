-- What a store does to the records of a section: one that misses a record leaves it, and a whole record says what was stored.
use Prim.Native.Nat.{ℕ, ◌+◌, ◌≤◌, ◌<◌}
use native.Mathlib.Omega.{arith}
use mathlib.Core.Path.{◌≡◌, refl}
use mathlib.Core.Bool.{Bool, true, false}
use mathlib.Core.List.{List}
use borrow.Author.Tests.{ltb-true, ltb-false}
use lib.Dec.{ltb}
use lib.ListN.{length}
use lib.Seq.{sets}
use Rattle.section.specs.Sections.{start_of, record_of, Inside}
use Rattle.section.specs.declared.Section.{Section}
use Rattle.run.proofs.Parts.{part_before, part_after, part_whole}
use Rattle.section.proofs.Places.{start_most, start_before}

module _ (c : Section) where
  -- ---- a store that misses: before the first record, between two, and behind the first n

  module _ (s xs : List ℕ) (at : ℕ) where
    pub kept_front : at + length xs ≤ c.first → (i : ℕ) → record_of c (sets s at xs) i ≡ record_of c s i
    kept_front h i = part_after s xs at (start_of c i) c.width (omega arith)

    pub kept_gap : (j : ℕ) → start_of c j + c.width ≤ at → at + length xs ≤ start_of c (j + 1) → (i : ℕ)
        → record_of c (sets s at xs) i ≡ record_of c s i
    kept_gap j h k i = go (ltb j i) refl
      where
        go : (t : Bool) → ltb j i ≡ t → record_of c (sets s at xs) i ≡ record_of c s i
        go true q = part_after s xs at (start_of c i) c.width (omega (arith, start_most c (j + 1) i (omega (arith, ltb-true j i q))))
        go false q = part_before s xs at (start_of c i) c.width (omega (arith, start_most c i j (ltb-false j i q)))

    pub kept_past : (n : ℕ) → start_of c n + c.width ≤ at + c.step → (i : ℕ) → i < n → record_of c (sets s at xs) i ≡ record_of c s i
    kept_past n h i k = part_before s xs at (start_of c i) c.width (omega (arith, start_before c i n k))

  -- ---- a store of a whole record

  pub stored_here : (s b : List ℕ) (i : ℕ) → length b ≡ c.width → Inside c s i → record_of c (sets s (start_of c i) b) i ≡ b
  stored_here s b i e h = part_whole s b (start_of c i) c.width (omega arith) e

  pub stored_elsewhere : (s b : List ℕ) (i j : ℕ) → length b ≡ c.width → c.width ≤ c.step → (i ≡ j → ⊥)
      → record_of c (sets s (start_of c i) b) j ≡ record_of c s j
  stored_elsewhere s b i j e a d = go (ltb i j) refl
    where
      go : (t : Bool) → ltb i j ≡ t → record_of c (sets s (start_of c i) b) j ≡ record_of c s j
      go true q = part_after s b (start_of c i) (start_of c j) c.width (omega (arith, start_before c i j (ltb-true i j q)))
      go false q =
          let less : j < i = omega (arith, ltb-false i j q, d) in
          part_before s b (start_of c i) (start_of c j) c.width (omega (arith, start_before c j i less))
