-- What all records of a section say as a list, whatever the reading of one: after a store of one of them, and after an append.
use Prim.Native.Nat.{ℕ, zero, suc, ◌+◌, ◌≤◌, ◌<◌}
use native.Mathlib.Nat.{add-zero, zero-add}
use native.Mathlib.Numerals.{add-one}
use native.Mathlib.Omega.{arith}
use mathlib.Core.Path.{◌≡◌, refl, sym, ap, ap₂, ◌∙◌}
use mathlib.Core.Bool.{Bool, true, false}
use mathlib.Core.List.{List, [], ◌∷◌, ◌++◌}
use borrow.Author.Tests.{eqb-true, eqb-false}
use lib.Dec.{eqb}
use lib.ListN.{length, get_or, set, length-set}
use lib.Seq.{sets, get_or-set_same, get_or-set_other, ext_get_or}
use Rattle.section.specs.Sections.{start_of, record_of, records_in, Holds}
use Rattle.section.specs.declared.Section.{Section}
use Rattle.section.proofs.Stores.{stored_here, stored_elsewhere}

module _ {A : Type 0} (read : List ℕ → A) (c : Section) where
  pub length_records : (s : List ℕ) (i n : ℕ) → length (records_in read c s i n) ≡ n
  length_records s i zero = refl
  length_records s i (suc n) = ap suc (length_records s (i + 1) n)

  pub record_no : (s : List ℕ) (i n k : ℕ) (none : A) → k < n → get_or (records_in read c s i n) k none ≡ read (record_of c s (i + k))
  record_no s i zero k none h = absurd (omega arith)
  record_no s i (suc n) zero none h = ap (λ j. read (record_of c s j)) (sym (add-zero i))
  record_no s i (suc n) (suc k) none h =
      let e : i + 1 + k ≡ i + suc k = omega arith in
      record_no s (i + 1) n k none (omega arith) ∙ ap (λ j. read (record_of c s j)) e

  one_of : (s : List ℕ) (n k : ℕ) (none : A) → k < n → get_or (records_in read c s 0 n) k none ≡ read (record_of c s k)
  one_of s n k none h = record_no s 0 n k none h ∙ ap (λ j. read (record_of c s j)) (zero-add k)

  pub records_same : (s u : List ℕ) (i n : ℕ) → ((k : ℕ) → i ≤ k → k < i + n → record_of c s k ≡ record_of c u k)
      → records_in read c s i n ≡ records_in read c u i n
  records_same s u i zero e = refl
  records_same s u i (suc n) e =
      ap₂ {B = List A} {C = List A} ◌∷◌ (ap read (e i (omega arith) (omega arith)))
      (records_same s u (i + 1) n (λ k a b. e k (omega arith) (omega arith)))

  pub records_last : (s : List ℕ) (i n : ℕ) → records_in read c s i (suc n) ≡ records_in read c s i n ++ (read (record_of c s (i + n)) ∷ [])
  records_last s i zero = ap (λ j. read (record_of c s j) ∷ []) (sym (add-zero i))
  records_last s i (suc n) =
      let e : i + 1 + n ≡ i + suc n = omega arith in
      ap (λ (xs : List A). read (record_of c s i) ∷ xs)
      (records_last s (i + 1) n ∙ ap (λ j. records_in read c s (i + 1) n ++ (read (record_of c s j) ∷ [])) e)

  -- the records once one of them is stored whole
  module _ (s b : List ℕ) (e : length b ≡ c.width) where
    pub records_set : (n i : ℕ) → i < n → Holds c s n → records_in read c (sets s (start_of c i) b) 0 n ≡ set (records_in read c s 0 n) i (read b)
    records_set n i h l =
        let old = length_records s 0 n in
        let new = length_records (sets s (start_of c i) b) 0 n in
        ext_get_or (read b) (records_in read c (sets s (start_of c i) b) 0 n) (set (records_in read c s 0 n) i (read b)) (rw (length-set, old, new))
        (λ k m. at k (omega arith) (eqb k i) refl)
      where
        at : (k : ℕ) → k < n → (t : Bool) → eqb k i ≡ t
            → get_or (records_in read c (sets s (start_of c i) b) 0 n) k (read b) ≡ get_or (set (records_in read c s 0 n) i (read b)) k (read b)
        at k m true q =
            let one : k ≡ i = eqb-true k i q in
            let long = length_records s 0 n in
            rw one
            (one_of (sets s (start_of c i) b) n i (read b) h
            ∙ ap read (stored_here c s b i e (l.inside i h))
            ∙ sym (get_or-set_same (records_in read c s 0 n) i (read b) (read b) (omega arith)))
        at k m false q =
            let other = eqb-false k i q in
            one_of (sets s (start_of c i) b) n k (read b) m
            ∙ ap read (stored_elsewhere c s b i k e l.apart (λ p. other (sym p)))
            ∙ sym (get_or-set_other (records_in read c s 0 n) i k (read b) (read b) other ∙ one_of s n k (read b) m)

    pub records_append : (n : ℕ) → Holds c s (n + 1) → records_in read c (sets s (start_of c n) b) 0 (n + 1) ≡ records_in read c s 0 n ++ (read b ∷ [])
    records_append n l =
        rw (add-one n, records_last (sets s (start_of c n) b) 0 n, zero-add n, stored_here c s b n e (l.inside n (omega arith)))
        (ap (λ xs. xs ++ (read b ∷ []))
        (records_same (sets s (start_of c n) b) s 0 n (λ k a m. stored_elsewhere c s b n k e l.apart (λ q. omega arith))))
