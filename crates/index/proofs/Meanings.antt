-- What the definitions say in words: the earliest record with a key, and keys that all differ.
use Rattle.std.proofs.Common.{◌≡◌, ℕ, zero, suc, ◌<◌, Bool, true, false, cond, ◌&&◌, eqb, ltb, List, sym, refl, ◌∙◌, true≢false, arith, ltb-false, ltb-true, eqb-true}
use Rattle.section.specs.Sections.{record_of}
use Rattle.section.specs.declared.Section.{Section}
use Rattle.run.specs.Found.{or_else}
use Rattle.index.specs.Searches.{first_of, has_key, earliest, all_distinct}
use Rattle.run.proofs.Tests.{both}
use Rattle.run.proofs.Sameness.{same_self, same_true}

-- ---- the first number that p holds of

pub record First (p : ℕ → Bool) (n i : ℕ) : Type 0 where
  pub within : i < n
  pub holds : p i ≡ true
  pub before : (j : ℕ) → j < i → p j ≡ false

module _ (p : ℕ → Bool) where
  pub first_none : (n : ℕ) → first_of p n ≡ 0 → (j : ℕ) → j < n → p j ≡ false
  first_none zero e j l = absurd (omega arith)
  first_none (suc n) e j l = go (first_of p n) refl (p n) refl e (first_none n) (ltb j n) refl
    where
      go : (r : ℕ) → first_of p n ≡ r → (t : Bool) → p n ≡ t → or_else r (cond t (suc n) 0) ≡ 0
          → (first_of p n ≡ 0 → (j : ℕ) → j < n → p j ≡ false) → (u : Bool) → ltb j n ≡ u → p j ≡ false
      go (suc r) a t q h f u z = absurd (omega arith)
      go zero a true q h f u z = absurd (omega arith)
      go zero a false q h f true z = f a j (ltb-true j n z)
      go zero a false q h f false z = let last : n ≡ j = omega (arith, ltb-false j n z) in rw last at q

  pub first_found : (n i : ℕ) → first_of p n ≡ suc i → First p n i
  first_found zero i e = absurd (omega arith)
  first_found (suc n) i e = go (first_of p n) refl (p n) refl e (first_found n i)
    where
      go : (r : ℕ) → first_of p n ≡ r → (t : Bool) → p n ≡ t → or_else r (cond t (suc n) 0) ≡ suc i → (first_of p n ≡ suc i → First p n i) → First p (suc n) i
      go (suc r) a t q h f = let one = f (a ∙ h) in record { within = omega (arith, one.within); holds = one.holds; before = one.before }
      go zero a false q h f = absurd (omega arith)
      go zero a true q h f =
          let here : n ≡ i = omega arith in
          record { within = omega arith; holds = rw here at q; before = λ j l. first_none n a j (omega arith) }

-- ---- keys that all differ

-- two of the first n records have one key
pub record Twice (keys : Section) (s : List ℕ) (n : ℕ) : Type 0 where
  pub one : ℕ
  pub other : ℕ
  pub earlier : one < other
  pub within : other < n
  pub alike : record_of keys s one ≡ record_of keys s other

module _ (keys : Section) (s : List ℕ) where
  pub distinct_differ : (n : ℕ) → all_distinct keys s n ≡ true → Twice keys s n → ⊥
  distinct_differ zero e w = omega (arith, w.within)
  distinct_differ (suc n) e w = go (both (all_distinct keys s n) (eqb (earliest keys s n (record_of keys s n)) 0) e) (ltb w.other n) refl (distinct_differ n)
    where
      go : (all_distinct keys s n ≡ true) × (eqb (earliest keys s n (record_of keys s n)) 0 ≡ true) → (t : Bool) → ltb w.other n ≡ t
          → (all_distinct keys s n ≡ true → Twice keys s n → ⊥) → ⊥
      go h true z f = f h.0 (record { one = w.one; other = w.other; earlier = w.earlier; within = ltb-true w.other n z; alike = w.alike })
      go h false z f =
          let key = record_of keys s n in
          let last : w.other ≡ n = omega (arith, ltb-false w.other n z, w.within) in
          let less : w.one < n = omega (arith, w.earlier) in
          let no : has_key keys s key w.one ≡ false = first_none (has_key keys s key) n (eqb-true (earliest keys s n key) 0 h.1) w.one less in
          let yes : has_key keys s key w.one ≡ true = rw (w.alike, last) (same_self key) in
          true≢false (sym yes ∙ no)

  pub repeats_twice : (n : ℕ) → all_distinct keys s n ≡ false → Twice keys s n
  repeats_twice zero e = absurd (true≢false e)
  repeats_twice (suc n) e = go (all_distinct keys s n) refl (earliest keys s n (record_of keys s n)) refl e (repeats_twice n)
    where
      go : (t : Bool) → all_distinct keys s n ≡ t → (r : ℕ) → earliest keys s n (record_of keys s n) ≡ r → (t && eqb r 0) ≡ false
          → (all_distinct keys s n ≡ false → Twice keys s n) → Twice keys s (suc n)
      go false d r q z f =
          let two = f d in
          record { one = two.one; other = two.other; earlier = two.earlier; within = omega (arith, two.within); alike = two.alike }
      go true d zero q z f = absurd (true≢false z)
      go true d (suc i) q z f =
          let found = first_found (has_key keys s (record_of keys s n)) n i q in
          record { one = i; other = n; earlier = found.within; within = omega arith; alike = same_true (record_of keys s i) (record_of keys s n) found.holds }
