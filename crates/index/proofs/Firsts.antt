-- The first number that a test holds of: one that fails is passed over, and the first hit stays the first however many follow.
use Rattle.std.proofs.Common.{◌≡◌, ℕ, zero, suc, ◌+◌, ◌<◌, ◌≤◌, Bool, true, false, ltb, sym, refl, ◌∙◌, add-one, arith, ltb-false, ltb-true}
use Rattle.index.specs.Searches.{first_of}

module _ (p : ℕ → Bool) where
  pub first_past : (n : ℕ) → p n ≡ false → first_of p (suc n) ≡ first_of p n
  first_past n q = go (first_of p n) refl
    where
      go : (a : ℕ) → first_of p n ≡ a → first_of p (suc n) ≡ first_of p n
      go zero e = rw (q, e)
      go (suc a) e = rw (q, e)

  pub first_stays : (n i k : ℕ) → i ≤ n → first_of p i ≡ suc k → first_of p n ≡ suc k
  first_stays zero i k l e = let none : i ≡ 0 = omega arith in rw none at e
  first_stays (suc n) i k l e = go (ltb i (suc n)) refl (first_stays n i k)
    where
      go : (t : Bool) → ltb i (suc n) ≡ t → (i ≤ n → first_of p i ≡ suc k → first_of p n ≡ suc k) → first_of p (suc n) ≡ suc k
      go true q f = rw (f (omega (arith, ltb-true i (suc n) q)) e)
      go false q f = let all : i ≡ suc n = omega (arith, ltb-false i (suc n) q) in rw all at e

  pub first_hit : (n i : ℕ) → i < n → first_of p i ≡ 0 → p i ≡ true → first_of p n ≡ i + 1
  first_hit n i l e h = first_stays n (suc i) i (omega arith) (rw (e, h)) ∙ sym (add-one i)
