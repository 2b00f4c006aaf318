-- The first in a list that passes a test: what a lookup finds and what a change of it leaves, by its place, and with others behind. Orders are looked up
-- so by their key, quote rows by their quote.
use Prim.Native.Nat.{ℕ, zero, suc, ◌+◌, ◌<◌}
use native.Mathlib.Omega.{arith}
use mathlib.Core.Path.{◌≡◌, refl, sym, ◌∙◌}
use mathlib.Core.Bool.{Bool, true, false, cond}
use mathlib.Core.List.{List, [], ◌∷◌, ◌++◌}
use lib.ListN.{length, get_or, set}
use Rattle.run.specs.Found.{one_more}

module _ {A B : Type 0} (test : A → Bool) (no : B) (yes : A → B) (is : B → Bool) where
  -- a lookup answers the first, or that there is none
  pub record Finds (find : List A → B) : Type 0 where
    pub nobody : is no ≡ false
    pub somebody : (x : A) → is (yes x) ≡ true
    pub nil : find [] ≡ no
    pub cons : (x : A) (xs : List A) → find (x ∷ xs) ≡ cond (test x) (yes x) (find xs)

module _ {A : Type 0} (test : A → Bool) where
  -- one more than its place, or 0
  pub record Places (place : List A → ℕ) : Type 0 where
    pub nil : place [] ≡ 0
    pub cons : (x : A) (xs : List A) → place (x ∷ xs) ≡ cond (test x) 1 (one_more (place xs))

  -- it is changed, if there is one
  pub record Amends (f : A → A) (amend : List A → List A) : Type 0 where
    pub nil : amend [] ≡ []
    pub cons : (x : A) (xs : List A) → amend (x ∷ xs) ≡ cond (test x) (f x ∷ xs) (x ∷ amend xs)

-- ---- with others behind

module _ {A B : Type 0} {test : A → Bool} {no : B} {yes : A → B} {is : B → Bool} {find : List A → B} (l : Finds test no yes is find) where
  pub find_behind : (xs ys : List A) → find (xs ++ ys) ≡ cond (is (find xs)) (find xs) (find ys)
  find_behind [] ys = rw (l.nil, l.nobody)
  find_behind (x ∷ xs) ys = rw (l.cons x (xs ++ ys), l.cons x xs, find_behind xs ys) (go (test x))
    where
      go : (t : Bool)
          → cond t (yes x) (cond (is (find xs)) (find xs) (find ys))
          ≡ cond (is (cond t (yes x) (find xs))) (cond t (yes x) (find xs)) (find ys)
      go true = rw (l.somebody x)
      go false = refl

  pub amend_behind : {f : A → A} {amend : List A → List A} → Amends test f amend → (xs ys : List A)
      → amend (xs ++ ys) ≡ amend xs ++ cond (is (find xs)) ys (amend ys)
  amend_behind a [] ys = rw (a.nil, l.nil, l.nobody)
  amend_behind {f} {amend} a (x ∷ xs) ys =
      rw (a.cons x (xs ++ ys), a.cons x xs, l.cons x xs, amend_behind a xs ys) (go (test x))
    where
      go : (t : Bool)
          → cond t (f x ∷ (xs ++ ys)) (x ∷ (amend xs ++ cond (is (find xs)) ys (amend ys)))
          ≡ cond t (f x ∷ xs) (x ∷ amend xs) ++ cond (is (cond t (yes x) (find xs))) ys (amend ys)
      go true = rw (l.somebody x)
      go false = refl

-- ---- by its place

-- the one at i is the first
data First {A : Type 0} (test : A → Bool) : List A → ℕ → Type 0 where
  here : {x : A} {xs : List A} → test x ≡ true → First test (x ∷ xs) 0
  later : {x : A} {xs : List A} {i : ℕ} → test x ≡ false → First test xs i → First test (x ∷ xs) (suc i)

module _ {A : Type 0} {test : A → Bool} where
  inside : {xs : List A} {i : ℕ} → First test xs i → i < length xs
  inside (here s) = omega arith
  inside (later s h) = omega (arith, inside h)

  module _ {place : List A → ℕ} (p : Places test place) where
    first : (xs : List A) (i : ℕ) → place xs ≡ i + 1 → First test xs i
    first [] i e = let z = p.nil in absurd (omega arith)
    first (x ∷ xs) i e = go (test x) refl (place xs) i (sym (p.cons x xs) ∙ e) (first xs)
      where
        go : (t : Bool) → test x ≡ t → (n i : ℕ) → cond t 1 (one_more n) ≡ i + 1 → ((j : ℕ) → n ≡ j + 1 → First test xs j)
            → First test (x ∷ xs) i
        go true s n zero e ih = here s
        go true s n (suc i) e ih = absurd (omega arith)
        go false s zero i e ih = absurd (omega arith)
        go false s (suc n) zero e ih = absurd (omega arith)
        go false s (suc n) (suc i) e ih = later s (ih i (omega arith))

    pub amend_first : {f : A → A} {amend : List A → List A} → Amends test f amend → (xs : List A) (i : ℕ) (none : A) → place xs ≡ i + 1
        → amend xs ≡ set xs i (f (get_or xs i none))
    amend_first {f} {amend} a xs i none e = go (first xs i e)
      where
        go : {xs : List A} {i : ℕ} → First test xs i → amend xs ≡ set xs i (f (get_or xs i none))
        go (here {x} {xs} s) = rw (a.cons x xs, s)
        go (later {x} {xs} s h) = rw (a.cons x xs, s, go h)

    module _ {B : Type 0} {no : B} {yes : A → B} {is : B → Bool} {find : List A → B} (l : Finds test no yes is find) where
      pub find_first : (xs : List A) (i : ℕ) (none : A) → place xs ≡ i + 1 → (i < length xs) × (find xs ≡ yes (get_or xs i none))
      find_first xs i none e = let h = first xs i e in (inside h, go h)
        where
          go : {xs : List A} {i : ℕ} → First test xs i → find xs ≡ yes (get_or xs i none)
          go (here {x} {xs} s) = rw (l.cons x xs, s)
          go (later {x} {xs} s h) = rw (l.cons x xs, s) (go h)

      pub find_none : (xs : List A) → place xs ≡ 0 → find xs ≡ no
      find_none [] e = l.nil
      find_none (x ∷ xs) e = rw (l.cons x xs) (go (test x) (place xs) (find_none xs) (sym (p.cons x xs) ∙ e))
        where
          go : (t : Bool) (n : ℕ) → (n ≡ 0 → find xs ≡ no) → cond t 1 (one_more n) ≡ 0 → cond t (yes x) (find xs) ≡ no
          go true n ih e = absurd (omega arith)
          go false zero ih e = ih refl
          go false (suc n) ih e = absurd (omega arith)
