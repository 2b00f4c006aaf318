-- A place or else none is that place; the place of the first in a list that passes a test, with one more at its end.
use Prim.Native.Nat.{ℕ, zero, suc}
use mathlib.Core.Path.{◌≡◌, refl}
use mathlib.Core.Bool.{Bool, true, false, cond}
use mathlib.Core.List.{List, [], ◌∷◌, ◌++◌}
use lib.ListN.{length}
use Rattle.run.specs.Found.{or_else, one_more}

pub or_none : (a : ℕ) → or_else a 0 ≡ a
or_none zero = refl
or_none (suc a) = refl

module _ {A : Type 0} (test : A → Bool) (place : List A → ℕ) (none : place [] ≡ 0)
    (some : (x : A) (xs : List A) → place (x ∷ xs) ≡ cond (test x) 1 (one_more (place xs))) where
  pub place_last : (xs : List A) (x : A) → place (xs ++ (x ∷ [])) ≡ or_else (place xs) (cond (test x) (suc (length xs)) 0)
  place_last [] x = rw (some x [], none) (go (test x))
    where
      go : (t : Bool) → cond t 1 (one_more 0) ≡ or_else 0 (cond t 1 0)
      go true = refl
      go false = refl
  place_last (y ∷ xs) x =
      rw (some y (xs ++ (x ∷ [])), some y xs, place_last xs x) (go (test y) (test x) (place xs))
    where
      go : (t u : Bool) (p : ℕ)
          → cond t 1 (one_more (or_else p (cond u (suc (length xs)) 0))) ≡ or_else (cond t 1 (one_more p)) (cond u (suc (suc (length xs))) 0)
      go true u p = refl
      go false true zero = refl
      go false false zero = refl
      go false u (suc p) = refl
