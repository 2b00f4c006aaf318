-- A run without the spaces on its right: what its last byte says of it, and how long it is.
use Prim.Native.Nat.{ℕ, suc, ◌≤◌}
use native.Mathlib.Omega.{arith}
use mathlib.Core.Path.{◌≡◌, refl, ap, ◌∙◌}
use mathlib.Core.Bool.{Bool, true, false, cond}
use mathlib.Core.List.{List, [], ◌∷◌, ◌++◌}
use borrow.Author.Tests.{ne_eqb}
use lib.Dec.{eqb}
use lib.ListN.{length}
use Rattle.row.specs.Texts.{before, trimmed}

-- ---- the last byte of a run

pub trimmed_space : (s : List ℕ) → trimmed (s ++ (32 ∷ [])) ≡ trimmed s
trimmed_space [] = refl
trimmed_space (b ∷ s) = ap (before b) (trimmed_space s)

before_some : (b : ℕ) (s : List ℕ) (c : ℕ) → before b (s ++ (c ∷ [])) ≡ b ∷ s ++ (c ∷ [])
before_some b [] c = refl
before_some b (a ∷ s) c = refl

pub trimmed_text : (s : List ℕ) (b : ℕ) → (b ≡ 32 → ⊥) → trimmed (s ++ (b ∷ [])) ≡ s ++ (b ∷ [])
trimmed_text [] b h = rw (ne_eqb b 32 h)
trimmed_text (a ∷ s) b h = ap (before a) (trimmed_text s b h) ∙ before_some a s b

-- ---- how long it is

before_most : (b : ℕ) (s : List ℕ) → length (before b s) ≤ suc (length s)
before_most b [] = go (eqb b 32)
  where
    go : (t : Bool) → length (cond t [] (b ∷ [])) ≤ 1
    go true = omega arith
    go false = omega arith
before_most b (c ∷ s) = omega arith

pub trimmed_most : (s : List ℕ) → length (trimmed s) ≤ length s
trimmed_most [] = omega arith
trimmed_most (b ∷ s) = omega (arith, before_most b (trimmed s), trimmed_most s)
