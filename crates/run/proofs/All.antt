-- What all bytes of a run are, and whether one of them is a given one.
use Prim.Native.Nat.{ℕ, zero, suc}
use mathlib.Core.Path.{◌≡◌, refl, sym}
use mathlib.Core.Bool.{Bool, true, ◌||◌, or_assoc}
use mathlib.Core.List.{List, [], ◌∷◌, ◌++◌}
use lib.Dec.{eqb}
use lib.ListN.{take, drop}
use Rattle.run.specs.Runs.{all, member}
use Rattle.run.proofs.Tests.{both}

pub all_append : (p : ℕ → Bool) (s t : List ℕ) → all p s ≡ true → all p t ≡ true → all p (s ++ t) ≡ true
all_append p [] t h k = k
all_append p (b ∷ s) t h k = let d = both (p b) (all p s) h in rw d.0 (all_append p s t d.1 k)

pub all_snoc : (p : ℕ → Bool) (s : List ℕ) (b : ℕ) → all p s ≡ true → p b ≡ true → all p (s ++ (b ∷ [])) ≡ true
all_snoc p s b h k = all_append p s (b ∷ []) h (rw k)

pub all_take : (p : ℕ → Bool) (s : List ℕ) (w : ℕ) → all p s ≡ true → all p (take w s) ≡ true
all_take p s zero e = refl
all_take p [] (suc w) e = refl
all_take p (b ∷ s) (suc w) e = let h = both (p b) (all p s) e in rw h.0 (all_take p s w h.1)

pub all_drop : (p : ℕ → Bool) (s : List ℕ) (w : ℕ) → all p s ≡ true → all p (drop w s) ≡ true
all_drop p s zero e = e
all_drop p [] (suc w) e = refl
all_drop p (b ∷ s) (suc w) e = all_drop p s w (both (p b) (all p s) e).1

-- a test that passes more
pub all_wider : (p q : ℕ → Bool) → ((b : ℕ) → p b ≡ true → q b ≡ true) → (s : List ℕ) → all p s ≡ true → all q s ≡ true
all_wider p q h [] e = refl
all_wider p q h (b ∷ s) e = let d = both (p b) (all p s) e in rw (h b d.0) (all_wider p q h s d.1)

-- a byte stands in two runs joined where it stands in one of them
pub member_append : (b : ℕ) (s t : List ℕ) → member b (s ++ t) ≡ (member b s || member b t)
member_append b [] t = refl
member_append b (a ∷ s) t = rw (member_append b s t) (sym (or_assoc (eqb b a) (member b s) (member b t)))
