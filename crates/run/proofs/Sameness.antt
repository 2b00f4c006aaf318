-- Runs that are the same.
use Prim.Native.Nat.{ℕ, ◌+◌, ◌≤◌, ◌<◌}
use native.Mathlib.Nat.{le_of_eq}
use mathlib.Core.Path.{◌≡◌, refl, sym, ap, ap₂, ◌∙◌}
use mathlib.Core.Bool.{Bool, true, ◌&&◌, and_assoc, false≢true}
use mathlib.Core.List.{List, [], ◌∷◌}
use borrow.Author.Tests.{eqb-true, eq-eqb}
use lib.Dec.{eqb}
use lib.ListN.{length, get_or, drop}
use lib.Seq.{take_all}
use Rattle.run.specs.Runs.{part, same}
use Rattle.run.proofs.Tests.{both}
use Rattle.run.proofs.Scan.{at_next}
use Rattle.run.proofs.Parts.{part_next}

pub same_self : (s : List ℕ) → same s s ≡ true
same_self [] = refl
same_self (a ∷ s) = rw (eq-eqb a a refl) (same_self s)

pub same_true : (s t : List ℕ) → same s t ≡ true → s ≡ t
same_true [] [] e = refl
same_true [] (b ∷ t) e = absurd (false≢true e)
same_true (a ∷ s) [] e = absurd (false≢true e)
same_true (a ∷ s) (b ∷ t) e =
    let h = both (eqb a b) (same s t) e in
    ap₂ {B = List ℕ} {C = List ℕ} ◌∷◌ (eqb-true a b h.0) (same_true s t h.1)

-- a run compared from its start on
pub same_whole : (s t : List ℕ) → length s ≡ length t → same (part s 0 (length t)) t ≡ same s t
same_whole s t e = ap (λ l. same l t) (take_all (length t) s (le_of_eq e))

-- ---- what is left to compare of a part and a run

module _ (l t : List ℕ) (at i : ℕ) where
  abbrev rest : ℕ → Bool
  rest j = same (drop j (part l at (length t))) (drop j t)

  pub same_next : (x good : Bool) → at + length t ≤ length l → i < length t → x ≡ (good && rest i)
      → x ≡ ((good && eqb (get_or l (at + i) 0) (get_or t i 0)) && rest (i + 1))
  same_next x good h k e =
      e ∙ rw (part_next l at (length t) i h k, at_next t i k) (sym (and_assoc good (eqb (get_or l (at + i) 0) (get_or t i 0)) (rest (i + 1))))
