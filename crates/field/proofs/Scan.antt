-- What a fold over a field's bytes says.
use Prim.Native.Nat.{ℕ}
use mathlib.Core.Path.{◌≡◌, sym, ◌∙◌}
use mathlib.Core.Bool.{Bool, true, ◌&&◌, and-true, and_assoc}
use mathlib.Core.List.{List, [], ◌∷◌}
use Rattle.run.specs.Runs.{all}
use Rattle.std.specs.Prelude.{fold}

-- all bytes tested, one after another
folded : (p : ℕ → Bool) (s : List ℕ) (good : Bool) → fold (λ t b. t && p b) good s ≡ (good && all p s)
folded p [] good = sym (and-true good)
folded p (b ∷ s) good = folded p s (good && p b) ∙ and_assoc good (p b) (all p s)

pub all_folded : (p : ℕ → Bool) (s : List ℕ) → fold (λ t b. t && p b) true s ≡ all p s
all_folded p s = folded p s true
