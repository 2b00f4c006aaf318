-- What the pieces of a text are, described. proofs/Cutting.antt shows that `pieces` are these, and no others.
use Rattle.std.specs.Prelude.{ℕ, ◌≡◌, List, [], ◌∷◌, ◌++◌, false}
use Rattle.run.specs.Runs.{member}

-- up to and including the next LF
abbrev pub Ended : List ℕ → Type 0
Ended p = (q : List ℕ) × (p ≡ q ++ (10 ∷ [])) × (member 10 q ≡ false)

-- to the end of the text: not empty, and without an LF
pub record Unended (p : List ℕ) : Type 0 where
  pub filled : p ≡ [] → ⊥
  pub unbroken : member 10 p ≡ false

-- joined they are the text, none is empty, each but the last ends in LF
pub data Cuts : List ℕ → List (List ℕ) → Type 0 where
  nothing : Cuts [] []
  last : {p : List ℕ} → Unended p → Cuts p (p ∷ [])
  more : {p s : List ℕ} {ps : List (List ℕ)} → Ended p → Cuts s ps → Cuts (p ++ s) (p ∷ ps)
