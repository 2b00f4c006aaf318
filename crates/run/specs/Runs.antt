-- Runs of bytes: a part of one, whether two are the same, and what holds of their bytes.
use Rattle.std.specs.Prelude.{ℕ, Bool, true, false, ◌&&◌, ◌||◌, List, [], ◌∷◌, eqb, take, drop}

-- the len bytes from an offset on
abbrev pub part : List ℕ → ℕ → ℕ → List ℕ
part s at len = take len (drop at s)

-- two runs are the same
abbrev pub same : List ℕ → List ℕ → Bool
same [] [] = true
same [] (b ∷ t) = false
same (a ∷ s) [] = false
same (a ∷ s) (b ∷ t) = eqb a b && same s t

-- every byte passes the test
abbrev pub all : (ℕ → Bool) → List ℕ → Bool
all p [] = true
all p (b ∷ s) = p b && all p s

-- a byte that must be 0
abbrev pub is_zero : ℕ → Bool
is_zero b = eqb b 0

-- a byte stands somewhere in a run
abbrev pub member : ℕ → List ℕ → Bool
member b [] = false
member b (a ∷ s) = eqb b a || member b s
