-- Bytes compared eight at a time: what is known once a run is compared so far.
use Rattle.std.specs.Prelude.{ℕ, ◌≡◌, Bool, ◌&&◌, List, length, drop}
use Rattle.run.specs.Runs.{part, same}

-- the first i bytes of a run were compared with those from an offset on, and r is the answer so far
abbrev pub SameUpTo : List ℕ → ℕ → List ℕ → Bool → ℕ → Type 0
SameUpTo s at t r i = same (part s at (length t)) t ≡ (r && same (drop i (part s at (length t))) (drop i t))
