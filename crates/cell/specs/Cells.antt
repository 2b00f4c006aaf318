-- Numbers in a lent buffer, little end first (docs/LAYOUT.md).
use Rattle.std.specs.Prelude.{ℕ, zero, suc, ◌+◌, ◌*◌, ◌/◌, ◌%◌, List, [], ◌∷◌}

-- the number that bytes say
abbrev pub le : List ℕ → ℕ
le [] = 0
le (b ∷ s) = b + 256 * le s

-- a number as w bytes
abbrev pub le_bytes : ℕ → ℕ → List ℕ
le_bytes zero v = []
le_bytes (suc w) v = v % 256 ∷ le_bytes w (v / 256)
