-- Classes of bytes.
use Rattle.std.specs.Prelude.{ℕ, Bool, not, ◌&&◌, ◌||◌, leb, eqb}
use Rattle.field.specs.declared.Class.{Class}
use Rattle.field.specs.declared.Class.TheVariants.{Printable, Space, Digit, Hex}

-- 01, The line: bytes 20 to 7E hex; the space; 0-9; 0-9 A-F
abbrev pub is_of : Class → ℕ → Bool
is_of Printable b = leb 32 b && leb b 126
is_of Space b = eqb b 32
is_of Digit b = leb 48 b && leb b 57
is_of Hex b = leb 48 b && leb b 57 || leb 65 b && leb b 70

-- a byte that no fill of spaces passes over
abbrev pub other_than_space : ℕ → Bool
other_than_space b = not (eqb b 32)
