-- The kinds of field that are kept as their bytes.
use Rattle.std.specs.Prelude.{ℕ, Bool, false, not, ◌&&◌, ◌||◌, List, [], ◌∷◌, eqb}
use Rattle.run.specs.Runs.{all, member}
use Rattle.field.specs.Byte.{is_of}
use Rattle.field.specs.declared.Class.TheVariants.{Printable, Space, Digit, Hex}

-- 01, The line: Text: bytes 20 to 7E hex, the first not a space
abbrev pub is_text : List ℕ → Bool
is_text [] = false
is_text (b ∷ s) = not (eqb b 32) && all (is_of Printable) (b ∷ s)

-- 01, The line: Blank: all spaces
abbrev pub is_blank : List ℕ → Bool
is_blank s = all (is_of Space) s

-- 01, The line: 7
abbrev pub is_text_or_blank : List ℕ → Bool
is_text_or_blank s = is_text s || is_blank s

-- 01, The line: 8, 9
abbrev pub is_digits_or_blank : List ℕ → Bool
is_digits_or_blank s = all (is_of Digit) s || is_blank s

-- 01, The line: 13
abbrev pub is_hex : List ℕ → Bool
is_hex s = all (is_of Hex) s

-- 01, The line: 2, 4, 5, 6, 14, 17, 20: one byte, one of a list of codes
abbrev pub is_code : List ℕ → List ℕ → Bool
is_code codes [] = false
is_code codes (b ∷ []) = member b codes
is_code codes (b ∷ c ∷ s) = false
