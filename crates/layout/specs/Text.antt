-- A text of ASCII characters as its bytes: examples are written so.
use Prim.Native.Char.{code}
use Rattle.std.specs.Prelude.{ℕ, List, [] as none, ◌∷◌ as ◌then◌}
use Prim.Native.String.{String, [], ◌∷◌}

abbrev pub bytes : String → List ℕ
bytes [] = none
bytes (c ∷ s) = code c then bytes s
