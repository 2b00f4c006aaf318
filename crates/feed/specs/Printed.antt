-- 01, The sheet: what the sheet program prints for the text that it reads.
use Rattle.std.specs.Prelude.{ℕ, ◌+◌, cond, List, [], ◌∷◌, ◌++◌, eqb}
use Rattle.refusal.specs.Answer.{Answer, value, refused}
use Rattle.day.specs.Machine.{book}
use Rattle.day.specs.Tables.{Table, empty}
use Rattle.row.specs.Texts.{decimal}
use Rattle.sheet.specs.Texts.{sheet_text}
use Rattle.piece.specs.Pieces.{pieces}

-- "line "
abbrev pub line_word : List ℕ
line_word = 108 ∷ 105 ∷ 110 ∷ 101 ∷ 32 ∷ []

-- " refused "
abbrev pub refused_word : List ℕ
refused_word = 32 ∷ 114 ∷ 101 ∷ 102 ∷ 117 ∷ 115 ∷ 101 ∷ 100 ∷ 32 ∷ []

-- " field "
abbrev pub field_word : List ℕ
field_word = 32 ∷ 102 ∷ 105 ∷ 101 ∷ 108 ∷ 100 ∷ 32 ∷ []

-- "with ` field F` after a 3"
abbrev pub field_text : ℕ → ℕ → List ℕ
field_text r f = cond (eqb r 3) (field_word ++ decimal f) []

-- "`line L refused R`"
abbrev pub refusal_line : ℕ → ℕ → ℕ → List ℕ
refusal_line l r f = line_word ++ decimal l ++ refused_word ++ decimal r ++ field_text r f ++ (10 ∷ [])

-- "prints for each refused piece"
abbrev pub report : ℕ → Answer (Unit {0}) → List ℕ
report l (value u) = []
report l (refused r f) = refusal_line l r f

-- "books each, .. as it comes .., and at the end the sheet": from a table of a limit on, the first piece numbered l
abbrev pub printed_from : (limit l : ℕ) → Table → List (List ℕ) → List ℕ
printed_from limit l t [] = sheet_text t
printed_from limit l t (p ∷ ps) = report l (book limit t p).answer ++ printed_from limit (l + 1) (book limit t p).table ps

-- "cuts it into pieces, numbers them from 1"
abbrev pub printed : (limit : ℕ) → List ℕ → List ℕ
printed limit text = printed_from limit 1 empty (pieces text)
