-- What writing the sheet promises.
use Rattle.std.specs.Prelude.{ℕ, ◌≡◌, cond, List, Result, ltb, length}
use Rattle.std.proofs.lemmas.List.Edits.{sets}
use Rattle.refusal.specs.Answer.{Answer, value, refused, answer_of}
use Rattle.refusal.specs.declared.Refusal.{Refusal}
use Rattle.table.specs.Tables.{table_in, sound}
use Rattle.sheet.specs.Texts.{quotes_text, sheet_text}

-- the text of a lent table
abbrev pub text_of : List ℕ → List ℕ
text_of s = sheet_text (table_in s)

-- 02, 1: the quote section of it
abbrev pub section_of : List ℕ → List ℕ
section_of s = quotes_text (table_in s).quotes

-- 01, Refusals by number: 4: a text into a lent buffer
abbrev pub text_answer : List ℕ → List ℕ → Answer ℕ
text_answer text before = cond (ltb (length before) (length text)) (refused 4 0) (value (length text))

-- only the bytes it needs, from the front; refused, not one
abbrev pub text_from : Answer ℕ → List ℕ → List ℕ → List ℕ
text_from (value n) text before = sets before 0 text
text_from (refused n f) text before = before

-- 01, Order of checks: Sheet: 5, 4
unfoldable pub sheet_answer : List ℕ → List ℕ → Answer ℕ
sheet_answer s before = cond (sound s) (text_answer (text_of s) before) (refused 5 0)

abbrev pub sheet_from : Answer ℕ → List ℕ → List ℕ → List ℕ
sheet_from answer s before = text_from answer (text_of s) before

-- `sheet::write`: it answers how many bytes were written; `after` is the lent buffer when it returns
pub record Sheets (table before : List ℕ) (x : Result ℕ Refusal) (after : List ℕ) : Type 0 where
  pub said : answer_of x ≡ sheet_answer table before
  pub out : after ≡ sheet_from (sheet_answer table before) table before
