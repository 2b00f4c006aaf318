-- A page of the sheet: so many of its rows, from a row on. One row is a page too, which a later request (02, ticket 10) writes by its number.
use Rattle.std.specs.Prelude.{ℕ, zero, suc, ◌+◌, ◌≡◌, List, [], ◌++◌, Result, drop, take}
use Rattle.refusal.specs.Answer.{answer_of}
use Rattle.refusal.specs.declared.Refusal.{Refusal}
use Rattle.day.specs.Listing.{Sheet}
use Rattle.day.specs.Walk.{sheet_of}
use Rattle.table.specs.Tables.{table_in}
use Rattle.sheet.specs.Promises.{text_answer, text_from}
use Rattle.sheet.specs.Texts.{rows_text}

-- the rows behind so many others; none where there are no more
abbrev pub page_of_sheet : Sheet → ℕ → ℕ → List ℕ
page_of_sheet s passed most = rows_text (take most (drop passed s.rows))

-- of a lent table
abbrev pub page_of : List ℕ → ℕ → ℕ → List ℕ
page_of s passed most = page_of_sheet (sheet_of (table_in s)) passed most

-- row after row, so many of them
abbrev pub row_by_row : List ℕ → ℕ → ℕ → List ℕ
row_by_row s passed zero = []
row_by_row s passed (suc k) = page_of s passed 1 ++ row_by_row s (passed + 1) k

-- `sheet::page_sound`, of the text of a page
pub record Pages (text before : List ℕ) (x : Result ℕ Refusal) (after : List ℕ) : Type 0 where
  pub said : answer_of x ≡ text_answer text before
  pub out : after ≡ text_from (text_answer text before) text before
