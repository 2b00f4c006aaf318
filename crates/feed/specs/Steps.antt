-- What one step over a chunk of the text does, and what is done at its end.
use Rattle.std.specs.Prelude.{ℕ, ◌+◌, ◌-◌, ◌^◌, ◌≡◌, Bool, false, cond, List, [], ◌∷◌, ◌++◌, ltb, eqb, length, take}
use Rattle.std.proofs.lemmas.List.Edits.{sets}
use Rattle.book.specs.Bytes.{book_bytes, book_answer}
use Rattle.sheet.specs.Promises.{text_of}
use Rattle.sheet.specs.Texts.{longest_sheet}
use Rattle.piece.specs.Pieces.{pieces}
use Rattle.feed.specs.Printed.{report}
use Rattle.feed.specs.declared.Fed.{Fed}

-- what is kept from chunk to chunk: the front of a piece whose end has not come, the number of the piece to come, the bytes of the table
pub data Between : Type 0 where
  between : (held : List ℕ) (line : ℕ) (table : List ℕ) → Between

-- what the hold keeps beside the table: the front of that piece, and its number
pub record Held : Type 0 where
  pub piece : List ℕ
  pub line : ℕ

abbrev pub nothing_held : (line : ℕ) → Held
nothing_held line = record { piece = []; line = line }

abbrev pub between_of : Held → (table : List ℕ) → Between
between_of held table = between held.piece held.line table

-- the hold: no more of a piece than shows that it is too long, one byte more than a line
abbrev pub hold_length : ℕ
hold_length = 141

abbrev pub kept_of : List ℕ → List ℕ
kept_of p = take hold_length p

-- the longest refusal line has 46 bytes
abbrev pub longest : ℕ
longest = 46

-- the end of the text: a refusal line for the last piece, and the sheet of a table of a limit
abbrev pub room_at_end : (limit : ℕ) → ℕ
room_at_end limit = longest + longest_sheet limit

-- a number of 64 bits does not grow past the last; `Whole` asks for fewer pieces than that
abbrev pub next_line : ℕ → ℕ
next_line l = cond (ltb l (2 ^ 64 - 1)) (l + 1) l

abbrev pub ends_in_lf : List ℕ → Bool
ends_in_lf [] = false
ends_in_lf (b ∷ []) = eqb b 10
ends_in_lf (b ∷ c ∷ s) = ends_in_lf (c ∷ s)

-- how much of a chunk was used, what was written, and what is kept
pub data Step : Type 0 where
  step : (used : ℕ) (text : List ℕ) (kept : Between) → Step

abbrev pub used_of : Step → ℕ
used_of (step used text kept) = used

abbrev pub text_in : Step → List ℕ
text_in (step used text kept) = text

abbrev pub kept_in : Step → Between
kept_in (step used text kept) = kept

-- a step behind one that used n bytes and wrote x
abbrev pub after : ℕ → List ℕ → Step → Step
after n x (step used text kept) = step (n + used) (x ++ text) kept

-- a part of a chunk, one after another. A piece that ends is booked, if there is room for a refusal line; one that does not is held
abbrev pub step_over : ℕ → List ℕ → ℕ → List ℕ → List (List ℕ) → Step
step_over room held line table [] = step 0 [] (between held line table)
step_over room held line table (p ∷ ps) =
    let said = report line (book_answer table (held ++ p)) in
    cond (ends_in_lf p)
    (cond (ltb room longest) (step 0 [] (between held line table))
    (after (length p) said (step_over (room - length said) [] (next_line line) (book_bytes table (held ++ p)) ps)))
    (step (length p) [] (between (kept_of (held ++ p)) line table))

abbrev pub step_from : ℕ → Between → List ℕ → Step
step_from room (between held line table) chunk = step_over room held line table (pieces chunk)

-- 01, The line: a piece runs "or to the end of the text": what is held when the text ends is the last one
abbrev pub last_said : Between → List ℕ
last_said (between [] line table) = []
last_said (between (b ∷ s) line table) = report line (book_answer table (b ∷ s))

abbrev pub last_table : Between → List ℕ
last_table (between [] line table) = table
last_table (between (b ∷ s) line table) = book_bytes table (b ∷ s)

-- "and at the end the sheet"
abbrev pub finished : Between → List ℕ
finished x = last_said x ++ text_of (last_table x)

-- ---- what the functions leave in the hold and the lent bytes

-- the first n bytes of the hold are in use
abbrev pub held_in : List ℕ → ℕ → List ℕ
held_in hold n = take n hold

-- a step that the code made: `before` is the output buffer as it was, the last three are as they are afterwards
pub record Fits (x : Step) (before : List ℕ) (r : Fed) (table : List ℕ) (hold : Held) (out : List ℕ) : Type 0 where
  pub used : r.used ≡ used_of x
  pub wrote : r.wrote ≡ length (text_in x)
  pub written : out ≡ sets before 0 (text_in x)
  pub kept : between_of hold table ≡ kept_in x
