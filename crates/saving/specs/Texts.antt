-- A text written into a lent buffer. What the sheet promises by, and may not change, has the same two (sheet/specs/Promises.antt, `text_answer` and `text_from`).
use Rattle.std.specs.Prelude.{ℕ, cond, List, ltb, length}
use Rattle.std.proofs.lemmas.List.Edits.{sets}
use Rattle.refusal.specs.Answer.{Answer, value, refused}

-- 01, Refusals by number: 4: a text into a lent buffer
abbrev pub text_answer : List ℕ → List ℕ → Answer ℕ
text_answer text before = cond (ltb (length before) (length text)) (refused 4 0) (value (length text))

-- only the bytes it needs, from the front; refused, not one
abbrev pub text_from : Answer ℕ → List ℕ → List ℕ → List ℕ
text_from (value n) text before = sets before 0 text
text_from (refused n f) text before = before
