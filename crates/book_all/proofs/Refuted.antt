-- No wrong way of specs/Wrong.antt keeps the promise.
use Prim.Native.Nat.{ℕ, ◌+◌}
use native.Mathlib.Omega.{arith}
use mathlib.Core.Path.{◌≡◌, refl, sym, ap, subst, ◌∙◌}
use mathlib.Core.Bool.{true}
use mathlib.Core.List.{List, [], ◌∷◌}
use lib.ListN.{length, get_or, replicate, length-replicate, get_or-replicate}
use lib.Seq.{take-length}
use Rattle.std.specs.Prelude.{Result}
use Rattle.refusal.specs.Answer.{answer_of, code_of}
use Rattle.refusal.specs.declared.Refusal.{Refusal}
use Rattle.layout.specs.Line.{read}
use Rattle.layout.proofs.Forms.{no_value}
use Rattle.table.specs.Tables.{least_limit, sound}
use Rattle.table.proofs.Making.{blank, blank_limit, blank_meant}
use Rattle.book.specs.Bytes.{book_answer, book_bytes, bytes_after}
use Rattle.book.proofs.Reached.{Reached, reached_answer, reached_bytes}
use Rattle.run.proofs.Stores.{sets_whole}
use Rattle.piece.specs.Pieces.{pieces}
use Rattle.book_all.specs.InTurn.{answers_to, first_pieces}
use Rattle.book_all.specs.Wrong.{Keeps, LeavesOut, JudgesByFirst, TakesDamaged}
use Rattle.book_all.specs.declared.Used.{Used}
use Rattle.book_all.proofs.Given.{answers_long}

-- ---- the witness against judging by the table as it was lent: two ends of day in an empty table

abbrev empty : List ℕ
empty = bytes_after blank []

abbrev twice : List ℕ
twice = 13 ∷ 10 ∷ 13 ∷ 10 ∷ []

abbrev end : List ℕ
end = 13 ∷ 10 ∷ []

reached : (ps : List (List ℕ)) → Reached least_limit ps (bytes_after blank ps)
reached ps = subst (λ (n : ℕ). Reached n ps (bytes_after blank ps)) blank_limit (reached_bytes blank blank_meant ps)

first_end : code_of (book_answer empty end) ≡ 0
unfolding read
first_end = ap code_of (reached_answer (reached []) end)

second_end : code_of (book_answer (book_bytes empty end) end) ≡ 6
unfolding read
second_end = ap code_of (reached_answer (reached (end ∷ [])) end)

-- ---- what keeps the promise is none of these

module _ {book_all : List ℕ → List ℕ → List ℕ → Result Used Refusal × List ℕ × List ℕ} (keeps : Keeps book_all) where
  -- with room for all, the answers are those to the pieces one after another
  given_all : (table text answers : List ℕ) → sound table ≡ true → length answers ≡ length (pieces text)
      → (book_all table text answers).2 ≡ answers_to table (pieces text)
  given_all table text answers e n =
      let first : first_pieces (length answers) text ≡ pieces text = rw n (take-length (pieces text)) in
      (rw (e, first) at (keeps table text answers).told)
      ∙ sets_whole answers (answers_to table (pieces text)) (answers_long table (pieces text) ∙ sym n)

  pub leaves_out : LeavesOut book_all → ⊥
  leaves_out (table, text, i, good, there, out) =
      let right = get_or (answers_to table (pieces text)) i 0 in
      let lent = replicate (length (pieces text)) (right + 1) in
      let all : length lent ≡ length (pieces text) = length-replicate {A = ℕ} (length (pieces text)) (right + 1) in
      let said : right ≡ right + 1 = ap (λ (xs : List ℕ). get_or xs i 0) (sym (given_all table text lent good all)) ∙ out lent all ∙ get_or-replicate (length (pieces text)) i (right + 1) 0 there in
      omega arith

  pub judges_by_first : JudgesByFirst book_all → ⊥
  judges_by_first same =
      let good = (reached []).good in
      let right = given_all empty twice (9 ∷ 9 ∷ []) good refl in
      let wrong = same empty twice (9 ∷ 9 ∷ []) good in
      let second : code_of (book_answer (book_bytes empty end) end) ≡ code_of (book_answer empty end) = ap (λ (xs : List ℕ). get_or xs 1 0) (sym right ∙ wrong) in
      omega (arith, first_end, second_end)

  pub takes_damaged : TakesDamaged book_all → ⊥
  takes_damaged (table, text, answers, u, damaged, e) =
      no_value (sym (rw damaged at (sym (ap answer_of e) ∙ (keeps table text answers).said)))
