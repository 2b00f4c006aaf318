-- A text in several calls is the text in one: the next call begins behind the bytes that are used.
use Prim.Native.Nat.{ℕ, zero, suc, ◌+◌}
use mathlib.Core.Path.{◌≡◌, refl, sym, ap, ◌∙◌}
use mathlib.Core.List.{List, [], ◌∷◌, ◌++◌}
use lib.ListN.{length, take, drop}
use lib.Seq.{drop-drop, length-take-le, take-add}
use Rattle.refusal.specs.Answer.{code_of}
use Rattle.book.specs.Bytes.{book_answer, book_bytes}
use Rattle.piece.specs.Pieces.{pieces, piece_length}
use Rattle.piece.proofs.Firsts.{front, behind, first_piece}
use Rattle.piece.proofs.Lengths.{piece_inside}
use Rattle.book_all.specs.InTurn.{answers_to, table_after, first_pieces, bytes_of}

-- the bytes of the first pieces are those in front of the other pieces
pub rest : (n : ℕ) (text : List ℕ) → pieces (drop (bytes_of (first_pieces n text)) text) ≡ drop n (pieces text)
rest zero text = refl
rest (suc n) [] = refl
rest (suc n) (b ∷ s) = go (rest n (behind text))
  where
    text : List ℕ
    text = b ∷ s

    long : length (front text) ≡ piece_length text
    long = length-take-le (piece_length text) text (piece_inside text)

    go : pieces (drop (bytes_of (first_pieces n (behind text))) (behind text)) ≡ drop n (pieces (behind text))
        → pieces (drop (bytes_of (first_pieces (suc n) text)) text) ≡ drop (suc n) (pieces text)
    go e = rw (first_piece b s, long, ← drop-drop) e

answers_joined : (table : List ℕ) (ps qs : List (List ℕ)) → answers_to table (ps ++ qs) ≡ answers_to table ps ++ answers_to (table_after table ps) qs
answers_joined table [] qs = refl
answers_joined table (p ∷ ps) qs = ap (λ (xs : List ℕ). code_of (book_answer table p) ∷ xs) (answers_joined (book_bytes table p) ps qs)

table_joined : (table : List ℕ) (ps qs : List (List ℕ)) → table_after table (ps ++ qs) ≡ table_after (table_after table ps) qs
table_joined table [] qs = refl
table_joined table (p ∷ ps) qs = table_joined (book_bytes table p) ps qs

-- n pieces in one call and m in the next are n + m in one
module _ (table text : List ℕ) (n m : ℕ) where
  abbrev first : List (List ℕ)
  first = first_pieces n text

  abbrev second : List (List ℕ)
  second = first_pieces m (drop (bytes_of first) text)

  all_of : first_pieces (n + m) text ≡ first ++ second
  all_of = take-add n m (pieces text) ∙ ap (λ (ps : List (List ℕ)). first ++ take m ps) (sym (rest n text))

  pub onward : (answers_to table (first_pieces (n + m) text) ≡ answers_to table first ++ answers_to (table_after table first) second)
      × (table_after table (first_pieces (n + m) text) ≡ table_after (table_after table first) second)
  onward = (ap (answers_to table) all_of ∙ answers_joined table first second, ap (table_after table) all_of ∙ table_joined table first second)
