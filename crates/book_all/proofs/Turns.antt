-- What a turn of the loop over a text keeps: what was done, and what is left to do, are the whole.
use Prim.Native.Nat.{ℕ, suc, ◌+◌, ◌-◌, ◌≤◌, ◌<◌}
use native.Mathlib.Numerals.{add-one}
use native.Mathlib.Omega.{arith}
use mathlib.Core.Path.{◌≡◌, sym, ap, ◌∙◌}
use mathlib.Core.Bool.{true}
use mathlib.Core.List.{List, ◌∷◌}
use lib.ListN.{length, drop, set}
use lib.Seq.{sets}
use Rattle.std.specs.Prelude.{Result}
use Rattle.refusal.specs.Answer.{answer_of, code_of}
use Rattle.refusal.specs.declared.Refusal.{Refusal}
use Rattle.table.specs.Tables.{sound}
use Rattle.book.specs.Bytes.{book_answer}
use Rattle.book.specs.Promises.{Books}
use Rattle.book.proofs.Machine.{booked_sound}
use Rattle.piece.specs.Pieces.{piece_length}
use Rattle.piece.proofs.Lent.{part, piece_bounds, part_long, next_piece}
use Rattle.book_all.specs.InTurn.{answers_to, table_after, first_pieces, bytes_of}

-- what is left to book from a place of the text on, once n answers of so many are given
abbrev ahead : List ℕ → ℕ → ℕ → ℕ → List (List ℕ)
ahead text room at n = first_pieces (room - n) (drop at text)

-- `table` and `answers` are as they were lent, `t` and `given` as they are at a turn
pub record Turn (table text answers t given : List ℕ) (at n : ℕ) : Type 0 where
  pub bytes : bytes_of (first_pieces (length answers) text) ≡ at + bytes_of (ahead text (length answers) at n)
  pub count : length (first_pieces (length answers) text) ≡ n + length (ahead text (length answers) at n)
  pub out : table_after table (first_pieces (length answers) text) ≡ table_after t (ahead text (length answers) at n)
  pub told : sets answers 0 (answers_to table (first_pieces (length answers) text)) ≡ sets given n (answers_to t (ahead text (length answers) at n))
  pub inside : at ≤ length text
  pub good : sound t ≡ true

-- the next piece is booked
module _ {table text answers t given : List ℕ} {at n : ℕ} (turn : Turn table text answers t given at n)
    (end : ℕ) (more : at < length text) (free : n < length answers) (e : end ≡ at + piece_length (drop at text)) where
  abbrev p : List ℕ
  p = part text at end

  abbrev rest : List (List ℕ)
  rest = ahead text (length answers) end (n + 1)

  next_ahead : ahead text (length answers) at n ≡ p ∷ rest
  next_ahead =
      let one_less : length answers - n ≡ suc (length answers - (n + 1)) = omega arith in
      rw (one_less, next_piece text at end more e)

  pub next_turn : {x : Result (Unit {0}) Refusal} {after : List ℕ} {c : ℕ} → Books t p x after → c ≡ code_of (answer_of x)
      → Turn table text answers after (set given n c) end (n + 1)
  next_turn {x} {after} {c} b k =
      let long = part_long text at end more e in
      let said : code_of (book_answer t p) ≡ c = sym (k ∙ ap code_of b.said) in
      record {
        bytes = turn.bytes ∙ rw next_ahead (omega (arith, long));
        count = turn.count ∙ rw next_ahead (omega arith);
        out = turn.out ∙ rw (next_ahead, b.out);
        told = turn.told ∙ rw (next_ahead, b.out, said, add-one);
        inside = omega (arith, piece_bounds text at end more e);
        good = rw b.out (booked_sound t p turn.good);
      }
