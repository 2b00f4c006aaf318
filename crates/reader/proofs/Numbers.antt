-- The pieces of a text by their numbers: where each starts, which bytes stand there, and where the one behind it starts.
use Prim.Native.Nat.{ℕ, zero, suc, ◌+◌, ◌≤◌}
use native.Mathlib.Omega.{arith}
use native.Mathlib.Numerals.{add-one}
use mathlib.Core.Path.{◌≡◌, refl, ap, ◌∙◌}
use mathlib.Core.Bool.{Bool, true, false}
use mathlib.Core.List.{List, [], ◌∷◌}
use borrow.Author.Tests.{ltb-true, ltb-false}
use denote.Ref.{Bor}
use lib.Dec.{ltb}
use lib.ListN.{length, take, drop, length-drop}
use lib.Seq.{length-take-le, drop-drop}
use Rattle.piece.specs.Pieces.{pieces, piece_length}
use Rattle.piece.proofs.Firsts.{behind, first_piece}
use Rattle.piece.proofs.Lengths.{piece_inside}
use Rattle.reader.specs.Handed.{VeryBytes}
use Rattle.reader.specs.Numbering.{piece_no, bytes_in, start_of, Numbered}
use Rattle.reader.specs.Starting.{piece_from, place_behind, place_in}
use Rattle.reader.proofs.Standing.{place_inside, place_at_end}

-- ---- a text that is not empty: its first piece, and the pieces behind it by their numbers

start_more : (n b : ℕ) (s : List ℕ) → start_of (suc n) (b ∷ s) ≡ piece_length (b ∷ s) + start_of n (behind (b ∷ s))
start_more n b s = rw (first_piece b s, length-take-le (piece_length (b ∷ s)) (b ∷ s) (piece_inside (b ∷ s)))

number_more : (n b : ℕ) (s : List ℕ) → piece_no (suc n) (b ∷ s) ≡ piece_no n (behind (b ∷ s))
number_more n b s = rw (first_piece b s)

behind_shorter : (b : ℕ) (s : List ℕ) → piece_length (b ∷ s) + length (behind (b ∷ s)) ≡ length (b ∷ s)
behind_shorter b s = omega (arith, length-drop (piece_length (b ∷ s)) (b ∷ s), piece_inside (b ∷ s))

-- ---- the place of a number

pub start_inside : (n : ℕ) (s : List ℕ) → start_of n s ≤ length s
start_inside zero s = omega arith
start_inside (suc n) [] = omega arith
start_inside (suc n) (b ∷ s) = omega (arith, start_more n b s, start_inside n (behind (b ∷ s)), behind_shorter b s)

behind_more : (l : List ℕ) (k x : ℕ) → place_behind l (k + x) ≡ k + place_behind (drop k l) x
behind_more l k x = rw (drop-drop x k l) (omega arith)

next_start : (n : ℕ) (s : List ℕ) → place_behind s (start_of n s) ≡ start_of (suc n) s
next_start zero [] = omega arith
next_start zero (b ∷ s) = omega (arith, start_more 0 b s)
next_start (suc n) [] = omega arith
next_start (suc n) (b ∷ s) =
    let l = b ∷ s in
    rw (start_more n b s, start_more (suc n) b s, ← next_start n (behind l)) (behind_more l (piece_length l) (start_of n (behind l)))

-- the next number starts behind it
pub start_next : (n : ℕ) (s : List ℕ) → place_behind s (start_of n s) ≡ start_of (n + 1) s
start_next n s = rw add-one (next_start n s)

fewer_bytes : (i n : ℕ) (ps : List (List ℕ)) → i ≤ n → bytes_in (take i ps) ≤ bytes_in (take n ps)
fewer_bytes zero n ps h = omega arith
fewer_bytes (suc i) zero ps h = absurd (omega arith)
fewer_bytes (suc i) (suc n) [] h = omega arith
fewer_bytes (suc i) (suc n) (p ∷ ps) h = omega (arith, fewer_bytes i n ps (omega arith))

-- where nothing is left, every later number starts too
pub start_at_end : (i n : ℕ) (s : List ℕ) → i ≤ n → length s ≤ start_of i s → start_of i s ≡ start_of n s
start_at_end i n s h e = omega (arith, fewer_bytes i n (pieces s) h, start_inside n s)

-- ---- what stands there

pub piece_there : (n : ℕ) (s : List ℕ) → piece_from s (start_of n s) ≡ piece_no n s
piece_there zero [] = refl
piece_there zero (b ∷ s) = rw (first_piece b s)
piece_there (suc n) [] = refl
piece_there (suc n) (b ∷ s) = rw (start_more n b s, number_more n b s, ← piece_there n (behind (b ∷ s)), drop-drop)

-- where the text has no such piece: no bytes, at the end
pub none_there : (n : ℕ) (s : List ℕ) → length (pieces s) ≤ n → (piece_no n s ≡ []) × (start_of n s ≡ length s)
none_there zero [] h = (refl, refl)
none_there zero (b ∷ s) h = absurd (omega (arith, ap length (first_piece b s)))
none_there (suc n) [] h = (refl, refl)
none_there (suc n) (b ∷ s) h =
    let ih = none_there n (behind (b ∷ s)) (omega (arith, ap length (first_piece b s))) in
    (number_more n b s ∙ ih.0, omega (arith, start_more n b s, ih.1, behind_shorter b s))

place_there : (n : ℕ) (s : List ℕ) → place_in s (start_of n s) ≡ start_of n s
place_there n s = go (ltb (start_of n s) (length s)) refl
  where
    go : (t : Bool) → ltb (start_of n s) (length s) ≡ t → place_in s (start_of n s) ≡ start_of n s
    go true e = place_inside s (start_of n s) (ltb-true (start_of n s) (length s) e)
    go false e = let past = ltb-false (start_of n s) (length s) e in place_at_end s (start_of n s) past ∙ omega (arith, start_inside n s)

-- the piece of a lent text that starts where a number does is the piece with that number
pub numbered : (t : Bor (List ℕ)) (n at : ℕ) (p : Bor (List ℕ)) → at ≡ start_of n t.now → VeryBytes t at p → Numbered t n p
numbered t n at p e v = record {
  said = v.said ∙ ap (piece_from t.now) e ∙ piece_there n t.now;
  place = v.place ∙ ap (λ k. (t.ref_ptr.0, place_in t.now k + t.ref_ptr.1)) e ∙ ap (λ k. (t.ref_ptr.0, k + t.ref_ptr.1)) (place_there n t.now);
}
