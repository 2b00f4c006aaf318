-- How long a piece is: what the search for its end keeps from byte to byte, what is answered, and the bounds.
use Prim.Native.Nat.{ℕ, ◌+◌, ◌-◌, ◌≤◌, ◌<◌}
use native.Mathlib.Omega.{arith}
use mathlib.Core.Path.{◌≡◌}
use mathlib.Core.Bool.{Bool, true, false, cond}
use mathlib.Core.List.{List, [], ◌∷◌}
use borrow.Author.Tests.{lt-ltb, le-ltb, eq-eqb, ne_eqb}
use lib.Dec.{eqb}
use lib.ListN.{length, get_or, take, drop, drop_of_length-le, length-drop}
use lib.Seq.{take_all}
use Rattle.piece.specs.Pieces.{piece_length, next_piece}
use Rattle.std.proofs.Common.{Option, Some, None, refl}
use Rattle.std.specs.List.{position_from}
use Rattle.run.proofs.Scan.{at_next}

module _ (s : List ℕ) (i : ℕ) where
  -- the byte at i is no LF
  pub goes_on : i < length s → (get_or s i 0 ≡ 10 → ⊥) → i + piece_length (drop i s) ≡ i + 1 + piece_length (drop (i + 1) s)
  goes_on h e = rw (at_next s i h, ne_eqb (get_or s i 0) 10 e) (omega arith)

  -- the byte at i is an LF
  pub ends_behind : i < length s → get_or s i 0 ≡ 10 → i + piece_length (drop i s) ≡ i + 1
  ends_behind h e = rw (at_next s i h, eq-eqb (get_or s i 0) 10 e)

  pub ends_at_end : length s ≤ i → i + piece_length (drop i s) ≡ i
  ends_at_end h = rw (drop_of_length-le s h) (omega arith)

pub piece_some : (b : ℕ) (s : List ℕ) → 1 ≤ piece_length (b ∷ s)
piece_some b s = go (eqb b 10)
  where
    go : (t : Bool) → 1 ≤ cond t 1 (piece_length s + 1)
    go true = omega arith
    go false = omega arith

pub piece_inside : (s : List ℕ) → piece_length s ≤ length s
piece_inside [] = omega arith
piece_inside (b ∷ s) = go (eqb b 10) (piece_inside s)
  where
    go : (t : Bool) → piece_length s ≤ length s → cond t 1 (piece_length s + 1) ≤ length (b ∷ s)
    go true h = omega arith
    go false h = omega arith

-- ---- by the place of the first LF, counted from k

abbrev first_lf : ℕ → List ℕ → Option ℕ
first_lf = position_from (λ b. eqb b 10)

ends_behind_first : (s : List ℕ) (k i : ℕ) → first_lf k s ≡ Some i → k + piece_length s ≡ i + 1
ends_behind_first [] k i e = cc
ends_behind_first (b ∷ s) k i e = go (eqb b 10) (ends_behind_first s (k + 1) i) e
  where
    go : (t : Bool) → (first_lf (k + 1) s ≡ Some i → k + 1 + piece_length s ≡ i + 1) → cond t (Some k) (first_lf (k + 1) s) ≡ Some i
        → k + cond t 1 (piece_length s + 1) ≡ i + 1
    go true later h = let here : k ≡ i = cc in omega arith
    go false later h = omega (arith, later h)

ends_with_text : (s : List ℕ) (k : ℕ) → first_lf k s ≡ None → piece_length s ≡ length s
ends_with_text [] k e = refl
ends_with_text (b ∷ s) k e = go (eqb b 10) (ends_with_text s (k + 1)) e
  where
    go : (t : Bool) → (first_lf (k + 1) s ≡ None → piece_length s ≡ length s) → cond t (Some k) (first_lf (k + 1) s) ≡ None
        → cond t 1 (piece_length s + 1) ≡ length (b ∷ s)
    go true later h = cc
    go false later h = omega (arith, later h)

-- the same of a text from a place on, as it is lent
module _ (s : List ℕ) (at : ℕ) (inside : at ≤ length s) where
  lent : take (length s - at) (drop at s) ≡ drop at s
  lent = take_all (length s - at) (drop at s) (omega (arith, length-drop at s))

  pub lf_found : (i : ℕ) → first_lf 0 (take (length s - at) (drop at s)) ≡ Some i → piece_length (drop at s) ≡ i + 1
  lf_found i e = omega (arith, ends_behind_first (drop at s) 0 i (rw lent at e))

  pub no_lf : first_lf 0 (take (length s - at) (drop at s)) ≡ None → length s ≡ at + piece_length (drop at s)
  no_lf e = omega (arith, ends_with_text (drop at s) 0 (rw lent at e), length-drop at s)

module _ (s : List ℕ) (at : ℕ) where
  pub nothing_left : length s ≤ at → None ≡ next_piece s at
  nothing_left h = rw (le-ltb at (length s) h)

  pub piece_left : (r : ℕ) → at < length s → r ≡ at + piece_length (drop at s) → Some r ≡ next_piece s at
  piece_left r h e = rw (lt-ltb at (length s) h, e)
