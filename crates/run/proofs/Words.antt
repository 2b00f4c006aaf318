-- Eight bytes at a time: two runs of eight have the same number exactly where their bytes are the same.
use Rattle.std.proofs.Common.{ℕ, zero, suc, ◌+◌, ◌≤◌, ◌<◌, ◌≡◌, Bool, ◌&&◌, List, [], ◌∷◌, ◌++◌, length, get_or, take, drop, w64, refl, sym, ap, ◌∙◌, arith, take-append-drop, drop-drop, get_or-drop}
use Rattle.std.specs.Int.{from_le_bytes}
use Rattle.std.proofs.lemmas.Nat.{le_bytes_8}
use borrow.Author.Tests.{eqb-true, eq-eqb}
use lib.Dec.{eqb}
use mathlib.Core.Bool.{and_assoc}
use Rattle.run.specs.Runs.{part, same}
use Rattle.run.specs.Words.{SameUpTo}
use Rattle.run.proofs.Parts.{length_part, part_part}
use Rattle.run.proofs.Sameness.{same_self, same_true}
use Rattle.run.proofs.Tests.{agree}

abbrev Bytes : List ℕ → Type 0
Bytes s = (k : ℕ) → get_or s k 0 < 256

bytes_take : (w : ℕ) (s : List ℕ) → Bytes s → Bytes (take w s)
bytes_take zero s h k = omega arith
bytes_take (suc w) [] h k = omega arith
bytes_take (suc w) (b ∷ s) h zero = h 0
bytes_take (suc w) (b ∷ s) h (suc k) = bytes_take w s (λ i. h (suc i)) k

bytes_part : (s : List ℕ) (at w : ℕ) → Bytes s → Bytes (part s at w)
bytes_part s at w h = bytes_take w (drop at s) (λ k. rw get_or-drop (h (at + k)))

number_same : (p q : List ℕ) → length p ≡ 8 → length q ≡ 8 → Bytes p → Bytes q → eqb (from_le_bytes w64 p) (from_le_bytes w64 q) ≡ same p q
number_same p q h k b d = agree _ _
    (λ e. let same_bytes = sym (le_bytes_8 p _ h b refl) ∙ le_bytes_8 q _ k d (eqb-true _ _ e) in rw same_bytes (same_self q))
    (λ e. eq-eqb _ _ (ap (from_le_bytes w64) (same_true p q e)))

same_append : (p q s t : List ℕ) → length p ≡ length q → same (p ++ s) (q ++ t) ≡ (same p q && same s t)
same_append [] [] s t e = refl
same_append [] (b ∷ q) s t e = absurd (omega arith)
same_append (a ∷ p) [] s t e = absurd (omega arith)
same_append (a ∷ p) (b ∷ q) s t e = rw (same_append p q s t (omega arith)) (sym (and_assoc (eqb a b) (same p q) (same s t)))

-- what is left of a run from its byte i on: its next eight bytes, and the rest
next_eight : (s : List ℕ) (i : ℕ) → drop i s ≡ part s i 8 ++ drop (i + 8) s
next_eight s i = sym (take-append-drop 8 (drop i s)) ∙ ap (λ (r : List ℕ). part s i 8 ++ r) (drop-drop 8 i s)

-- a word of each, a and b, compared
pub word_next : (l t : List ℕ) (at i k n a b : ℕ) (good : Bool) → at + length t ≤ length l → Bytes l → Bytes t
    → a ≡ from_le_bytes w64 (part l k 8) → b ≡ from_le_bytes w64 (part t i 8) → i + 8 ≤ length t → k ≡ at + i → n ≡ i + 8
    → SameUpTo l at t good i → SameUpTo l at t (good && eqb a b) n
word_next l t at i k n a b good room left right p q h e f g =
    let word = number_same (part l k 8) (part t i 8) (length_part l k 8 (omega arith)) (length_part t i 8 h) (bytes_part l k 8 left) (bytes_part t i 8 right) in
    let eight : length (part l k 8) ≡ length (part t i 8) = length_part l k 8 (omega arith) ∙ sym (length_part t i 8 h) in
    let front : part (part l at (length t)) i 8 ≡ part l k 8 = rw e (part_part l at (length t) i 8 h) in
    g ∙ rw (next_eight (part l at (length t)) i, next_eight t i, front, same_append (part l k 8) (part t i 8) _ _ eight, f, p, q, word) (simp and_assoc)
