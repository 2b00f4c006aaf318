-- The pieces of a text that begins with a run without LF, or with a piece that an LF ends.
use Prim.Native.Nat.{ℕ, ◌+◌, ◌-◌, ◌≤◌}
use native.Mathlib.Omega.{arith}
use mathlib.Core.Path.{◌≡◌, refl, sym, ap, ◌∙◌}
use mathlib.Core.Bool.{Bool, true, false, ◌&&◌, ◌||◌, and-eq-true_iff}
use mathlib.Core.List.{List, [], ◌∷◌, ◌++◌, append_assoc, append-nil}
use borrow.Author.Tests.{eqb-false, leb-true, ne_eqb}
use lib.Dec.{eqb, leb}
use lib.ListN.{length, get_or, take, drop, length-drop, take-append-drop}
use lib.Seq.{drop-drop, length-take-le, take-add}
use Rattle.run.specs.Runs.{all, member}
use Rattle.run.proofs.All.{all_append}
use Rattle.field.specs.Byte.{is_of}
use Rattle.field.specs.declared.Class.TheVariants.{Printable}
use Rattle.piece.specs.Cuts.{Ended, Unended}
use Rattle.piece.specs.Pieces.{join_first, pieces, piece_length}
use Rattle.piece.specs.Promises.{Plain}
use Rattle.piece.proofs.Lengths.{goes_on, ends_behind}

-- ---- a run without LF

-- no LF in front of a run without LF
pub none_more : (b : ℕ) (p : List ℕ) → eqb b 10 ≡ false → member 10 p ≡ false → member 10 (b ∷ p) ≡ false
none_more b p e n = rw (ne_eqb 10 b (λ x. eqb-false b 10 e (sym x))) n

none_here : (b : ℕ) (p : List ℕ) → member 10 (b ∷ p) ≡ false → (eqb b 10 ≡ false) × (member 10 p ≡ false)
none_here b p e = go (eqb 10 b) refl e
  where
    go : (t : Bool) → eqb 10 b ≡ t → (t || member 10 p) ≡ false → (eqb b 10 ≡ false) × (member 10 p ≡ false)
    go true q e = absurd (let z : ◌≡◌ {A = ℕ} 0 1 = cc in omega arith)
    go false q e = (ne_eqb b 10 (λ x. eqb-false 10 b q (sym x)), e)

-- a run alone, as pieces
abbrev pub alone : List ℕ → List (List ℕ)
alone [] = []
alone (b ∷ p) = (b ∷ p) ∷ []

-- a run in front of the first piece
abbrev pub join_run : List ℕ → List (List ℕ) → List (List ℕ)
join_run p [] = alone p
join_run p (q ∷ qs) = (p ++ q) ∷ qs

join_none : (ps : List (List ℕ)) → ps ≡ join_run [] ps
join_none [] = refl
join_none (q ∷ qs) = refl

join_one : (b : ℕ) (p : List ℕ) (ps : List (List ℕ)) → join_first b (join_run p ps) ≡ join_run (b ∷ p) ps
join_one b [] [] = refl
join_one b (c ∷ p) [] = refl
join_one b p (q ∷ qs) = refl

-- such a run only makes the first piece longer
pub begun_length : (p s : List ℕ) → member 10 p ≡ false → piece_length (p ++ s) ≡ length p + piece_length s
begun_length [] s e = omega arith
begun_length (b ∷ p) s e = let n = none_here b p e in rw (n.0, begun_length p s n.1) (omega arith)

-- no LF from i to j
runs_on : (s : List ℕ) (i j : ℕ) → i ≤ j → j ≤ length s → member 10 (take (j - i) (drop i s)) ≡ false → i + piece_length (drop i s) ≡ j + piece_length (drop j s)
runs_on s i j h k e =
    let l : length (take (j - i) (drop i s)) ≡ j - i = length-take-le (j - i) (drop i s) (rw length-drop (omega arith)) in
    let z : i + (j - i) ≡ j = omega arith in
    ap (λ (x : List ℕ). i + piece_length x) (sym (take-append-drop (j - i) (drop i s)))
    ∙ rw (begun_length (take (j - i) (drop i s)) (drop (j - i) (drop i s)) e, l, drop-drop (j - i) i s, z) (omega arith)

-- an LF is not printable
none_printable : (p : List ℕ) → all (is_of Printable) p ≡ true → member 10 p ≡ false
none_printable [] e = refl
none_printable (b ∷ p) e =
    let both = (and-eq-true_iff (is_of Printable b) (all (is_of Printable) p)).0 e in
    let low = leb-true 32 b ((and-eq-true_iff (leb 32 b) (leb b 126)).0 both.0).0 in
    rw (ne_eqb 10 b (λ x. omega arith)) (none_printable p both.1)

-- what holds of all bytes behind others, where it holds of all
all_behind : (p : ℕ → Bool) (s t : List ℕ) → all p (s ++ t) ≡ true → all p t ≡ true
all_behind p [] t e = e
all_behind p (b ∷ s) t e = all_behind p s t ((and-eq-true_iff (p b) (all p (s ++ t))).0 e).1

-- two runs of a line's fields that overlap, as they are lent
pub overlapped : (s : List ℕ) (at : ℕ) (a b : Bool) → a ≡ all (is_of Printable) (take (at + 128 - at) (drop at s))
    → b ≡ all (is_of Printable) (take (at + 138 - (at + 122)) (drop (at + 122) s)) → (a && b) ≡ true
    → all (is_of Printable) (take 138 (drop at s)) ≡ true
overlapped s at a b e f t =
    let h = (and-eq-true_iff a b).0 t in
    let n : at + 128 - at ≡ 128 = omega arith in
    let m : at + 138 - (at + 122) ≡ 16 = omega arith in
    let first : all (is_of Printable) (take 128 (drop at s)) ≡ true = rw n at (sym e ∙ h.0) in
    let last : all (is_of Printable) (take 16 (drop 122 (drop at s))) ≡ true = rw (m, ← drop-drop 122 at s) at (sym f ∙ h.1) in
    let behind : all (is_of Printable) (take 10 (drop 128 (drop at s))) ≡ true =
    rw (drop-drop 6 122 (drop at s)) at (all_behind (is_of Printable) (take 6 (drop 122 (drop at s))) _ (rw (take-add 6 10 (drop 122 (drop at s))) at last)) in
    rw (take-add 128 10 (drop at s)) (all_append (is_of Printable) (take 128 (drop at s)) (take 10 (drop 128 (drop at s))) first behind)

-- what `is_plain` finds
pub found_plain : (s : List ℕ) (at : ℕ) → at ≤ length s → 140 ≤ length s - at → (get_or s (at + 138) 0 ≡ 10 → ⊥) → get_or s (at + 139) 0 ≡ 10
    → all (is_of Printable) (take 138 (drop at s)) ≡ true → Plain (drop at s)
found_plain s at h l other lf printable =
    let next : at + 138 + 1 ≡ at + 139 = omega arith in
    let n : at + 138 - at ≡ 138 = omega arith in
    let whole : at + piece_length (drop at s) ≡ at + 139 + 1 =
    runs_on s at (at + 138) (omega arith) (omega arith) (rw n (none_printable (take 138 (drop at s)) printable))
    ∙ (rw next at (goes_on s (at + 138) (omega arith) other))
    ∙ ends_behind s (at + 139) (omega arith) lf
    in
    record { long = omega arith; printable = printable }

pub begun : (p s : List ℕ) → member 10 p ≡ false → pieces (p ++ s) ≡ join_run p (pieces s)
begun [] s e = join_none (pieces s)
begun (b ∷ p) s e = let n = none_here b p e in rw (n.0, begun p s n.1) (join_one b p (pieces s))

pub unended_alone : (p : List ℕ) → Unended p → pieces p ≡ p ∷ []
unended_alone [] u = absurd (u.filled refl)
unended_alone (b ∷ p) u = ap pieces (sym (append-nil (b ∷ p))) ∙ begun (b ∷ p) [] u.unbroken

-- ---- a piece that an LF ends

pub ended_then : (p s : List ℕ) → Ended p → pieces (p ++ s) ≡ p ∷ pieces s
ended_then p s (q, e, n) = rw (e, append_assoc) (begun q (10 ∷ s) n)
