-- How a piece ends, and where an LF can stand in what is held.
use Prim.Native.Nat.{ℕ, ◌+◌, ◌-◌, ◌≤◌, ◌<◌}
use native.Mathlib.Omega.{arith}
use mathlib.Core.Path.{◌≡◌, refl, sym, ap, ◌∙◌}
use mathlib.Core.Bool.{Bool, true, false, ◌||◌, or-true, false≢true}
use mathlib.Core.List.{List, [], ◌∷◌, ◌++◌, append_assoc}
use borrow.Author.Tests.{eqb-true}
use lib.Dec.{eqb}
use lib.ListN.{length, get_or, take, drop, length-drop, take-append-drop}
use lib.Seq.{length-take-le, get_or-take, get_or-drop}
use Rattle.run.specs.Runs.{member}
use Rattle.run.proofs.All.{member_append}
use Rattle.piece.specs.Cuts.{Ended}
use Rattle.feed.specs.Steps.{ends_in_lf}

-- ---- runs without LF

pub none_both : (p q : List ℕ) → member 10 p ≡ false → member 10 q ≡ false → member 10 (p ++ q) ≡ false
none_both p q e f = member_append 10 p q ∙ rw (e, f)

none_first : (a b : Bool) → (a || b) ≡ false → a ≡ false
none_first true b e = e
none_first false b e = refl

pub none_front : (n : ℕ) (p : List ℕ) → member 10 p ≡ false → member 10 (take n p) ≡ false
none_front n p e =
    none_first (member 10 (take n p)) (member 10 (drop n p))
    (sym (member_append 10 (take n p) (drop n p)) ∙ rw (take-append-drop n p) e)

-- ---- the end of a piece

ends_member : (p : List ℕ) → ends_in_lf p ≡ true → member 10 p ≡ true
ends_member [] e = absurd (false≢true e)
ends_member (b ∷ []) e = rw (eqb-true b 10 e)
ends_member (b ∷ c ∷ p) e = rw (ends_member (c ∷ p) e) (or-true (eqb 10 b))

pub unended : (p : List ℕ) → member 10 p ≡ false → ends_in_lf p ≡ false
unended p n = go (ends_in_lf p) refl
  where
    go : (t : Bool) → ends_in_lf p ≡ t → t ≡ false
    go true e = absurd (false≢true (sym n ∙ ends_member p e))
    go false e = refl

ends_last : (p : List ℕ) → ends_in_lf (p ++ (10 ∷ [])) ≡ true
ends_last [] = refl
ends_last (b ∷ []) = refl
ends_last (b ∷ c ∷ p) = ends_last (c ∷ p)

pub ended : (p : List ℕ) → Ended p → ends_in_lf p ≡ true
ended p (q, e, n) = rw e (ends_last q)

-- a run without LF in front of it is of the same piece
pub ended_behind : (p q : List ℕ) → member 10 p ≡ false → Ended q → Ended (p ++ q)
ended_behind p q e (r, f, n) = (p ++ r, rw f (sym (append_assoc p r (10 ∷ []))), none_both p r e n)

-- ---- the last byte of a part of a chunk

ends_by : (b : ℕ) (s : List ℕ) → ends_in_lf (b ∷ s) ≡ eqb (get_or (b ∷ s) (length s) 0) 10
ends_by b [] = refl
ends_by b (c ∷ s) = ends_by c s

last_by : (p : List ℕ) (n : ℕ) → length p ≡ n + 1 → ends_in_lf p ≡ eqb (get_or p n 0) 10
last_by [] n e = absurd (omega arith)
last_by (b ∷ s) n e = let k : length s ≡ n = omega arith in ends_by b s ∙ ap (λ i. eqb (get_or (b ∷ s) i 0) 10) k

pub part_ends : (s : List ℕ) (from to : ℕ) → from < to → to ≤ length s → ends_in_lf (take (to - from) (drop from s)) ≡ eqb (get_or s (to - 1) 0) 10
part_ends s from to h k =
    let n = to - 1 - from in
    let long : length (take (to - from) (drop from s)) ≡ n + 1 = length-take-le (to - from) (drop from s) (rw length-drop (omega arith)) ∙ omega arith in
    let place : from + n ≡ to - 1 = omega arith in
    last_by (take (to - from) (drop from s)) n long
    ∙ ap (λ b. eqb b 10) (get_or-take (to - from) (drop from s) n 0 (omega arith) ∙ get_or-drop from s n 0 ∙ ap (λ i. get_or s i 0) place)
