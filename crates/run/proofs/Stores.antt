-- Runs of stores: one behind another, over a whole buffer, and what a loop of stores keeps.
use Prim.Native.Nat.{ℕ, suc, ◌+◌, ◌≤◌, ◌<◌}
use mathlib.Core.Path.{◌≡◌, refl, ap, ◌∙◌}
use mathlib.Core.List.{List, [], ◌∷◌, ◌++◌, append-nil}
use native.Mathlib.Nat.{add-zero, zero-add}
use native.Mathlib.Omega.{arith}
use lib.ListN.{length, get_or, drop, set, drop_of_length-le}
use lib.Seq.{sets, sets-eq, set_comm}
use Rattle.run.proofs.Scan.{at_next}

last_first : (l : List ℕ) (at : ℕ) (xs : List ℕ) (b : ℕ) → sets (set l (at + length xs) b) at xs ≡ sets l at (xs ++ (b ∷ []))
last_first l at [] b = rw (add-zero at)
last_first l at (x ∷ xs) b =
    let e : at + suc (length xs) ≡ suc at + length xs = omega arith in
    let k : at + suc (length xs) ≡ at → ⊥ = λ q. omega arith in
    ap (λ (m : List ℕ). sets m (suc at) xs) (set_comm l (at + suc (length xs)) at b x k ∙ ap (λ (n : ℕ). set (set l at x) n b) e)
    ∙ last_first (set l at x) (suc at) xs b

-- the last of a run may be stored first
pub sets_last : (l : List ℕ) (at : ℕ) (xs : List ℕ) (b n : ℕ) → length xs ≡ n → sets (set l (at + n) b) at xs ≡ sets l at (xs ++ (b ∷ []))
sets_last l at xs b n e = rw (← e) (last_first l at xs b)

-- two runs, one right behind the other, are one
pub sets_append : (l : List ℕ) (at n : ℕ) (xs ys : List ℕ) → length xs ≡ n → sets (sets l at xs) (at + n) ys ≡ sets l at (xs ++ ys)
sets_append l at n [] ys e = rw (← e, add-zero at)
sets_append l at n (x ∷ xs) ys e =
    let k : at + n ≡ suc at + length xs = omega arith in
    rw k (sets_append (set l at x) (suc at) (length xs) xs ys refl)

-- a run from the front on, and behind it what stood there
pub sets_start : (l xs : List ℕ) → length xs ≤ length l → sets l 0 xs ≡ xs ++ drop (length xs) l
sets_start l xs h = sets-eq xs l 0 (omega arith) ∙ rw zero-add

-- a run over all of a buffer is what is there then
pub sets_whole : (l xs : List ℕ) → length xs ≡ length l → sets l 0 xs ≡ xs
sets_whole l xs e =
    let h : 0 + length xs ≤ length l = omega arith in
    let k : length l ≤ 0 + length xs = omega arith in
    sets-eq xs l 0 h ∙ rw (drop_of_length-le l k) (append-nil xs)

-- ---- what is stored, and what is left to store, give the same end

pub store_next : (l s : List ℕ) (at i : ℕ) → i < length s → sets (set l (at + i) (get_or s i 0)) (at + (i + 1)) (drop (i + 1) s) ≡ sets l (at + i) (drop i s)
store_next l s at i h = rw (at_next s i h) (ap (λ (n : ℕ). sets (set l (at + i) (get_or s i 0)) n (drop (i + 1) s)) (omega arith))

pub store_end : (l s : List ℕ) (at i : ℕ) → length s ≤ i → sets l (at + i) (drop i s) ≡ l
store_end l s at i h = rw (drop_of_length-le s h)
