-- A part of a run: its bytes, the parts of it, and what a run of stores leaves of it.
use Prim.Native.Nat.{ℕ, zero, suc, ◌+◌, ◌-◌, ◌≤◌, ◌<◌}
use native.Mathlib.Nat.{add-suc}
use native.Mathlib.Omega.{arith}
use mathlib.Core.Path.{◌≡◌, refl, sym, ap, ◌∙◌}
use mathlib.Core.List.{List, [], ◌∷◌, append_assoc}
use lib.ListN.{length, get_or, take, drop, set, length-take, length-drop, drop_of_length-le}
use lib.Seq.{length-take-le, get_or-take, get_or-drop, take-take, drop-drop, take_at, drop_at}
use lib.Seq.{take-set-le, drop-set-lt, drop-set-add, sets, sets-eq}
use Rattle.run.specs.Runs.{part}
use Rattle.run.proofs.Scan.{at_next}

-- ---- the bytes of a part, and its parts

pub length_part : (l : List ℕ) (at w : ℕ) → at + w ≤ length l → length (part l at w) ≡ w
length_part l at w h = length-take-le w (drop at l) (rw length-drop (omega arith))

pub get_d_part : (l : List ℕ) (at w i : ℕ) → i < w → get_or (part l at w) i 0 ≡ get_or l (at + i) 0
get_d_part l at w i h = rw (get_or-take, get_or-drop)

-- what is left of a part from its byte i on
pub part_next : (l : List ℕ) (at w i : ℕ) → at + w ≤ length l → i < w
    → drop i (part l at w) ≡ get_or l (at + i) 0 ∷ drop (i + 1) (part l at w)
part_next l at w i h k = at_next (part l at w) i (rw (length_part l at w h) k) ∙ rw (get_d_part l at w i k)

pub part_end : (l : List ℕ) (at w i : ℕ) → w ≤ i → drop i (part l at w) ≡ []
part_end l at w i h = drop_of_length-le (part l at w) {i = i} (rw length-take (omega arith))

part_take : (l : List ℕ) (w i n : ℕ) → i + n ≤ w → part (take w l) i n ≡ part l i n
part_take l w zero n h = take-take n w l (omega arith)
part_take l zero (suc i) n h = absurd (omega arith)
part_take [] (suc w) (suc i) n h = refl
part_take (b ∷ l) (suc w) (suc i) n h = part_take l w i n (omega arith)

pub part_part : (l : List ℕ) (at w i n : ℕ) → i + n ≤ w → part (part l at w) i n ≡ part l (at + i) n
part_part l at w i n h = part_take (drop at l) w i n h ∙ ap (take n) (drop-drop i at l)

-- ---- a part before, after and inside a run of stores

pub take_sets : (l xs : List ℕ) (at i : ℕ) → i ≤ at → take i (sets l at xs) ≡ take i l
take_sets l [] at i h = refl
take_sets l (x ∷ xs) at i h = take_sets (set l at x) xs (suc at) i (omega arith) ∙ take-set-le i l at x h

pub drop_sets : (l xs : List ℕ) (at i : ℕ) → at + length xs ≤ i → drop i (sets l at xs) ≡ drop i l
drop_sets l [] at i h = refl
drop_sets l (x ∷ xs) at i h = drop_sets (set l at x) xs (suc at) i (omega arith) ∙ drop-set-lt i l at x (omega arith)

-- a run of stores past the first k is one into the rest
pub rest_sets : (l xs : List ℕ) (k at : ℕ) → drop k (sets l (k + at) xs) ≡ sets (drop k l) at xs
rest_sets l [] k at = refl
rest_sets l (x ∷ xs) k at = rw (← add-suc k at, rest_sets (set l (k + at) x) xs k (suc at), drop-set-add)

pub part_before : (l xs : List ℕ) (at i w : ℕ) → i + w ≤ at → part (sets l at xs) i w ≡ part l i w
part_before l xs at i w h =
    let e : at ≡ i + (at - i) = omega arith in
    rw (e, rest_sets) (take_sets (drop i l) xs (at - i) w (omega arith))

pub part_after : (l xs : List ℕ) (at i w : ℕ) → at + length xs ≤ i → part (sets l at xs) i w ≡ part l i w
part_after l xs at i w h = ap (take w) (drop_sets l xs at i h)

pub part_whole : (l xs : List ℕ) (at w : ℕ) → at + length xs ≤ length l → length xs ≡ w → part (sets l at xs) at w ≡ xs
part_whole l xs at w h e =
    let k : length (take at l) ≡ at = length-take-le at l (omega arith) in
    rw (sets-eq, append_assoc, drop_at, take_at)

pub part_inside : (l xs : List ℕ) (at i w : ℕ) → at + length xs ≤ length l → at ≤ i → i + w ≤ at + length xs
    → part (sets l at xs) i w ≡ part xs (i - at) w
part_inside l xs at i w h k m =
    let e : at + (i - at) ≡ i = omega arith in
    rw e at (sym (part_part (sets l at xs) at (length xs) (i - at) w (omega arith)))
    ∙ ap (λ s. part s (i - at) w) (part_whole l xs at (length xs) h refl)
