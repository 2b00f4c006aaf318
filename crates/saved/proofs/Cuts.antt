-- Runs joined and bytes cut at the same widths: one undoes the other.
use Prim.Native.Nat.{ℕ, ◌+◌, ◌≤◌}
use native.Mathlib.Omega.{arith}
use mathlib.Core.Path.{◌≡◌, refl, ◌∙◌}
use mathlib.Core.List.{List, [], ◌∷◌, ◌++◌, map, append_assoc}
use lib.ListN.{length, take, drop, length-append, length-drop, take-append-drop}
use lib.Seq.{length-take-le, take-append_seam, drop-append_seam, drop-drop, take-add}
use Rattle.groups.specs.Taken.{joined}
use Rattle.saved.specs.Heads.{cut}

abbrev pub total : List ℕ → ℕ
total [] = 0
total (n ∷ ns) = n + total ns

abbrev pub glued : List (List ℕ) → List ℕ
glued runs = joined (λ (b : List ℕ). b) runs

abbrev pub widths_of : List (List ℕ) → List ℕ
widths_of runs = map (λ (b : List ℕ). length b) runs

pub length_glued : (runs : List (List ℕ)) → length (glued runs) ≡ total (widths_of runs)
length_glued [] = refl
length_glued (b ∷ runs) = length-append b (glued runs) ∙ rw (length_glued runs)

pub cut_glued : (runs : List (List ℕ)) (s : List ℕ) → cut (widths_of runs) (glued runs ++ s) ≡ runs
cut_glued [] s = refl
cut_glued (b ∷ runs) s =
    rw (append_assoc b (glued runs) s, take-append_seam b (glued runs ++ s), drop-append_seam b (glued runs ++ s), cut_glued runs s)

pub glued_cut : (ns s : List ℕ) → total ns ≤ length s → glued (cut ns s) ++ drop (total ns) s ≡ s
glued_cut [] s h = refl
glued_cut (n ∷ ns) s h =
    let rest = glued_cut ns (drop n s) (rw (length-drop n s) (omega arith)) in
    rw (append_assoc (take n s) (glued (cut ns (drop n s))) (drop (n + total ns) s), ← drop-drop (total ns) n s, rest) (take-append-drop n s)

pub cut_widths : (ns s : List ℕ) → total ns ≤ length s → widths_of (cut ns s) ≡ ns
cut_widths [] s h = refl
cut_widths (n ∷ ns) s h = rw (length-take-le n s (omega arith), cut_widths ns (drop n s) (rw (length-drop n s) (omega arith)))

-- ---- of more bytes than are cut the rest does not count

pub first_of : (n : ℕ) (a b : List ℕ) → length a ≡ n → take n (a ++ b) ≡ a
first_of n a b e = rw (← e) (take-append_seam a b)

rest_of : (n : ℕ) (a b : List ℕ) → length a ≡ n → drop n (a ++ b) ≡ b
rest_of n a b e = rw (← e) (drop-append_seam a b)

pub cut_take : (ns s : List ℕ) → total ns ≤ length s → cut ns (take (total ns) s) ≡ cut ns s
cut_take [] s h = refl
cut_take (n ∷ ns) s h =
    let a = take n s in
    let b = take (total ns) (drop n s) in
    let wide : length a ≡ n = length-take-le n s (omega arith) in
    rw (take-add n (total ns) s, first_of n a b wide, rest_of n a b wide, cut_take ns (drop n s) (rw (length-drop n s) (omega arith)))
