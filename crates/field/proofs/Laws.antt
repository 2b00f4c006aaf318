-- Laws of the numbers: each reader takes back what its writer wrote, and takes nothing else.
use Prim.Native.Nat.{ℕ, zero, suc, ◌+◌, ◌-◌, ◌*◌, ◌/◌, ◌%◌, ◌^◌, ◌≤◌, ◌<◌}
use native.Mathlib.Nat.{pow-suc, pow-le-pow_right}
use native.Mathlib.Numerals.{add-four}
use native.Mathlib.Omega.{arith}
use mathlib.Core.Path.{◌≡◌, refl, ap, ◌∙◌}
use mathlib.Core.Bool.{Bool, true, false, cond, ◌&&◌}
use mathlib.Core.List.{List, [], ◌∷◌, ◌++◌, append_assoc}
use borrow.Author.Tests.{eqb-true, eqb-false, ne_eqb}
use lib.Dec.{leb, eqb}
use lib.ListN.{length, take, drop, length-append, length-take, length-drop, take-append-drop}
use lib.Seq.{take_at, drop_at}
use Rattle.field.specs.Number.{digits_after, lone_zero, spaced, within, dollars, price, rest, filled, price_text}
use Rattle.field.proofs.Fill.{between, guarded, first_digit, digits_then, digit_read, filled_read}
use Rattle.field.proofs.Fill.{FillWritten, length_snoc, snoc_written, digits_written}
use Rattle.std.specs.Prelude.{Option, Some, None}
use Rattle.std.proofs.lemmas.Option.{none-some}

-- ---- how large a number of so many digits is

pub pow10_mono : (i j : ℕ) → i ≤ j → 10 ^ i ≤ 10 ^ j
pow10_mono i j h = pow-le-pow_right (omega arith) h

-- what i lower halves of a byte can say
abbrev pub Halves : ℕ → ℕ → Type 0
Halves i v = 9 * v + 15 ≤ 15 * 10 ^ i

four_more : (i : ℕ) → 10 ^ (i + 4) ≡ 10 ^ i * 10000
four_more i = simp (add-four, pow-suc) (omega arith)

-- ---- a number from least to most

pub within_value : (least most : ℕ) (n : Option ℕ) (v : ℕ) → within least most n ≡ Some v → (n ≡ Some v) × (least ≤ v) × (v ≤ most)
within_value least most (Some u) v e =
    let g = guarded (leb least u && leb u most) (Some u) v e in
    let h = between least most u g.0 in
    let same : u ≡ v = cc in
    (g.1, omega arith, omega arith)
within_value least most None v e = absurd (none-some _ e)

-- ---- what is written is as wide as asked

pub length_rest : (fill w v : ℕ) → length (rest fill w v) ≡ w
length_rest fill zero v = refl
length_rest fill (suc w) v = rw (length_snoc, length_rest fill w (v / 10))

pub length_filled : (fill w v : ℕ) → length (filled fill w v) ≡ w
length_filled fill zero v = refl
length_filled fill (suc w) v = rw (length_snoc, length_rest)

pub length_price : (w v : ℕ) → 4 ≤ w → length (price_text w v) ≡ w
length_price w v h = simp (length-append, length_filled) (omega arith)

-- ---- digits and nothing else

pub digits_read : (w v : ℕ) → v < 10 ^ w → digits_after 0 (filled 48 w v) ≡ Some v
digits_read zero v h = ap Some (omega arith)
digits_read (suc w) v h =
    filled_read 48 (digits_after 0) (λ t. refl) (λ d k. digit_read 0 d d k (omega arith)) (λ s t n p e. digits_then s t 0 n e) w v h

pub digits_write : (s : List ℕ) (v : ℕ) → digits_after 0 s ≡ Some v → (filled 48 (length s) v ≡ s) × (v < 10 ^ length s)
digits_write [] v e = let z : v ≡ 0 = cc in (refl, omega arith)
digits_write (b ∷ s) v e = digits_written 48 [] b s 0 v (λ z. refl) (refl, omega arith) e

-- ---- a number behind spaces

spaced_digit : (d : ℕ) → d ≤ 9 → spaced ((48 + d) ∷ []) ≡ Some d
spaced_digit zero h = refl
spaced_digit (suc d) h =
    rw (ne_eqb (48 + suc d) 32 (omega arith), ne_eqb (48 + suc d) 48 (omega arith)) (digit_read 0 (suc d) (suc d) h (omega arith))

-- digits after a number that is not 0 go on with it
spaced_then : (s t : List ℕ) (n : ℕ) → 0 < n → spaced s ≡ Some n → spaced (s ++ t) ≡ digits_after n t
spaced_then [] t n p e = absurd (none-some _ e)
spaced_then (b ∷ s) t n p e = go (eqb b 32) (eqb b 48) (spaced_then s t n p) e
  where
    lone : (r : List ℕ) → lone_zero r ≡ Some n → ⊥
    lone [] e = let z : n ≡ 0 = cc in omega arith
    lone (c ∷ r) e = none-some _ e

    go : (space naught : Bool) → (spaced s ≡ Some n → spaced (s ++ t) ≡ digits_after n t)
        → cond space (spaced s) (cond naught (lone_zero s) (digits_after 0 (b ∷ s))) ≡ Some n
        → cond space (spaced (s ++ t)) (cond naught (lone_zero (s ++ t)) (digits_after 0 (b ∷ s ++ t))) ≡ digits_after n t
    go true naught ih e = ih e
    go false true ih e = absurd (lone s e)
    go false false ih e = digits_then (b ∷ s) t 0 n e

pub spaced_read : (w v : ℕ) → v < 10 ^ suc w → spaced (filled 32 (suc w) v) ≡ Some v
spaced_read = filled_read 32 spaced (λ t. refl) spaced_digit spaced_then

pub spaced_back : (w v : ℕ) → 0 < w → v < 10 ^ w → spaced (filled 32 w v) ≡ Some v
spaced_back zero v h k = absurd (omega arith)
spaced_back (suc w) v h k = spaced_read w v k

-- a number that is read behind the spaces p
spaced_written : (p s : List ℕ) (v : ℕ) → FillWritten (rest 32) p 0 → spaced s ≡ Some v → FillWritten (filled 32) (p ++ s) v
spaced_written p [] v w e = absurd (none-some _ e)
spaced_written p (b ∷ s) v w e = go (eqb b 32) (eqb b 48) refl refl (spaced_written (p ++ (b ∷ [])) s v) e
  where
    lone : (r : List ℕ) → b ≡ 48 → lone_zero r ≡ Some v → FillWritten (filled 32) (p ++ b ∷ r) v
    lone [] x e = let z : v ≡ 0 = cc in rw (z, x) (snoc_written (filled 32) 32 p 48 0 0 w refl refl)
    lone (c ∷ r) x e = absurd (none-some _ e)

    go : (space naught : Bool) → eqb b 32 ≡ space → eqb b 48 ≡ naught
        → (FillWritten (rest 32) (p ++ (b ∷ [])) 0 → spaced s ≡ Some v → FillWritten (filled 32) (p ++ (b ∷ []) ++ s) v)
        → cond space (spaced s) (cond naught (lone_zero s) (digits_after 0 (b ∷ s))) ≡ Some v
        → FillWritten (filled 32) (p ++ b ∷ s) v
    go true naught x y ih e = rw append_assoc at (ih (snoc_written (rest 32) 32 p b 0 0 w refl (rw (eqb-true b 32 x))) e)
    go false true x y ih e = lone s (eqb-true b 48 y) e
    go false false x y ih e =
        let d = first_digit 0 b s v e in
        digits_written 32 p b s 0 v (λ z. absurd (eqb-false b 48 y (omega arith))) w e

pub spaced_write : (s : List ℕ) (v : ℕ) → spaced s ≡ Some v → (filled 32 (length s) v ≡ s) × (v < 10 ^ length s)
spaced_write s v e = spaced_written [] s v (refl, omega arith) e

pub spaced_some : (s : List ℕ) (v : ℕ) → spaced s ≡ Some v → 0 < length s
spaced_some [] v e = absurd (none-some _ e)
spaced_some (b ∷ s) v e = omega arith

-- ---- a price: a number behind spaces, then four digits

price_parts : (a c : List ℕ) → length c ≡ 4 → price (a ++ c) ≡ dollars (spaced a) (digits_after 0 c)
price_parts a c h =
    let e : length a ≡ length (a ++ c) - 4 = omega (arith, length-append a c) in
    rw (take_at a c (length (a ++ c) - 4) e, drop_at a c (length (a ++ c) - 4) e)

pub price_read : (w v : ℕ) → 5 ≤ w → v < 10 ^ w → price (price_text w v) ≡ Some v
price_read w v h k =
    let e : w - 4 ≡ suc (w - 5) = omega arith in
    let u : w - 4 + 4 ≡ w = omega arith in
    let t = rw u at (four_more (w - 4)) in
    let a : spaced (filled 32 (w - 4) (v / 10000)) ≡ Some (v / 10000) = rw e (spaced_read (w - 5) (v / 10000) (rw (← e) (omega arith))) in
    price_parts (filled 32 (w - 4) (v / 10000)) (filled 48 4 (v % 10000)) (length_filled 48 4 (v % 10000))
    ∙ rw (a, digits_read 4 (v % 10000) (omega arith)) (ap Some (omega arith))

price_written : (a c : List ℕ) (m n : ℕ) → length c ≡ 4 → FillWritten (filled 32) a m → FillWritten (filled 48) c n → FillWritten price_text (a ++ c) (m * 10000 + n)
price_written a c m n h x y =
    let z : n < 10000 = rw h at y.1 in
    let l : length (a ++ c) ≡ length a + 4 = omega (arith, length-append a c) in
    let k : length a + 4 - 4 ≡ length a = omega arith in
    let q : (m * 10000 + n) / 10000 ≡ m = omega arith in
    let r : (m * 10000 + n) % 10000 ≡ n = omega arith in
    rw l (rw (k, q, r, x.0) (ap (λ (t : List ℕ). a ++ t) (rw h at y.0)), omega (arith, four_more (length a)))

-- a price that is read has a number before its four digits, and is as it is written
pub price_write : (s : List ℕ) (v : ℕ) → price s ≡ Some v → (price_text (length s) v ≡ s) × (v < 10 ^ length s)
price_write s v e = go (spaced (take i s)) (digits_after 0 (drop i s)) refl refl e
  where
    i : ℕ
    i = length s - 4

    go : (x y : Option ℕ) → spaced (take i s) ≡ x → digits_after 0 (drop i s) ≡ y → dollars x y ≡ Some v → FillWritten price_text s v
    go (Some m) (Some n) p q e =
        let some : 0 < length (take i s) = spaced_some (take i s) m p in
        let long : 5 ≤ length s = omega (arith, length-take i s) in
        let four : length (drop i s) ≡ 4 = omega (arith, length-drop i s) in
        let same : m * 10000 + n ≡ v = cc in
        let parts = price_written (take i s) (drop i s) m n four (spaced_write (take i s) m p) (digits_write (drop i s) n q) in
        rw (take-append-drop i s, same) at parts
    go (Some m) None p q e = absurd (none-some _ e)
    go None (Some n) p q e = absurd (none-some _ e)
    go None None p q e = absurd (none-some _ e)
