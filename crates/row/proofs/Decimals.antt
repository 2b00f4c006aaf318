-- "Numbers have no fill": a decimal is digits, the fewest, and reads back as its number.
use Prim.Native.Nat.{ℕ, zero, suc, max, ◌+◌, ◌*◌, ◌/◌, ◌%◌, ◌^◌, ◌≤◌, ◌<◌}
use native.Mathlib.Nat.{pow-suc, pow-le-pow_right}
use native.Mathlib.Omega.{arith}
use mathlib.Core.Path.{◌≡◌, refl, sym, ap, ◌∙◌}
use mathlib.Core.Bool.{Bool, true, false, cond}
use mathlib.Core.List.{[], ◌∷◌, ◌++◌}
use borrow.Author.Tests.{lt-ltb, le-ltb, ltb-true, ltb-false, ne_eqb}
use lib.Dec.{ltb}
use lib.ListN.{length}
use Rattle.run.specs.Runs.{all}
use Rattle.field.specs.Byte.{is_of}
use Rattle.field.specs.Number.{spaced, rest, filled}
use Rattle.field.specs.declared.Class.TheVariants.{Digit}
use Rattle.std.specs.Prelude.{Some}
use Rattle.run.proofs.All.{all_snoc}
use Rattle.field.proofs.Fill.{FillWritten, is_between, length_snoc, snoc_written}
use Rattle.field.proofs.Laws.{spaced_read}
use Rattle.row.specs.Texts.{decimal_in, decimal}

-- ---- a number of one digit, and one digit more

pub decimal_digit : (w n : ℕ) → n < 10 → decimal_in (suc w) n ≡ (48 + n) ∷ []
decimal_digit w n h = rw (lt-ltb n 10 h)

pub decimal_more : (w n : ℕ) → 10 ≤ n → decimal_in (suc w) n ≡ decimal_in w (n / 10) ++ ((48 + n % 10) ∷ [])
decimal_more w n h = rw (le-ltb n 10 h)

-- ---- as the writer of a field writes it, where the width is that of its digits

digit_written : (w n : ℕ) → n < 10 → FillWritten (filled 32) (decimal_in (suc w) n) n
digit_written w n h =
    let e : n % 10 ≡ n = omega arith in
    rw (decimal_digit w n h) (snoc_written (filled 32) 32 [] (48 + n) 0 n (refl, omega arith) (omega arith) (rw e))

rest_filled : (w v : ℕ) → 0 < v → filled 32 w v ≡ rest 32 w v
rest_filled zero v h = refl
rest_filled (suc w) v h = rw (ne_eqb v 0 (λ e. omega arith))

more_written : (w n : ℕ) → 10 ≤ n → FillWritten (filled 32) (decimal_in (suc w) (n / 10)) (n / 10) → FillWritten (filled 32) (decimal_in (suc (suc w)) n) n
more_written w n h p =
    let s = decimal_in (suc w) (n / 10) in
    let q : FillWritten (rest 32) s (n / 10) = (sym (rest_filled (length s) (n / 10) (omega arith)) ∙ p.0, p.1) in
    rw (decimal_more (suc w) n h) (snoc_written (filled 32) 32 s (48 + n % 10) (n / 10) n q refl refl)

decimal_written : (w n : ℕ) → n < 10 ^ suc w → FillWritten (filled 32) (decimal_in (suc w) n) n
decimal_written zero n h = digit_written zero n (omega arith)
decimal_written (suc w) n h = go (ltb n 10) refl (decimal_written w (n / 10) (omega (arith, pow-suc 10 (suc w))))
  where
    go : (t : Bool) → ltb n 10 ≡ t → FillWritten (filled 32) (decimal_in (suc w) (n / 10)) (n / 10) → FillWritten (filled 32) (decimal_in (suc (suc w)) n) n
    go true e ih = digit_written (suc w) n (ltb-true n 10 e)
    go false e ih = more_written w n (ltb-false n 10 e) ih

pub decimal_filled : (n : ℕ) → n < 10 ^ 20 → decimal n ≡ filled 32 (length (decimal n)) n
decimal_filled n h = sym (decimal_written 19 n h).0

-- ---- how long a decimal is

pub decimal_some : (n : ℕ) → 1 ≤ length (decimal n)
decimal_some n = go (ltb n 10)
  where
    go : (t : Bool) → 1 ≤ length (cond t ((48 + n) ∷ []) (decimal_in 19 (n / 10) ++ ((48 + n % 10) ∷ [])))
    go true = omega arith
    go false = omega (arith, length_snoc (decimal_in 19 (n / 10)) (48 + n % 10))

decimal_in_most : (w n : ℕ) → length (decimal_in w n) ≤ w
decimal_in_most zero n = omega arith
decimal_in_most (suc w) n = go (ltb n 10) (decimal_in_most w (n / 10))
  where
    go : (t : Bool) → length (decimal_in w (n / 10)) ≤ w → length (cond t ((48 + n) ∷ []) (decimal_in w (n / 10) ++ ((48 + n % 10) ∷ []))) ≤ suc w
    go true h = omega arith
    go false h = omega (arith, length_snoc (decimal_in w (n / 10)) (48 + n % 10))

pub decimal_most : (n : ℕ) → length (decimal n) ≤ 20
decimal_most n = decimal_in_most 20 n

below_within : (v w n : ℕ) → n < 10 ^ suc w → length (decimal_in v n) ≤ suc w
below_within zero w n h = omega arith
below_within (suc v) zero n h = rw (decimal_digit v n (omega arith)) (omega arith)
below_within (suc v) (suc w) n h = go (ltb n 10) (below_within v w (n / 10) (omega (arith, pow-suc 10 (suc w))))
  where
    go : (t : Bool) → length (decimal_in v (n / 10)) ≤ suc w
        → length (cond t ((48 + n) ∷ []) (decimal_in v (n / 10) ++ ((48 + n % 10) ∷ []))) ≤ suc (suc w)
    go true k = omega arith
    go false k = omega (arith, length_snoc (decimal_in v (n / 10)) (48 + n % 10))

pub decimal_length : (n w : ℕ) → 1 ≤ w → n < 10 ^ w → (1 ≤ length (decimal n)) × (length (decimal n) ≤ w)
decimal_length n zero p h = absurd (omega arith)
decimal_length n (suc w) p h = (decimal_some n, below_within 20 w n h)

-- where it has k digits behind the first
digits_least : (w k n : ℕ) → k < w → 10 ^ k ≤ n → suc k ≤ length (decimal_in w n)
digits_least zero k n h l = absurd (omega arith)
digits_least (suc w) zero n h l = go (ltb n 10)
  where
    go : (t : Bool) → 1 ≤ length (cond t ((48 + n) ∷ []) (decimal_in w (n / 10) ++ ((48 + n % 10) ∷ [])))
    go true = omega arith
    go false = omega (arith, length_snoc (decimal_in w (n / 10)) (48 + n % 10))
digits_least (suc w) (suc k) n h l =
    let ten : 10 ^ 1 ≤ 10 ^ suc k = pow-le-pow_right {n = 10} (omega arith) {i = 1} {j = suc k} (omega arith) in
    let big : 10 ≤ n = omega arith in
    let less : 10 ^ k ≤ n / 10 = omega (arith, pow-suc 10 k) in
    rw (decimal_more w n big, length_snoc (decimal_in w (n / 10)) (48 + n % 10)) (omega (arith, digits_least w k (n / 10) (omega arith) less))

-- the digits behind the first by the power of ten, 0 counting as 1 does
pub decimal_digits : (k n m : ℕ) → m ≡ max n 1 → k < 20 → 10 ^ k ≤ m → m < 10 * 10 ^ k → k + 1 ≡ length (decimal n)
decimal_digits zero n m e h least most = omega (arith, decimal_length n 1 (omega arith) (omega arith))
decimal_digits (suc k) n m e h least most =
    let ten : 10 ^ 1 ≤ 10 ^ suc k = pow-le-pow_right {n = 10} (omega arith) {i = 1} {j = suc k} (omega arith) in
    let same : m ≡ n = omega arith in
    let some = digits_least 20 (suc k) n h (rw same at least) in
    omega (arith, decimal_length n (suc (suc k)) (omega arith) (omega (arith, pow-suc 10 (suc k))))

-- a larger number has as many digits or more
decimal_in_grows : (w n m : ℕ) → n ≤ m → length (decimal_in w n) ≤ length (decimal_in w m)
decimal_in_grows zero n m h = omega arith
decimal_in_grows (suc w) n m h = go (ltb n 10) (ltb m 10) refl refl (decimal_in_grows w (n / 10) (m / 10) (omega arith))
  where
    go : (t u : Bool) → ltb n 10 ≡ t → ltb m 10 ≡ u → length (decimal_in w (n / 10)) ≤ length (decimal_in w (m / 10))
        → length (cond t ((48 + n) ∷ []) (decimal_in w (n / 10) ++ ((48 + n % 10) ∷ [])))
        ≤ length (cond u ((48 + m) ∷ []) (decimal_in w (m / 10) ++ ((48 + m % 10) ∷ [])))
    go true true e f k = omega arith
    go true false e f k = omega (arith, length_snoc (decimal_in w (m / 10)) (48 + m % 10))
    go false true e f k = absurd (omega (arith, ltb-false n 10 e, ltb-true m 10 f))
    go false false e f k =
        omega (arith, length_snoc (decimal_in w (n / 10)) (48 + n % 10), length_snoc (decimal_in w (m / 10)) (48 + m % 10))

pub decimal_grows : (n m : ℕ) → n ≤ m → length (decimal n) ≤ length (decimal m)
decimal_grows n m h = decimal_in_grows 20 n m h

-- ---- what it says

-- a number behind its fill, in so many bytes as are not none
read_back : (k n : ℕ) → 1 ≤ k → n < 10 ^ k → spaced (filled 32 k n) ≡ Some n
read_back zero n p h = absurd (omega arith)
read_back (suc k) n p h = spaced_read k n h

pub decimal_value : (n : ℕ) → n < 10 ^ 20 → spaced (decimal n) ≡ Some n
decimal_value n h = ap spaced (decimal_filled n h) ∙ read_back (length (decimal n)) n (decimal_some n) (decimal_written 19 n h).1

pub decimal_one : (n m : ℕ) → n < 10 ^ 20 → m < 10 ^ 20 → decimal n ≡ decimal m → n ≡ m
decimal_one n m h k e = let v : Some n ≡ Some m = sym (decimal_value n h) ∙ ap spaced e ∙ decimal_value m k in cc

-- ---- each byte is a digit

is_digit : (d : ℕ) → d ≤ 9 → is_of Digit (48 + d) ≡ true
is_digit d h = is_between 48 57 (48 + d) (omega arith) (omega arith)

digits_only : (w n : ℕ) → all (is_of Digit) (decimal_in w n) ≡ true
digits_only zero n = refl
digits_only (suc w) n = go (ltb n 10) refl (digits_only w (n / 10))
  where
    go : (t : Bool) → ltb n 10 ≡ t → all (is_of Digit) (decimal_in w (n / 10)) ≡ true
        → all (is_of Digit) (cond t ((48 + n) ∷ []) (decimal_in w (n / 10) ++ ((48 + n % 10) ∷ []))) ≡ true
    go true e h = let k = ltb-true n 10 e in rw (is_digit n (omega arith))
    go false e h = all_snoc (is_of Digit) (decimal_in w (n / 10)) (48 + n % 10) h (is_digit (n % 10) (omega arith))

pub decimal_unfilled : (n : ℕ) → all (is_of Digit) (decimal n) ≡ true
decimal_unfilled n = digits_only 20 n
