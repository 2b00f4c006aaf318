-- Digits behind a fill: what is written reads back, what is read was written so, each said once for every fill.
use Prim.Native.Nat.{ℕ, zero, suc, ◌+◌, ◌-◌, ◌*◌, ◌/◌, ◌%◌, ◌^◌, ◌≤◌, ◌<◌}
use native.Mathlib.Nat.{pow-suc, eq-zero-or-pos}
use native.Mathlib.Numerals.{add-one}
use native.Mathlib.Omega.{arith}
use mathlib.Core.Path.{◌≡◌, refl, ap, ◌∙◌}
use mathlib.Core.Logic.{◌⊎◌, inl, inr}
use mathlib.Core.Bool.{Bool, true, false, cond, ◌&&◌, and-eq-true_iff}
use mathlib.Core.List.{List, [], ◌∷◌, ◌++◌, append_assoc}
use borrow.Author.Tests.{leb-true, le-leb, ne_eqb}
use lib.Dec.{leb, eqb}
use lib.ListN.{length, length-append}
use Rattle.field.specs.Byte.{is_of}
use Rattle.field.specs.Number.{digits_after, rest, filled}
use Rattle.field.specs.declared.Class.TheVariants.{Digit}
use Rattle.std.specs.Prelude.{Option, Some, None}
use Rattle.std.proofs.lemmas.Option.{none-some}

-- ---- tests and what they guard

pub between : (a b x : ℕ) → (leb a x && leb x b) ≡ true → (a ≤ x) × (x ≤ b)
between a b x e = let h = (and-eq-true_iff (leb a x) (leb x b)).0 e in (leb-true a x h.0, leb-true x b h.1)

pub is_between : (a b x : ℕ) → a ≤ x → x ≤ b → (leb a x && leb x b) ≡ true
is_between a b x h k = rw (le-leb a x h, le-leb x b k)

-- where a value came out, the test before it passed
pub guarded : (t : Bool) (n : Option ℕ) (v : ℕ) → cond t n None ≡ Some v → (t ≡ true) × (n ≡ Some v)
guarded true n v e = (refl, e)
guarded false n v e = absurd (none-some _ e)

-- ---- reading

-- the first digit becomes the last one of the number so far
pub first_digit : (n b : ℕ) (s : List ℕ) (v : ℕ) → digits_after n (b ∷ s) ≡ Some v
    → let m = n * 10 + (b - 48) in (m / 10 ≡ n) × (48 + m % 10 ≡ b) × (digits_after m s ≡ Some v)
first_digit n b s v e =
    let g = guarded (is_of Digit b) (digits_after (n * 10 + (b - 48)) s) v e in
    let d = between 48 57 b g.0 in
    (omega arith, omega arith, g.1)

-- digits after digits go on with the number so far
pub digits_then : (s t : List ℕ) (a n : ℕ) → digits_after a s ≡ Some n → digits_after a (s ++ t) ≡ digits_after n t
digits_then [] t a n e = cc
digits_then (b ∷ s) t a n e =
    let g = guarded (is_of Digit b) (digits_after (a * 10 + (b - 48)) s) n e in
    rw g.0 (digits_then s t (a * 10 + (b - 48)) n g.1)

pub digit_read : (n d v : ℕ) → d ≤ 9 → n * 10 + d ≡ v → digits_after n ((48 + d) ∷ []) ≡ Some v
digit_read n d v h e = rw (is_between 48 57 (48 + d) (omega arith) (omega arith)) (ap Some (omega arith))

-- a byte of the rest is a digit, unless the fill stands there
digit_byte : (fill v : ℕ) → (v ≡ 0 → fill ≡ 48) → cond (eqb v 0) fill (48 + v % 10) ≡ 48 + v % 10
digit_byte fill zero h = h refl
digit_byte fill (suc v) h = rw (ne_eqb (suc v) 0 (omega arith))

filled_rest : (fill w v : ℕ) → (v ≡ 0 → fill ≡ 48) → filled fill w v ≡ rest fill w v
filled_rest fill zero v h = refl
filled_rest fill (suc w) v h = rw (digit_byte fill v h)

-- a reader that passes over the fill, reads one digit, and after a number that is not 0 goes on with digits, reads what is filled
module _
    (fill : ℕ)
    (read : List ℕ → Option ℕ)
    (skip : (t : List ℕ) → read (fill ∷ t) ≡ read t)
    (one : (d : ℕ) → d ≤ 9 → read ((48 + d) ∷ []) ≡ Some d)
    (more : (s t : List ℕ) (n : ℕ) → 0 < n → read s ≡ Some n → read (s ++ t) ≡ digits_after n t)
  where
    skip_rest : (w : ℕ) (t : List ℕ) → read (rest fill w 0 ++ t) ≡ read t
    skip_rest zero t = refl
    skip_rest (suc w) t = rw (append_assoc (rest fill w 0) (fill ∷ []) t) (skip_rest w (fill ∷ t) ∙ skip t)

    one_read : (w v : ℕ) → v / 10 ≡ 0 → read (filled fill (suc w) v) ≡ Some v
    one_read w v e = rw e (skip_rest w ((48 + v % 10) ∷ []) ∙ one (v % 10) (omega arith) ∙ ap Some (omega arith))

    pub filled_read : (w v : ℕ) → v < 10 ^ suc w → read (filled fill (suc w) v) ≡ Some v
    filled_read zero v h = one_read zero v (omega arith)
    filled_read (suc w) v h = go (eq-zero-or-pos (v / 10)) (filled_read w (v / 10) (omega (arith, pow-suc 10 (suc w))))
      where
        go : (v / 10 ≡ 0) ⊎ (0 < v / 10) → read (filled fill (suc w) (v / 10)) ≡ Some (v / 10) → read (filled fill (suc (suc w)) v) ≡ Some v
        go (inl e) ih = one_read (suc w) v e
        go (inr p) ih =
            rw (← filled_rest fill (suc w) (v / 10) (λ e. absurd (omega arith)))
            (more (filled fill (suc w) (v / 10)) _ (v / 10) p ih ∙ digit_read (v / 10) (v % 10) v (omega arith) (omega arith))

-- ---- writing

-- s is v as `write` writes it, and v fits
abbrev pub FillWritten : (ℕ → ℕ → List ℕ) → List ℕ → ℕ → Type 0
FillWritten write s v = (write (length s) v ≡ s) × (v < 10 ^ length s)

pub length_snoc : (s : List ℕ) (b : ℕ) → length (s ++ (b ∷ [])) ≡ suc (length s)
length_snoc s b = length-append s (b ∷ []) ∙ add-one (length s)

-- one byte more behind what is written
pub snoc_written : (write : ℕ → ℕ → List ℕ) (fill : ℕ) (s : List ℕ) (b n v : ℕ) → FillWritten (rest fill) s n → v / 10 ≡ n
    → write (suc (length s)) v ≡ rest fill (length s) (v / 10) ++ (b ∷ []) → FillWritten write (s ++ (b ∷ [])) v
snoc_written write fill s b n v w q e = rw (length_snoc s b) (e ∙ rw (q, w.0), omega (arith, pow-suc 10 (length s)))

-- digits that are read behind what is written, unless the first is a 0 for which the fill stands
pub digits_written : (fill : ℕ) (s : List ℕ) (b : ℕ) (t : List ℕ) (n v : ℕ) → (n * 10 + (b - 48) ≡ 0 → fill ≡ 48)
    → FillWritten (rest fill) s n → digits_after n (b ∷ t) ≡ Some v → FillWritten (filled fill) (s ++ b ∷ t) v
digits_written fill s b [] n v h w e =
    let d = first_digit n b [] v e in
    let m : n * 10 + (b - 48) ≡ v = cc in
    snoc_written (filled fill) fill s b n v w (rw m at d.0) (rw (← m, d.1))
digits_written fill s b (c ∷ t) n v h w e =
    let d = first_digit n b (c ∷ t) v e in
    let m = n * 10 + (b - 48) in
    let r = snoc_written (rest fill) fill s b n m w d.0 (rw (digit_byte fill m h, d.1)) in
    rw append_assoc at (digits_written fill (s ++ (b ∷ [])) c t m v (λ z. h (omega arith)) r d.2)
