-- The parts of a head, read one by one, say what stands there.
use Prim.Native.Nat.{ℕ, ◌+◌, ◌-◌, ◌≤◌, ◌<◌}
use native.Mathlib.Omega.{arith}
use mathlib.Core.Path.{◌≡◌, refl, sym, ap, ◌∙◌}
use mathlib.Core.Bool.{false}
use mathlib.Core.List.{List, [], ◌∷◌, ◌++◌}
use borrow.Author.Tests.{le-ltb}
use lib.Dec.{ltb}
use lib.ListN.{length, get_or, take, drop, replicate, length-drop, length-replicate}
use lib.Seq.{sets, take_all, drop-drop, get_or-take, get_or-drop}
use Rattle.std.specs.Option.{option_map}
use Rattle.std.proofs.lemmas.List.{drop-replicate}
use Rattle.run.specs.Runs.{part}
use Rattle.run.proofs.Parts.{get_d_part, length_part}
use Rattle.run.proofs.Stores.{sets_start}
use Rattle.field.specs.Number.{digits}
use Rattle.message.specs.Rule.{num}
use Rattle.layout.specs.Layout.{least_strike}
use Rattle.order.specs.declared.Series.{Series}
use Rattle.groups.specs.Taken.{Taken, none, taken, behind}
use Rattle.saved.specs.Heads.{cut, series_widths, head_widths, head_width, on_number, series_from, quote_from, head_from, head_in}
use Rattle.saved.proofs.Cuts.{total, cut_take}
use Rattle.entry.specs.Reads.{found, key_from}

-- ---- a key

-- a name stored over spaces
name_padded : (w : ℕ) (name : List ℕ) → w ≤ 20 → length name ≡ w → sets (replicate 20 32) 0 name ≡ name ++ replicate (20 - w) 32
name_padded w name h e =
    sets_start (replicate 20 32) name (omega (arith, length-replicate {A = ℕ} 20 32))
    ∙ ap (λ (l : List ℕ). name ++ l) (ap (λ (n : ℕ). drop n (replicate {A = ℕ} 20 32)) e ∙ drop-replicate w 20 32)

pub key_made : (w : ℕ) (b source token : List ℕ) → w ≤ 20 → 6 + w ≤ length b → source ≡ part b 0 6
    → token ≡ sets (replicate 20 32) 0 (take (6 + w - 6) (drop 6 b)) → record { source = source; token = token } ≡ key_from w b
key_made w b source token h long p q =
    let width : 6 + w - 6 ≡ w = omega arith in
    rw (p, q, width, name_padded w (part b 6 w) h (length_part b 6 w long))

-- ---- a series

series_cut : (b : List ℕ) → cut series_widths b ≡ part b 0 6 ∷ part b 6 1 ∷ part b 7 2 ∷ part b 9 2 ∷ part b 11 1 ∷ part b 12 6 ∷ []
series_cut b = rw (drop-drop 1 6 b, drop-drop 2 7 b, drop-drop 2 9 b, drop-drop 1 11 b)

byte_at : (b : List ℕ) (at : ℕ) → get_or (part b at 1) 0 0 ≡ get_or b at 0
byte_at b at = get_d_part b at 1 0 (omega arith) ∙ ap (λ (n : ℕ). get_or b n 0) (omega arith)

-- the three numbers that are read, and the series that they make
pub series_said : (b : List ℕ)
    → found (series_from (cut series_widths b))
    ≡ found (on_number (option_map num (digits 1 31 (part b 7 2))) (λ date.
    on_number (option_map num (digits 0 99 (part b 9 2))) (λ year.
    on_number (option_map num (digits (least_strike (get_or b 11 0)) 999999 (part b 12 6))) (λ strike.
    taken (record { root = part b 0 6; month = get_or b 6 0; date = date; year = year; denominator = get_or b 11 0; strike = strike }) 18))))
series_said b =
    ap (λ (runs : List (List ℕ)). found (series_from runs)) (series_cut b) ∙ rw (byte_at b 11, byte_at b 6)

-- ---- a head

pub head_said : (w : ℕ) (b : List ℕ) → length b ≡ head_width w
    → found (head_from w (cut (head_widths w) b))
    ≡ option_map (λ (x : Series). record { key = key_from w b; side = get_or b (w + 6) 0; series = x })
    (found (series_from (cut series_widths (take (w + 25 - (w + 7)) (drop (w + 7) b)))))
head_said w b long =
    let at : 6 + w + 1 ≡ w + 7 = omega arith in
    let at_side : 6 + (w + 0) ≡ w + 6 = omega arith in
    let place : drop 1 (drop w (drop 6 b)) ≡ drop (w + 7) b = ap (drop 1) (drop-drop w 6 b) ∙ drop-drop 1 (6 + w) b ∙ ap (λ n. drop n b) at in
    let whole : take (w + 25 - (w + 7)) (drop (w + 7) b) ≡ drop 1 (drop w (drop 6 b)) =
    take_all (w + 25 - (w + 7)) (drop (w + 7) b) (omega (arith, length-drop (w + 7) b)) ∙ sym place in
    let side : get_or b (w + 6) 0 ≡ get_or (take 1 (drop w (drop 6 b))) 0 0 =
    sym (get_or-take 1 (drop w (drop 6 b)) 0 0 (omega arith) ∙ get_or-drop w (drop 6 b) 0 0 ∙ get_or-drop 6 b (w + 0) 0 ∙ ap (λ n. get_or b n 0) at_side) in
    rw (whole, side) (go (series_from (cut series_widths (drop 1 (drop w (drop 6 b))))))
  where
    go : (t : Taken Series)
        → found (behind t (λ x n. taken (quote_from w (cut (head_widths w) b) x) (head_width w)))
        ≡ option_map (λ (x : Series). record { key = key_from w b; side = get_or (take 1 (drop w (drop 6 b))) 0 0; series = x }) (found t)
    go none = refl
    go (taken x n) = refl

pub head_there : (w at : ℕ) (s : List ℕ) → (length s - at < 25 + w → ⊥)
    → head_from w (cut (head_widths w) (take (at + (25 + w) - at) (drop at s))) ≡ head_in w (drop at s)
head_there w at s h =
    let long : head_width w ≤ length (drop at s) = omega (arith, length-drop at s) in
    let enough : ltb (length (drop at s)) (head_width w) ≡ false = le-ltb (length (drop at s)) (head_width w) long in
    let width : at + (25 + w) - at ≡ total (head_widths w) = omega arith in
    rw (enough, width) (ap (head_from w) (cut_take (head_widths w) (drop at s) (omega arith)))
