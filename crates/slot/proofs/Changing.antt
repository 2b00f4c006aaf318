-- The bytes of a slot are those of the order that it says. So what a change of the order leaves need not be stored again.
use Prim.Native.Nat.{ℕ, zero, suc, ◌+◌, ◌≤◌, ◌<◌}
use native.Mathlib.Omega.{arith}
use mathlib.Core.Path.{◌≡◌, refl, sym, ap, ◌∙◌}
use mathlib.Core.Bool.{true}
use mathlib.Core.List.{List, [], ◌∷◌, ◌++◌}
use borrow.Author.Tests.{lt-ltb}
use lib.ListN.{length, get_or, drop}
use lib.Seq.{sets, drop-cons, drop-drop, length-sets, set-get_or, take-add}
use Rattle.run.specs.Runs.{part, all}
use Rattle.run.proofs.All.{all_drop, all_take}
use Rattle.run.proofs.Parts.{length_part, part_after, part_part}
use Rattle.cell.specs.Cells.{le, le_bytes}
use Rattle.cell.proofs.Laws.{le_read}
use Rattle.order.specs.declared.Figures.{Figures}
use Rattle.day.specs.Machine.{with_figures, with_price}
use Rattle.slot.specs.Slots.{slot_width, figures_bytes, figures_in, is_byte, key_bytes, order_in, series_bytes, series_in, slot_bytes, terms_bytes}
use Rattle.slot.proofs.Runs.{Stored, number, then}

-- ---- what stands there may be stored again

sets_kept : (l : List ℕ) (at w : ℕ) → at + w ≤ length l → sets l at (part l at w) ≡ l
sets_kept l at zero h = refl
sets_kept l at (suc w) h =
    let e : part l at (suc w) ≡ get_or l at 0 ∷ part l (suc at) w = rw (drop-cons l at 0 (omega arith)) in
    ap (sets l at) e ∙ ap (λ (m : List ℕ). sets m (suc at) (part l (suc at) w)) (set-get_or l at 0) ∙ sets_kept l (suc at) w (omega arith)

kept : (l : List ℕ) (at w : ℕ) {xs : List ℕ} → at + w ≤ length l → xs ≡ part l at w → Stored l at w xs l
kept l at w h e = record { wide = rw e (length_part l at w h); stored = rw e (sym (sets_kept l at w h)) }

-- ---- the bytes of a slot

joined : (b : List ℕ) (n w m v : ℕ) {xs ys : List ℕ} → xs ≡ part b n w → ys ≡ part b m v → m ≡ n + w → xs ++ ys ≡ part b n (w + v)
joined b n w m v e f g = rw (e, f, g, take-add w v (drop n b), drop-drop w n b)

pub all_bytes : (s : List ℕ) → ((k : ℕ) → get_or s k 0 < 256) → all is_byte s ≡ true
all_bytes [] h = refl
all_bytes (b ∷ s) h = rw (lt-ltb b 256 (h 0)) (all_bytes s (λ k. h (suc k)))

module _ (b : List ℕ) (long : length b ≡ slot_width) (bytes : all is_byte b ≡ true) where
  byte_told : (n : ℕ) → n < 80 → get_or b n 0 ∷ [] ≡ part b n 1
  byte_told n h = rw (drop-cons b n 0 (omega arith))

  number_told : (n w : ℕ) → n + w ≤ 80 → le_bytes w (le (part b n w)) ≡ part b n w
  number_told n w h =
      rw (length_part b n w (omega arith)) at (le_read (part b n w) (all_take is_byte (drop n b) w (all_drop is_byte b n bytes)))

  series_told : series_bytes (series_in b) ≡ part b 27 14
  series_told =
      let month = joined b 27 6 33 1 refl (byte_told 33 (omega arith)) refl in
      let date = joined b 27 7 34 1 month (number_told 34 1 (omega arith)) refl in
      let year = joined b 27 8 35 1 date (number_told 35 1 (omega arith)) refl in
      let denominator = joined b 27 9 36 1 year (byte_told 36 (omega arith)) refl in
      joined b 27 10 37 4 denominator (number_told 37 4 (omega arith)) refl

  front_told : key_bytes (order_in b).key ++ ((order_in b).side ∷ []) ++ series_bytes (order_in b).series ≡ part b 0 41
  front_told =
      let key = joined b 0 6 6 20 refl refl refl in
      let side = joined b 0 26 26 1 key (byte_told 26 (omega arith)) refl in
      joined b 0 27 27 14 side series_told refl

  terms_told : terms_bytes (order_in b) ≡ part b 0 49
  terms_told = joined b 0 41 41 8 front_told (number_told 41 8 (omega arith)) refl

  figures_told : figures_bytes (figures_in b) ≡ part b 51 24
  figures_told =
      let executed = joined b 51 4 55 4 (number_told 51 4 (omega arith)) (number_told 55 4 (omega arith)) refl in
      let broken = joined b 51 8 59 4 executed (number_told 59 4 (omega arith)) refl in
      let cancelled = joined b 51 12 63 4 broken (number_told 63 4 (omega arith)) refl in
      let passed = joined b 51 16 67 4 cancelled (number_told 67 4 (omega arith)) refl in
      joined b 51 20 71 4 passed (number_told 71 4 (omega arith)) refl

-- ---- stores into a slot

module _ (s : List ℕ) (at : ℕ) (h : at + slot_width ≤ length s) (known : (k : ℕ) → get_or s k 0 < 256) where
  abbrev here : List ℕ
  here = part s at slot_width

  long : length here ≡ slot_width
  long = length_part s at slot_width h

  bytes : all is_byte here ≡ true
  bytes = all_take is_byte (drop at s) slot_width (all_drop is_byte s at (all_bytes s known))

  there : (n w m : ℕ) {xs : List ℕ} → m ≡ at + n → n + w ≤ 80 → xs ≡ part here n w → xs ≡ part s m w
  there n w m g k e = rw g (e ∙ part_part s at slot_width n w k)

  pub figures_changed : (f : Figures) {u v : List ℕ} → u ≡ sets s (at + 51) (figures_bytes f) → v ≡ sets u (at + 75) (le_bytes 5 0)
      → v ≡ sets s at (slot_bytes (with_figures (λ (old : Figures). f) (order_in here)))
  figures_changed f {u} e k =
      let elder = joined here 0 49 49 2 (terms_told here long bytes) (number_told here long bytes 49 2 (omega arith)) refl in
      let first = kept s at 51 (omega arith) (there 0 51 at (omega arith) (omega arith) elder) in
      let second : Stored s (at + 51) 24 (figures_bytes f) u = record { wide = refl; stored = e } in
      (then (then first second refl) (number 5 0 k) refl).stored

  pub price_changed : (p : ℕ) {u v : List ℕ} → u ≡ sets s (at + 41) (le_bytes 8 p) → v ≡ sets u (at + 75) (le_bytes 5 0)
      → v ≡ sets s at (slot_bytes (with_price p (order_in here)))
  price_changed p {u} e k =
      let first = kept s at 41 (omega arith) (there 0 41 at (omega arith) (omega arith) (front_told here long bytes)) in
      let same : length u ≡ length s = rw e (length-sets s (at + 41) (le_bytes 8 p)) in
      let behind : (n w : ℕ) → 49 ≤ n → part s (at + n) w ≡ part u (at + n) w = λ n w l. rw e (sym (part_after s (le_bytes 8 p) (at + 41) (at + n) w (omega arith))) in
      let elder = kept u (at + 49) 2 (omega arith) (there 49 2 (at + 49) refl (omega arith) (number_told here long bytes 49 2 (omega arith)) ∙ behind 49 2 (omega arith)) in
      let figures = kept u (at + 51) 24 (omega arith) (there 51 24 (at + 51) refl (omega arith) (figures_told here long bytes) ∙ behind 51 24 (omega arith)) in
      (then (then (then (then first (number 8 p e) refl) elder refl) figures refl) (number 5 0 k) refl).stored
