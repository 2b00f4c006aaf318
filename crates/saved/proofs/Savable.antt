-- A sound order and a sound quote row are entries: what is saved of either is read back, and nothing else reads as one.
use Prim.Native.Nat.{ℕ, zero, suc, ◌+◌, ◌-◌, ◌^◌, ◌≤◌, ◌<◌}
use native.Mathlib.Nat.{le_of_eq}
use native.Mathlib.Omega.{arith}
use mathlib.Core.Path.{◌≡◌, refl, sym, ap, ◌∙◌}
use mathlib.Core.Bool.{true, ◌&&◌}
use mathlib.Core.List.{List, [], ◌∷◌, ◌++◌, append-nil}
use borrow.Author.Tests.{lt-ltb, ltb-true, leb-true, eqb-true}
use lib.Dec.{leb, eqb}
use lib.ListN.{length, get_or, take, drop, replicate, take-append-drop, drop_of_length-le}
use lib.Seq.{take_all}
use Rattle.run.proofs.Tests.{both, five, six}
use Rattle.run.proofs.Scan.{at_next}
use Rattle.field.specs.Verbatim.{is_blank}
use Rattle.message.specs.Rule.{verbatim, text, hex, blank, run, lawful}
use Rattle.message.proofs.Rules.{writes_reads}
use Rattle.message.proofs.Shapes.{all_spaces}
use Rattle.order.specs.Figure.{Sound}
use Rattle.order.specs.Stored.{lawful_key, lawful_series, sound_order}
use Rattle.order.specs.declared.Order.{Order}
use Rattle.quote.specs.Quotes.{most_executed, names_quote, lawful_quote, sound_row}
use Rattle.quote.specs.declared.Quote.{Quote}
use Rattle.quote.specs.declared.QuoteRow.{QuoteRow}
use Rattle.day.proofs.Figures.{figures_sound}
use Rattle.groups.specs.Taken.{taken, all_of, Exact, lawful_list}
use Rattle.groups.specs.Groups.{in64}
use Rattle.groups.proofs.Lists.{Inside}
use Rattle.saved.specs.Entries.{head_of, order_numbers, saved_order, order_from, row_numbers, saved_row, row_from, saved_order_in, saved_row_in, savable}
use Rattle.saved.proofs.Heads.{HeadFits}
use Rattle.saved.proofs.Entries.{Kind, entry_sound, entry_inside, entry_exact}

pub in64_below : (v : ℕ) → v < 2 ^ 64 → in64 v ≡ true
in64_below v h = lt-ltb v (2 ^ 64) h

-- as many numbers as are there, one by one
abbrev pub from : ℕ → ℕ → List ℕ → List ℕ
from i zero vs = []
from i (suc n) vs = get_or vs i 0 ∷ from (i + 1) n vs

pub all_from : (i n : ℕ) (vs : List ℕ) → i + n ≡ length vs → from i n vs ≡ drop i vs
all_from i zero vs h = sym (drop_of_length-le vs {i = i} (omega arith))
all_from i (suc n) vs h = ap (λ (l : List ℕ). get_or vs i 0 ∷ l) (all_from (i + 1) n vs (omega arith)) ∙ sym (at_next vs i (omega arith))

-- ---- the head

text_long : (w : ℕ) (b : List ℕ) → lawful (verbatim text) w (run b) ≡ true → length b ≡ w
text_long w b l = (writes_reads (verbatim text) w (run b) refl l).1

module _ (w : ℕ) (q : Quote) (source : lawful (verbatim text) 6 (run q.key.source) ≡ true) (series : lawful_series q.series ≡ true) where
  head_fits : length (take w q.key.token) ≡ w → take w q.key.token ++ replicate (20 - w) 32 ≡ q.key.token → HeadFits w q
  head_fits name padded =
      let t = six _ _ _ _ _ _ series in
      record {
        source = text_long 6 q.key.source source;
        name = name;
        padded = padded;
        root = text_long 6 q.series.root t.0;
        date = t.2;
        year = t.3;
        strike = t.5;
      }

-- ---- an order

pub order_apart : (o : Order) → sound_order o ≡ true
    → (lawful_key o.key ≡ true) × (lawful_series o.series ≡ true) × (o.price < 10 ^ 10) × Sound o.figures
order_apart o e =
    let t = five _ _ _ _ _ e in
    (t.0, t.2, ltb-true o.price (10 ^ 10) t.3, figures_sound o.figures t.4)

pub order_head : (o : Order) → sound_order o ≡ true → HeadFits 20 (head_of o)
order_head o e =
    let t = order_apart o e in
    let key = both _ _ t.0 in
    let long = text_long 20 o.key.token key.1 in
    let whole = take_all 20 o.key.token (le_of_eq long) in
    head_fits 20 (head_of o) key.0 t.1 (rw whole long) (rw whole (append-nil o.key.token))

order_counts : (o : Order) → savable o ≡ true → lawful_list in64 7 (order_numbers o) ≡ true
order_counts o l =
    let s = both (sound_order o) (in64 o.elder) l in
    let (key, series, cents, f) = order_apart o s.0 in
    rw (
      in64_below o.price (omega arith),
      s.1,
      in64_below o.figures.executed (omega (arith, f.sum, f.most)),
      in64_below o.figures.broken (omega (arith, f.sum, f.most, f.broken)),
      in64_below o.figures.cancelled (omega (arith, f.sum, f.most)),
      in64_below o.figures.passed (omega (arith, f.sum, f.most)),
      in64_below o.figures.«open» (omega (arith, f.sum, f.most)),
    )

order_whole : (o : Order) → sound_order o ≡ true → order_from (head_of o) (order_numbers o) ≡ o
order_whole o e =
    let f = (order_apart o e).3 in
    rw (← f.sum)

order_lawful : (o : Order) → sound_order o ≡ true → lawful_list in64 7 (order_numbers o) ≡ true → savable o ≡ true
order_lawful o e c =
    let rest = o.figures.executed ∷ o.figures.broken ∷ o.figures.cancelled ∷ o.figures.passed ∷ o.figures.«open» ∷ [] in
    let price = both (in64 o.price) (in64 o.elder && all_of in64 rest) c in
    rw (e, (both (in64 o.elder) (all_of in64 rest) price.1).0)

pub order_kind : Kind sound_order savable head_of order_numbers order_from 20 7
order_kind =
    record {
      sounds = λ o l. (both (sound_order o) (in64 o.elder) l).0;
      fits = λ o l. order_head o (both (sound_order o) (in64 o.elder) l).0;
      counts = order_counts;
      lawful_so = order_lawful;
      whole = order_whole;
      head_made = λ q vs. refl;
      numbers_made = λ q vs h. all_from 0 7 vs (sym h);
    }

pub order_exact : Exact savable saved_order_in saved_order
order_exact = entry_exact sound_order savable head_of order_numbers order_from 20 7 order_kind

pub order_sound : (s : List ℕ) (o : Order) (u : ℕ) → saved_order_in s ≡ taken o u → sound_order o ≡ true
order_sound = entry_sound sound_order savable head_of order_numbers order_from 20 7

pub order_inside : Inside saved_order_in
order_inside = entry_inside sound_order savable head_of order_numbers order_from 20 7

-- ---- a quote row

pub row_apart : (w : QuoteRow) → sound_row w ≡ true → (lawful_quote w.quote ≡ true) × (w.executed ≤ most_executed) × (w.broken ≤ w.executed)
row_apart w e =
    let b = both (lawful_quote w.quote && leb 1 w.executed && leb w.executed most_executed) (leb w.broken w.executed) e in
    let m = both (lawful_quote w.quote && leb 1 w.executed) (leb w.executed most_executed) b.0 in (
      (both (lawful_quote w.quote) (leb 1 w.executed) m.0).0,
      leb-true w.executed most_executed m.1,
      leb-true w.broken w.executed b.1,
    )

pub row_head : (w : QuoteRow) → sound_row w ≡ true → HeadFits 16 w.quote
unfolding names_quote
row_head w e =
    let t = row_apart w e in
    let q = both _ _ t.0 in
    let d = both _ _ q.0 in
    let k = both _ _ d.0 in
    let token = w.quote.key.token in
    let named = both (lawful (verbatim hex) 16 (run (take 16 token))) (lawful (verbatim blank) 4 (run (drop 16 token))) k.1 in
    let long = (writes_reads (verbatim hex) 16 (run (take 16 token)) refl named.0).1 in
    let spaces = both (eqb (length (drop 16 token)) 4) (is_blank (drop 16 token)) named.1 in
    let four = eqb-true (length (drop 16 token)) 4 spaces.0 in
    let padding : replicate 4 32 ≡ drop 16 token = ap (λ n. replicate n 32) (sym four) ∙ all_spaces (drop 16 token) spaces.1 in
    head_fits 16 w.quote k.0 q.1 long (rw padding (take-append-drop 16 token))

row_counts : (w : QuoteRow) → sound_row w ≡ true → lawful_list in64 2 (row_numbers w) ≡ true
row_counts w e =
    let (quote, most, less) = row_apart w e in
    rw (in64_below w.executed (omega arith), in64_below w.broken (omega arith))

row_kind : Kind sound_row sound_row (λ (w : QuoteRow). w.quote) row_numbers row_from 16 2
row_kind =
    record {
      sounds = λ w l. l;
      fits = row_head;
      counts = row_counts;
      lawful_so = λ w e c. e;
      whole = λ w e. refl;
      head_made = λ q vs. refl;
      numbers_made = λ q vs h. all_from 0 2 vs (sym h);
    }

pub row_exact : Exact sound_row saved_row_in saved_row
row_exact = entry_exact sound_row sound_row (λ (w : QuoteRow). w.quote) row_numbers row_from 16 2 row_kind

pub row_sound : (s : List ℕ) (w : QuoteRow) (u : ℕ) → saved_row_in s ≡ taken w u → sound_row w ≡ true
row_sound = entry_sound sound_row sound_row (λ (w : QuoteRow). w.quote) row_numbers row_from 16 2

pub row_inside : Inside saved_row_in
row_inside = entry_inside sound_row sound_row (λ (w : QuoteRow). w.quote) row_numbers row_from 16 2
