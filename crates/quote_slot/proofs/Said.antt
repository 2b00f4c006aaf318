-- A row says what was stored in it, and its first 41 bytes are those of its quote.
use Prim.Native.Nat.{ℕ, ◌+◌, ◌^◌, ◌≤◌, ◌<◌}
use native.Mathlib.Omega.{arith}
use mathlib.Core.Path.{◌≡◌, refl, sym, ap, ap₂, ◌∙◌}
use mathlib.Core.Bool.{true}
use mathlib.Core.List.{List, [], ◌∷◌, ◌++◌, append_assoc, append-nil}
use lib.ListN.{length, get_or, take, drop}
use lib.Seq.{take_all, take-add, drop-cons, drop-drop, get_or-take}
use Rattle.run.specs.Runs.{part, all}
use Rattle.run.proofs.All.{all_take, all_drop}
use Rattle.run.proofs.Parts.{length_part, part_part}
use Rattle.quote.specs.declared.Quote.{Quote}
use Rattle.quote.specs.declared.QuoteRow.{QuoteRow}
use Rattle.cell.specs.Cells.{le, le_bytes}
use Rattle.cell.proofs.Laws.{le_read}
use Rattle.slot.specs.Slots.{is_byte}
use Rattle.slot.proofs.Said.{key_said, side_said, series_said, number_said}
use Rattle.quote_slot.specs.QuoteSlots.{quote_width, quote_in, row_in, quote_bytes, row_bytes, FitsQuote, FitsRow}

-- ---- what was stored is said

quote_front : (q : Quote) → FitsQuote q → (rest : List ℕ) → quote_in (quote_bytes q ++ rest) ≡ q
quote_front q f rest = λ i.
    record {
      key = key_said q.key q.side q.series rest f.source.0 f.token.0 f.root.0 i;
      side = side_said q.key q.side q.series rest f.source.0 f.token.0 f.root.0 i;
      series = series_said q.key q.side q.series rest f.source.0 f.token.0 f.root.0 f.date f.year f.strike i;
    }

pub quote_says : (q : Quote) → FitsQuote q → quote_in (quote_bytes q) ≡ q
quote_says q f = ap quote_in (sym (append-nil (quote_bytes q))) ∙ quote_front q f []

module _ (w : QuoteRow) (f : FitsRow w) where
  abbrev sums : List ℕ
  sums = le_bytes 4 w.executed ++ le_bytes 4 w.broken

  row_opens : row_bytes w ≡ quote_bytes w.quote ++ sums
  row_opens = append_assoc (quote_bytes w.quote) (le_bytes 4 w.executed) (le_bytes 4 w.broken)

  sum_said : (i v : ℕ) → part sums i 4 ≡ le_bytes 4 v → v < 256 ^ 4 → le (part (row_bytes w) (41 + i) 4) ≡ v
  sum_said i v e h =
      let q = w.quote in
      let g = f.quote in
      ap (λ b. le (part b (41 + i) 4)) row_opens ∙ number_said q.key q.side q.series sums g.source.0 g.token.0 g.root.0 i 4 v e h

  pub row_says : row_in (row_bytes w) ≡ w
  row_says = λ i.
      record {
        quote = (ap quote_in row_opens ∙ quote_front w.quote f.quote sums) i;
        executed = sum_said 0 w.executed refl f.executed i;
        broken = sum_said 4 w.broken refl f.broken i;
      }

-- ---- what is said is what stands there

-- the quote of a row stands in its first 41 bytes
pub quote_within : (b : List ℕ) → quote_in (part b 0 quote_width) ≡ quote_in b
quote_within b = λ i.
    record {
      key = record { source = part_part b 0 41 0 6 (omega arith) i; token = part_part b 0 41 6 20 (omega arith) i };
      side = get_or-take 41 b 26 0 (omega arith) i;
      series =
          record {
            root = part_part b 0 41 27 6 (omega arith) i;
            month = get_or-take 41 b 33 0 (omega arith) i;
            date = le (part_part b 0 41 34 1 (omega arith) i);
            year = le (part_part b 0 41 35 1 (omega arith) i);
            denominator = get_or-take 41 b 36 0 (omega arith) i;
            strike = le (part_part b 0 41 37 4 (omega arith) i);
          };
    }

-- a part that holds a number, written anew
number_back : (b : List ℕ) → all is_byte b ≡ true → (at w : ℕ) → at + w ≤ length b → le_bytes w (le (part b at w)) ≡ part b at w
number_back b e at w h =
    let wide = length_part b at w h in
    rw wide at (le_read (part b at w) (all_take is_byte (drop at b) w (all_drop is_byte b at e)))

byte_back : (b : List ℕ) (i : ℕ) → i < length b → get_or b i 0 ∷ [] ≡ part b i 1
byte_back b i h = sym (ap (take 1) (drop-cons b i 0 h))

-- two parts, one right behind the other
glue : (b : List ℕ) (at n m : ℕ) {x y : List ℕ} → x ≡ part b at n → y ≡ part b (at + n) m → x ++ y ≡ part b at (n + m)
glue b at n m p q =
    ap₂ (λ (f g : List ℕ). f ++ g) p (q ∙ ap (take m) (sym (drop-drop n at b))) ∙ sym (take-add n m (drop at b))

-- 41 bytes are those of the quote that they say
pub quote_back : (b : List ℕ) → length b ≡ quote_width → all is_byte b ≡ true → quote_bytes (quote_in b) ≡ b
quote_back b h e =
    let key = glue b 0 26 1 (glue b 0 6 20 refl refl) (byte_back b 26 (omega arith)) in
    let month = glue b 27 6 1 refl (byte_back b 33 (omega arith)) in
    let date = glue b 27 7 1 month (number_back b e 34 1 (omega arith)) in
    let year = glue b 27 8 1 date (number_back b e 35 1 (omega arith)) in
    let denominator = glue b 27 9 1 year (byte_back b 36 (omega arith)) in
    let series = glue b 27 10 4 denominator (number_back b e 37 4 (omega arith)) in
    glue b 0 27 14 key series ∙ take_all 41 b (omega arith)
