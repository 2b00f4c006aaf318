-- What a sound table gives to a line: at the place that a lookup answers an order with sound figures, or a sound quote row, and a free slot or row where it is
-- not full.
use Prim.Native.Nat.{ℕ, ◌+◌, ◌≤◌, ◌<◌}
use native.Mathlib.Nat.{zero-add}
use native.Mathlib.Omega.{arith}
use mathlib.Core.Path.{◌≡◌, ap, ◌∙◌}
use mathlib.Core.Bool.{true, false}
use mathlib.Core.List.{List}
use borrow.Author.Tests.{leb-false}
use lib.Dec.{leb}
use lib.ListN.{length, get_or}
use Rattle.order.specs.Figure.{Sound}
use Rattle.order.specs.declared.Key.{Key}
use Rattle.quote.specs.Quotes.{most_rows, most_executed}
use Rattle.quote.specs.Rows.{row_place}
use Rattle.quote.specs.declared.Quote.{Quote}
use Rattle.quote.proofs.Named.{row_number}
use Rattle.day.specs.Machine.{found, find, place, seen, find_row}
use Rattle.day.proofs.QuoteRows.{row_parts}
use Rattle.day.proofs.Undamaged.{apart_rows, sums}
use Rattle.slot.specs.Slots.{order_in}
use Rattle.slot.specs.Places.{slot, SlotInside}
use Rattle.quote_slot.specs.QuoteSlots.{row_in, RowInside}
use Rattle.quote_slot.proofs.Laws.{length_rows, row_no}
use Rattle.table.specs.Changes.{row_of}
use Rattle.table.specs.Tables.{count_in, row_count_in, base_in, limit_of, sound, table_in}
use Rattle.slot.proofs.Laws.{length_orders, order_no}
use Rattle.table.proofs.Fitting.{row_sound}
use Rattle.table.proofs.Limits.{slot_inside}
use Rattle.table.proofs.RowHolding.{row_inside}
use Rattle.table.proofs.RowLookups.{at_seen}
use Rattle.slot.proofs.Lookups.{at_found}
use Rattle.table.proofs.Sound.{sound_apart}

-- the order that a lookup of k finds stands at place i
pub record There (s : List ℕ) (k : Key) (i : ℕ) : Type 0 where
  pub at : place k (table_in s).orders ≡ i + 1
  pub inside : SlotInside i s
  pub is : find k (table_in s).orders ≡ found (order_in (slot s i))
  pub sums : Sound (order_in (slot s i)).figures

pub there : (s : List ℕ) (k : Key) (i : ℕ) → sound s ≡ true → place k (table_in s).orders ≡ i + 1 → There s k i
there s k i e p =
    let w = sound_apart s e in
    let o = order_in (slot s i) in
    let h = at_found k (table_in s).orders i o p in
    let n = length_orders 0 (count_in s) s in
    let same : get_or (table_in s).orders i o ≡ o =
    order_no 0 (count_in s) s i o (omega (arith, h.0)) ∙ ap (λ j. order_in (slot s j)) (zero-add i) in
    record {
      at = p;
      inside = slot_inside (length s) i (omega (arith, h.0, w.bytes.few));
      is = h.1 ∙ ap found same;
      sums = rw same at (sums (limit_of (length s)) (table_in s) w.orders o i h.0);
    }

-- a table that is not full has a free slot
pub free : (s : List ℕ) → leb (limit_of (length s)) (length (table_in s).orders) ≡ false → count_in s < limit_of (length s)
free s e = omega (arith, length_orders 0 (count_in s) s, leb-false (limit_of (length s)) (length (table_in s).orders) e)

-- ---- 02, 1: quote rows

-- the row of q stands at place i
pub record RowThere (s : List ℕ) (q : Quote) (i : ℕ) : Type 0 where
  pub at : row_place q (table_in s).quotes ≡ i + 1
  pub inside : RowInside (base_in s) i s
  pub is : find_row q (table_in s).quotes ≡ seen (row_in (row_of s i))
  pub most : (row_in (row_of s i)).executed ≤ most_executed
  pub sums : (row_in (row_of s i)).broken ≤ (row_in (row_of s i)).executed

pub row_there : (s : List ℕ) (q : Quote) (i : ℕ) → sound s ≡ true → row_place q (table_in s).quotes ≡ i + 1 → RowThere s q i
row_there s q i e p =
    let whole = sound_apart s e in
    let w = row_in (row_of s i) in
    let ws = (table_in s).quotes in
    let (inside, is) = at_seen q ws i w p in
    let n = length_rows (base_in s) (row_count_in s) s in
    let theirs : get_or ws i w ≡ w = row_no (base_in s) (row_count_in s) s i w (omega arith) in
    let sound = row_sound ws i w (apart_rows (limit_of (length s)) (table_in s) whole.orders).sound inside in
    let (lawful, some, most, sums) = row_parts w (rw theirs at sound) in
    record {
      at = p;
      inside = row_inside s i whole.bytes.meant (omega (arith, whole.bytes.few_rows));
      is = is ∙ ap seen theirs;
      most = most;
      sums = sums;
    }

-- a table that has not all quote rows has a free one
pub row_free : (s : List ℕ) → sound s ≡ true → leb most_rows (length (table_in s).quotes) ≡ false
    → RowInside (base_in s) (row_count_in s) s × (row_count_in s < 255)
row_free s e f =
    let room : row_count_in s < most_rows = omega (arith, length_rows (base_in s) (row_count_in s) s, leb-false most_rows (length (table_in s).quotes) f) in
    (row_inside s (row_count_in s) (sound_apart s e).bytes.meant room, omega (arith, row_number))
