-- Bytes that hold a table: what a change of an order, one order more and the day's end make of them. proofs/RowHolding.antt has the quote rows.
use Prim.Native.Nat.{ℕ, ◌+◌, ◌-◌, ◌≤◌, ◌<◌}
use native.Mathlib.Nat.{add-zero, zero-add}
use native.Mathlib.Omega.{arith}
use mathlib.Core.Path.{◌≡◌, refl, sym, ap, ap₂, ◌∙◌}
use mathlib.Core.Bool.{Bool, true, false}
use mathlib.Core.List.{List, [], ◌∷◌, ◌++◌}
use borrow.Author.Tests.{eqb-true, eqb-false}
use lib.Dec.{eqb}
use lib.ListN.{length, get_or, set, replicate, length-set, length-append}
use lib.Seq.{sets, length-sets, drop_at, get_or-set_same}
use Rattle.run.specs.Runs.{part, all, is_zero}
use Rattle.cell.specs.Cells.{le, le_bytes}
use Rattle.run.proofs.Parts.{get_d_part, part_part, part_before, part_after, part_whole}
use Rattle.cell.proofs.Laws.{le_written}
use Rattle.order.specs.declared.Key.{Key}
use Rattle.order.specs.declared.Order.{Order}
use Rattle.day.specs.Machine.{place, amend}
use Rattle.day.specs.Tables.{Table, with_orders, with_over}
use Rattle.day.proofs.Tables.{table_eq}
use Rattle.slot.specs.Slots.{slot_width, slot_bytes, terms_bytes, figures_bytes, order_in, Fits}
use Rattle.slot.specs.Places.{slot_at, slot, orders_in, SlotInside}
use Rattle.slot.proofs.Laws.{stored_here, stored_elsewhere, header_kept, header_byte, orders_kept, orders_set, orders_append, length_orders, order_no}
use Rattle.slot.proofs.Lookups.{at_found, amend_at}
use Rattle.slot.proofs.Said.{length_slot}
use Rattle.quote.specs.Quotes.{most_rows}
use Rattle.quote_slot.specs.QuoteSlots.{rows_in}
use Rattle.quote_slot.proofs.Laws.{rows_kept}
use Rattle.table.specs.Changes.{changed, appended}
use Rattle.table.specs.Tables.{limit_of, count_in, row_count_in, base_in, spare_in, table_in, tail_zero}
use Rattle.table.proofs.Fitting.{AllFit}
use Rattle.table.proofs.Limits.{limit_small, slot_inside, slots_inside}

abbrev pub TailZero : List ℕ → ℕ → Type 0
TailZero s k = tail_zero s k ≡ true

-- the bytes of a table, damaged or not
pub record Holds (s : List ℕ) (t : Table) : Type 0 where
  pub meant : 0 < limit_of (length s)
  pub few : count_in s ≤ limit_of (length s)
  pub few_rows : row_count_in s ≤ most_rows
  pub mark : get_or s 4 0 ≤ 1
  pub spare : all is_zero (spare_in s) ≡ true
  pub tails : (k : ℕ) → k < count_in s → TailZero s k
  pub says : table_in s ≡ t

-- ---- tails

slot_tail : (s : List ℕ) (k : ℕ) → part (slot s k) 75 5 ≡ part s (slot_at k + 75) 5
slot_tail s k = part_part s (slot_at k) slot_width 75 5 (omega arith)

tail_written : (o : Order) → Fits o → part (slot_bytes o) 75 5 ≡ replicate 5 0
tail_written o f =
    let front = terms_bytes o ++ le_bytes 2 o.elder ++ figures_bytes o.figures in
    let wide : length front ≡ 75 = simp (length-append, f.source.0, f.token.0, f.root.0) in
    rw (drop_at front (replicate 5 0) 75 wide)

-- ---- the count, through a store behind it

pub count_kept : (s b : List ℕ) (at : ℕ) → 4 ≤ at → count_in (sets s at b) ≡ count_in s
count_kept s b at h = ap le (part_before s b at 0 4 (omega arith))

-- ---- the quote rows, through a store that lies before them

pub quotes_kept : (s b : List ℕ) (at : ℕ) → row_count_in (sets s at b) ≡ row_count_in s → at + length b ≤ base_in s
    → (table_in (sets s at b)).quotes ≡ (table_in s).quotes
quotes_kept s b at same h =
    ap₂ (λ len n. rows_in (slot_at (limit_of len)) n (sets s at b)) (length-sets s at b) same
    ∙ rows_kept (base_in s) s b at (row_count_in s) h

-- the header lies before the rows
pub header_before : (s : List ℕ) → 8 ≤ base_in s
header_before s = omega arith

-- ---- an order is stored

module _ (s : List ℕ) (i : ℕ) (o : Order) where
  abbrev now : List ℕ
  now = sets s (slot_at i) (slot_bytes o)

  same_length : length now ≡ length s
  same_length = length-sets s (slot_at i) (slot_bytes o)

  same_count : count_in now ≡ count_in s
  same_count = count_kept s (slot_bytes o) (slot_at i) (omega arith)

  same_mark : get_or now 4 0 ≡ get_or s 4 0
  same_mark = header_byte s (slot_bytes o) i 4 (omega arith)

  same_rows : row_count_in now ≡ row_count_in s
  same_rows = header_byte s (slot_bytes o) i 5 (omega arith)

  same_spare : spare_in now ≡ spare_in s
  same_spare = header_kept s (slot_bytes o) i 6 2 (omega arith)

  same_quotes : Fits o → i < limit_of (length s) → (table_in now).quotes ≡ (table_in s).quotes
  same_quotes f l = quotes_kept s (slot_bytes o) (slot_at i) same_rows (omega (arith, length_slot f))

  stored_tail : Fits o → SlotInside i s → (k : ℕ) → ((k ≡ i → ⊥) → TailZero s k) → TailZero now k
  stored_tail f room k h = go (eqb k i) refl
    where
      go : (t : Bool) → eqb k i ≡ t → TailZero now k
      go true q =
          let here = ap (λ b. part b 75 5) (stored_here s i (slot_bytes o) (length_slot f) room) ∙ tail_written o f in
          rw (eqb-true k i q) (ap (all is_zero) (sym (slot_tail now i) ∙ here))
      go false q =
          let other = eqb-false k i q in
          let same = ap (λ b. part b 75 5) (stored_elsewhere s i k (slot_bytes o) (length_slot f) (λ e. other (sym e))) in
          ap (all is_zero) (sym (slot_tail now k) ∙ same ∙ slot_tail s k) ∙ h other

  set_holds : {t : Table} → Holds s t → i < count_in s → Fits o → Holds now (with_orders (set t.orders i o) t)
  set_holds {t} h l f =
      record {
        meant = rw same_length h.meant;
        few = rw (same_count, same_length) h.few;
        few_rows = rw same_rows h.few_rows;
        mark = rw same_mark h.mark;
        spare = rw same_spare h.spare;
        tails = λ k m. stored_tail f (slot_inside (length s) i (omega (arith, h.few))) k (λ d. h.tails k (rw same_count at m));
        says =
            table_eq orders (same_quotes f (omega (arith, h.few))) (ap (λ b. eqb b 1) same_mark)
            ∙ ap (λ (t : Table). with_orders (set t.orders i o) t) h.says;
      }
    where
      orders : orders_in 0 (count_in now) now ≡ set (orders_in 0 (count_in s) s) i o
      orders = ap (λ n. orders_in 0 n now) same_count ∙ orders_set s (count_in s) i o f l (slots_inside (length s) (count_in s) h.meant h.few)

-- the earliest order with a key is changed
pub length_changed : (k : Key) (f : Order → Order) (s : List ℕ) → length (changed k f s) ≡ length s
length_changed k f s =
    let i = place k (table_in s).orders - 1 in
    length-sets s (slot_at i) (slot_bytes (f (order_in (slot s i))))

pub changed_holds : {s : List ℕ} (k : Key) (f : Order → Order) (i : ℕ) → Holds s (table_in s) → place k (table_in s).orders ≡ i + 1
    → AllFit (amend k f (table_in s).orders)
    → Holds (changed k f s) (with_orders (amend k f (table_in s).orders) (table_in s))
changed_holds {s} k f i h e fit =
    let os = (table_in s).orders in
    let none = order_in (slot s i) in
    let at : place k os - 1 ≡ i = omega arith in
    let inside = (at_found k os i none e).0 in
    let n = length_orders 0 (count_in s) s in
    let theirs : get_or os i none ≡ none = order_no 0 (count_in s) s i none (omega arith) ∙ ap (λ j. order_in (slot s j)) (zero-add i) in
    let amended : amend k f os ≡ set os i (f none) = amend_at k f os i none e ∙ ap (λ o. set os i (f o)) theirs in
    let changes : Fits (f none) = rw (amended, get_or-set_same os i (f none) none inside) at (fit none i (rw (amended, length-set) inside)) in
    rw (at, amended) (set_holds s i (f none) h (omega arith) changes)

-- ---- a store into the header

-- a byte behind a store
pub byte_after : (s b : List ℕ) (at i : ℕ) → at + length b ≤ i → get_or (sets s at b) i 0 ≡ get_or s i 0
byte_after s b at i h =
    rw (add-zero i) at
    (sym (get_d_part (sets s at b) i 1 0 (omega arith)) ∙ ap (λ l. get_or l 0 0) (part_after s b at i 1 h) ∙ get_d_part s i 1 0 (omega arith))

pub tail_kept : (s b : List ℕ) (at : ℕ) → at + length b ≤ 8 → (k : ℕ) → TailZero s k → TailZero (sets s at b) k
tail_kept s b at small k z = ap (all is_zero) (part_after s b at (slot_at k + 75) 5 (omega arith)) ∙ z

-- one order more
pub length_appended : (o : Order) (s : List ℕ) → length (appended o s) ≡ length s
length_appended o s =
    length-sets (sets s (slot_at (count_in s)) (slot_bytes o)) 0 (le_bytes 4 (count_in s + 1)) ∙ length-sets s (slot_at (count_in s)) (slot_bytes o)

pub one_more : (s u v : List ℕ) (n : ℕ) (o : Order) → n ≡ count_in s → u ≡ sets s (slot_at n) (slot_bytes o) → v ≡ sets u 0 (le_bytes 4 (n + 1))
    → v ≡ appended o s
one_more s u v n o e f g = g ∙ ap (λ x. sets x 0 (le_bytes 4 (n + 1))) f ∙ ap (λ m. sets (sets s (slot_at m) (slot_bytes o)) 0 (le_bytes 4 (m + 1))) e

module _ (s : List ℕ) (o : Order) where
  abbrev stored : List ℕ
  stored = sets s (slot_at (count_in s)) (slot_bytes o)

  abbrev counted : List ℕ
  counted = le_bytes 4 (count_in s + 1)

  pub count_appended : count_in s < limit_of (length s) → count_in (appended o s) ≡ count_in s + 1
  count_appended room =
      ap le (part_whole stored counted 0 4 (omega (arith, same_length s (count_in s) o, slot_inside (length s) (count_in s) room)) refl)
      ∙ le_written 4 (count_in s + 1) (omega (arith, limit_small (length s)))

  pub appended_holds : {t : Table} → Holds s t → length t.orders < limit_of (length s) → Fits o
      → Holds (appended o s) (with_orders (t.orders ++ (o ∷ [])) t)
  appended_holds {t} h room f =
      record {
        meant = rw long h.meant;
        few = rw (count, long) (omega (arith, its_count));
        few_rows = rw row_count h.few_rows;
        mark = rw mark h.mark;
        spare = rw (part_after stored counted 0 6 2 (omega arith), same_spare s (count_in s) o) h.spare;
        tails =
            λ k m.
            tail_kept stored counted 0 (omega arith) k
            (stored_tail s (count_in s) o f inside k (λ d. h.tails k (omega (arith, d, count, m))));
        says =
            table_eq orders quotes (ap (λ b. eqb b 1) mark)
            ∙ ap (λ (t : Table). with_orders (t.orders ++ (o ∷ [])) t) h.says;
      }
    where
      its_count : count_in s ≡ length t.orders
      its_count = sym (length_orders 0 (count_in s) s) ∙ ap (λ (t : Table). length t.orders) h.says

      inside : SlotInside (count_in s) s
      inside = slot_inside (length s) (count_in s) (omega (arith, its_count))

      long : length (appended o s) ≡ length s
      long = length_appended o s

      count : count_in (appended o s) ≡ count_in s + 1
      count = count_appended (omega (arith, its_count))

      header_same : (i : ℕ) → 4 ≤ i → get_or (appended o s) i 0 ≡ get_or stored i 0
      header_same i h = byte_after stored counted 0 i (omega arith)

      mark : get_or (appended o s) 4 0 ≡ get_or s 4 0
      mark = header_same 4 (omega arith) ∙ same_mark s (count_in s) o

      row_count : row_count_in (appended o s) ≡ row_count_in s
      row_count = header_same 5 (omega arith) ∙ same_rows s (count_in s) o

      quotes : (table_in (appended o s)).quotes ≡ (table_in s).quotes
      quotes =
          quotes_kept stored counted 0 (header_same 5 (omega arith)) (omega (arith, header_before stored))
          ∙ same_quotes s (count_in s) o f (omega (arith, its_count))

      orders : orders_in 0 (count_in (appended o s)) (appended o s) ≡ orders_in 0 (count_in s) s ++ (o ∷ [])
      orders =
          ap (λ n. orders_in 0 n (appended o s)) count ∙ orders_kept stored counted 0 (count_in s + 1) (omega arith)
          ∙ orders_append s (count_in s) o f inside

-- the day's end
pub over_holds : {s : List ℕ} {t : Table} → Holds s t → Holds (sets s 4 (1 ∷ [])) (with_over t)
over_holds {s} {t} h =
    record {
      meant = rw long h.meant;
      few = rw (count, long) h.few;
      few_rows = rw row_count h.few_rows;
      mark = rw mark (omega arith);
      spare = rw (part_after s (1 ∷ []) 4 6 2 (omega arith)) h.spare;
      tails = λ k m. tail_kept s (1 ∷ []) 4 (omega arith) k (h.tails k (rw count at m));
      says = table_eq orders (quotes_kept s (1 ∷ []) 4 row_count (omega (arith, header_before s))) (ap (λ b. eqb b 1) mark) ∙ ap with_over h.says;
    }
  where
    long : length (sets s 4 (1 ∷ [])) ≡ length s
    long = length-sets s 4 (1 ∷ [])

    count : count_in (sets s 4 (1 ∷ [])) ≡ count_in s
    count = count_kept s (1 ∷ []) 4 (omega arith)

    row_count : row_count_in (sets s 4 (1 ∷ [])) ≡ row_count_in s
    row_count = byte_after s (1 ∷ []) 4 5 (omega arith)

    mark : get_or (sets s 4 (1 ∷ [])) 4 0 ≡ 1
    mark = get_or-set_same s 4 1 0 (omega (arith, slots_inside (length s) 0 h.meant (omega arith)))

    orders : orders_in 0 (count_in (sets s 4 (1 ∷ []))) (sets s 4 (1 ∷ [])) ≡ orders_in 0 (count_in s) s
    orders = ap (λ n. orders_in 0 n (sets s 4 (1 ∷ []))) count ∙ orders_kept s (1 ∷ []) 4 (count_in s) (omega arith)
