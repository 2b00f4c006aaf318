-- Bytes that hold a table: what a change of a quote row and one row more make of them (02, 1).
use Prim.Native.Nat.{ℕ, ◌+◌, ◌-◌, ◌≤◌, ◌<◌}
use native.Mathlib.Omega.{arith}
use mathlib.Core.Path.{◌≡◌, sym, ap, ap₂, ◌∙◌}
use mathlib.Core.List.{List, [], ◌∷◌, ◌++◌}
use lib.Dec.{eqb}
use lib.ListN.{length, get_or, set}
use lib.Seq.{sets, length-sets, get_or-set_same, get_or-set_other, get_or-take}
use Rattle.run.specs.Runs.{all, is_zero}
use Rattle.run.proofs.Parts.{take_sets, part_before, part_after}
use Rattle.quote.specs.Quotes.{most_rows}
use Rattle.quote.specs.Rows.{row_place}
use Rattle.quote.specs.declared.Quote.{Quote}
use Rattle.quote.specs.declared.QuoteRow.{QuoteRow}
use Rattle.day.specs.Machine.{amend_row}
use Rattle.day.specs.Tables.{Table, with_quotes}
use Rattle.day.proofs.Tables.{table_eq}
use Rattle.slot.specs.Places.{slot_at, orders_in}
use Rattle.slot.proofs.Laws.{orders_kept}
use Rattle.quote_slot.specs.QuoteSlots.{row_at, rows_in, row_bytes, row_in, FitsRow, RowInside}
use Rattle.quote_slot.proofs.Laws.{length_rows, row_no, rows_set, rows_append, rows_kept, orders_before}
use Rattle.table.specs.Changes.{row_of, row_changed, row_appended}
use Rattle.table.specs.Tables.{limit_of, count_in, row_count_in, base_in, spare_in, table_in}
use Rattle.table.proofs.Holding.{TailZero, Holds, count_kept, tail_kept}
use Rattle.table.proofs.Limits.{slots_inside, rows_inside}
use Rattle.table.proofs.RowLookups.{at_seen, amend_row_at}

-- row i lies inside, and behind the slots in use
pub row_inside : (s : List ℕ) (i : ℕ) → 0 < limit_of (length s) → i < most_rows → RowInside (base_in s) i s
row_inside s i p h = omega (arith, rows_inside (length s) (i + 1) p (omega arith))

-- ---- a store behind the slots

module _ (s b : List ℕ) (at : ℕ) (h : base_in s ≤ at) where
  abbrev now : List ℕ
  now = sets s at b

  same_length : length now ≡ length s
  same_length = length-sets s at b

  same_byte : (i : ℕ) → i < 8 → get_or now i 0 ≡ get_or s i 0
  same_byte i l =
      sym (get_or-take 8 now i 0 l) ∙ ap (λ l. get_or l i 0) (take_sets s b at 8 (omega arith)) ∙ get_or-take 8 s i 0 l

  same_count : count_in now ≡ count_in s
  same_count = count_kept s b at (omega arith)

  same_spare : spare_in now ≡ spare_in s
  same_spare = part_before s b at 6 2 (omega arith)

  same_orders : count_in s ≤ limit_of (length s) → (table_in now).orders ≡ (table_in s).orders
  same_orders few = ap (λ n. orders_in 0 n now) same_count ∙ orders_before (base_in s) s b at (count_in s) (omega arith) h

  same_tail : (k : ℕ) → k < limit_of (length s) → TailZero s k → TailZero now k
  same_tail k l z = ap (all is_zero) (part_before s b at (slot_at k + 75) 5 (omega arith)) ∙ z

  -- all but the rows stays as it was
  stored_holds : {t : Table} → Holds s t → (ws : List QuoteRow) → rows_in (base_in s) (row_count_in s) now ≡ ws → Holds now (with_quotes ws t)
  stored_holds {t} x ws e =
      record {
        meant = rw same_length x.meant;
        few = rw (same_count, same_length) x.few;
        few_rows = rw (same_byte 5 (omega arith)) x.few_rows;
        mark = rw (same_byte 4 (omega arith)) x.mark;
        spare = rw same_spare x.spare;
        tails = λ k m. same_tail k (omega (arith, x.few, same_count)) (x.tails k (rw same_count at m));
        says =
            table_eq (same_orders x.few)
            (ap₂ (λ len n. rows_in (slot_at (limit_of len)) n now) same_length (same_byte 5 (omega arith)) ∙ e)
            (ap (λ b. eqb b 1) (same_byte 4 (omega arith)))
            ∙ ap (with_quotes ws) x.says;
      }

-- ---- a quote's row is changed

pub length_row_changed : (q : Quote) (f : QuoteRow → QuoteRow) (s : List ℕ) → length (row_changed q f s) ≡ length s
length_row_changed q f s =
    let i = row_place q (table_in s).quotes - 1 in
    length-sets s (row_at (base_in s) i) (row_bytes (f (row_in (row_of s i))))

pub row_changed_holds : {s : List ℕ} (q : Quote) (f : QuoteRow → QuoteRow) (i : ℕ) → Holds s (table_in s)
    → row_place q (table_in s).quotes ≡ i + 1
    → ((w : QuoteRow) → FitsRow (get_or (amend_row q f (table_in s).quotes) i w))
    → Holds (row_changed q f s) (with_quotes (amend_row q f (table_in s).quotes) (table_in s))
row_changed_holds {s} q f i h e fit =
    let ws = (table_in s).quotes in
    let base = base_in s in
    let old = row_in (row_of s i) in
    let at : row_place q ws - 1 ≡ i = omega arith in
    let inside = (at_seen q ws i old e).0 in
    let n = length_rows base (row_count_in s) s in
    let theirs : get_or ws i old ≡ old = row_no base (row_count_in s) s i old (omega arith) in
    let amended : amend_row q f ws ≡ set ws i (f old) = amend_row_at q f ws i old e ∙ ap (λ w. set ws i (f w)) theirs in
    let changes : FitsRow (f old) = rw (amended, get_or-set_same ws i (f old) old inside) at (fit old) in
    let room = rows_inside (length s) (row_count_in s) h.meant h.few_rows in
    let stored = rows_set base s (row_count_in s) i (f old) changes (omega arith) room in
    rw (at, amended) (stored_holds s (row_bytes (f old)) (row_at base i) (omega arith) h (set ws i (f old)) stored)

-- ---- one row more

pub length_row_appended : (w : QuoteRow) (s : List ℕ) → length (row_appended w s) ≡ length s
length_row_appended w s =
    length-sets (sets s (row_at (base_in s) (row_count_in s)) (row_bytes w)) 5 ((row_count_in s + 1) ∷ [])
    ∙ length-sets s (row_at (base_in s) (row_count_in s)) (row_bytes w)

module _ (s : List ℕ) (w : QuoteRow) where
  abbrev at : ℕ
  at = row_at (base_in s) (row_count_in s)

  abbrev stored : List ℕ
  stored = sets s at (row_bytes w)

  abbrev counted : List ℕ
  counted = (row_count_in s + 1) ∷ []

  pub row_appended_holds : {t : Table} → Holds s t → length t.quotes < most_rows → FitsRow w
      → Holds (row_appended w s) (with_quotes (t.quotes ++ (w ∷ [])) t)
  row_appended_holds {t} h room f =
      record {
        meant = rw long h.meant;
        few = rw (count, long) h.few;
        few_rows = rw row_count (omega (arith, its_count));
        mark = rw mark h.mark;
        spare = rw (part_after stored counted 5 6 2 (omega arith), same_spare s (row_bytes w) at behind) h.spare;
        tails = λ k m. tail_kept stored counted 5 (omega arith) k (same_tail s (row_bytes w) at behind k (omega (arith, h.few, count)) (h.tails k (rw count at m)));
        says =
            table_eq orders quotes (ap (λ b. eqb b 1) mark)
            ∙ ap (λ (t : Table). with_quotes (t.quotes ++ (w ∷ [])) t) h.says;
      }
    where
      behind : base_in s ≤ at
      behind = omega arith

      its_count : row_count_in s ≡ length t.quotes
      its_count = sym (length_rows (base_in s) (row_count_in s) s) ∙ ap (λ (t : Table). length t.quotes) h.says

      inside : RowInside (base_in s) (row_count_in s) s
      inside = row_inside s (row_count_in s) h.meant (omega (arith, its_count))

      long : length (row_appended w s) ≡ length s
      long = length_row_appended w s

      count : count_in (row_appended w s) ≡ count_in s
      count = count_kept stored counted 5 (omega arith) ∙ same_count s (row_bytes w) at behind

      mark : get_or (row_appended w s) 4 0 ≡ get_or s 4 0
      mark = get_or-set_other stored 5 4 (row_count_in s + 1) 0 (omega arith) ∙ same_byte s (row_bytes w) at behind 4 (omega arith)

      row_count : row_count_in (row_appended w s) ≡ row_count_in s + 1
      row_count = get_or-set_same stored 5 (row_count_in s + 1) 0 (omega (arith, same_length s (row_bytes w) at behind, slots_inside (length s) 0 h.meant (omega arith)))

      orders : (table_in (row_appended w s)).orders ≡ (table_in s).orders
      orders =
          ap (λ n. orders_in 0 n (row_appended w s)) count ∙ orders_kept stored counted 5 (count_in s) (omega arith)
          ∙ orders_before (base_in s) s (row_bytes w) at (count_in s) (omega (arith, h.few)) behind

      quotes : (table_in (row_appended w s)).quotes ≡ (table_in s).quotes ++ (w ∷ [])
      quotes =
          ap₂ (λ len n. rows_in (slot_at (limit_of len)) n (row_appended w s)) long row_count
          ∙ rows_kept (base_in s) stored counted 5 (row_count_in s + 1) (omega arith)
          ∙ rows_append (base_in s) s (row_count_in s) w f inside
