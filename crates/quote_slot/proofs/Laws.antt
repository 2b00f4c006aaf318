-- The rows are the records of a section: what a store does to them, and what one into a row does to the orders before it.
use Prim.Native.Nat.{ℕ, ◌+◌, ◌≤◌, ◌<◌}
use native.Mathlib.Nat.{zero-add}
use native.Mathlib.Omega.{arith}
use mathlib.Core.Path.{◌≡◌, ap, ◌∙◌}
use mathlib.Core.List.{List, [], ◌∷◌, ◌++◌}
use lib.ListN.{length, get_or, set}
use lib.Seq.{sets}
use Rattle.quote.specs.declared.QuoteRow.{QuoteRow}
use Rattle.section.specs.Sections.{record_of, Holds}
use Rattle.section.proofs.Stores.{kept_front, kept_past}
use Rattle.section.proofs.Lists.{length_records, record_no, records_same, records_set, records_append}
use Rattle.slot.specs.Slots.{order_in}
use Rattle.slot.specs.Places.{slots, slot_at, orders_in}
use Rattle.quote_slot.specs.QuoteSlots.{rows, row_at, row_in, row_bytes, rows_in, RowInside, FitsRow}
use Rattle.quote_slot.proofs.Runs.{length_row}
use Rattle.quote_slot.proofs.Said.{row_says}

module _ (base : ℕ) where
  rows_held : (s : List ℕ) (n : ℕ) → row_at base n ≤ length s → Holds (rows base) s n
  rows_held s n h = record { apart = omega arith; inside = λ i l. omega arith }

  pub length_rows : (n : ℕ) (s : List ℕ) → length (rows_in base n s) ≡ n
  length_rows n s = length_records row_in (rows base) s 0 n

  pub row_no : (n : ℕ) (s : List ℕ) (k : ℕ) (none : QuoteRow) → k < n → get_or (rows_in base n s) k none ≡ row_in (record_of (rows base) s k)
  row_no n s k none h = record_no row_in (rows base) s 0 n k none h ∙ ap (λ i. row_in (record_of (rows base) s i)) (zero-add k)

  -- ---- a store of a row

  pub rows_set : (s : List ℕ) (n i : ℕ) (w : QuoteRow) → FitsRow w → i < n → row_at base n ≤ length s
      → rows_in base n (sets s (row_at base i) (row_bytes w)) ≡ set (rows_in base n s) i w
  rows_set s n i w f h room =
      records_set row_in (rows base) s (row_bytes w) (length_row f) n i h (rows_held s n room) ∙ ap (set (rows_in base n s) i) (row_says w f)

  pub rows_append : (s : List ℕ) (n : ℕ) (w : QuoteRow) → FitsRow w → RowInside base n s
      → rows_in base (n + 1) (sets s (row_at base n) (row_bytes w)) ≡ rows_in base n s ++ (w ∷ [])
  rows_append s n w f h =
      records_append row_in (rows base) s (row_bytes w) (length_row f) n (rows_held s (n + 1) (omega arith))
      ∙ ap (λ x. rows_in base n s ++ (x ∷ [])) (row_says w f)

  -- ---- a store elsewhere

  -- one before the rows, into the header or an order's slot, leaves every row
  pub rows_kept : (s b : List ℕ) (at n : ℕ) → at + length b ≤ base → rows_in base n (sets s at b) ≡ rows_in base n s
  rows_kept s b at n h = records_same row_in (rows base) (sets s at b) s 0 n (λ k l m. kept_front (rows base) s b at h k)

  -- one at the rows or behind their beginning leaves every order that stands before them
  pub orders_before : (s b : List ℕ) (at n : ℕ) → slot_at n ≤ base → base ≤ at → orders_in 0 n (sets s at b) ≡ orders_in 0 n s
  orders_before s b at n h k = records_same order_in slots (sets s at b) s 0 n (λ i l m. kept_past slots s b at n (omega arith) i (omega arith))
