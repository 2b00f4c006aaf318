-- What one pass over the quote rows in use keeps, and what the damage check says of all of them.
use Prim.Native.Nat.{ℕ, suc, ◌+◌, ◌-◌, ◌≤◌, ◌<◌}
use native.Mathlib.Nat.{sub-zero}
use native.Mathlib.Omega.{arith}
use mathlib.Core.Path.{◌≡◌, sym, ap, ap₂, ◌∙◌}
use mathlib.Core.Bool.{Bool, true, false, ◌&&◌}
use mathlib.Core.List.{List}
use borrow.Author.Tests.{le-leb, lt-leb}
use lib.ListN.{length}
use Rattle.quote.specs.Quotes.{most_rows, sound_row}
use Rattle.quote.specs.Rows.{unlike, all_rows_sound}
use Rattle.quote.specs.declared.QuoteRow.{QuoteRow}
use Rattle.section.specs.Sections.{record_of, records_in}
use Rattle.slot.specs.Places.{slot_at}
use Rattle.quote_slot.specs.QuoteSlots.{rows, row_in, rows_in}
use Rattle.quote_slot.proofs.Laws.{length_rows}
use Rattle.table.specs.Tables.{limit_of, row_count_in, base_in, rows_sound}

-- those from row i on decide for all of n
pub record RowsPassed (base n : ℕ) (s : List ℕ) (i : ℕ) : Type 0 where
  pub rest : all_rows_sound (rows_in base n s) ≡ all_rows_sound (records_in row_in (rows base) s i (n - i))

module _ {base n : ℕ} {s : List ℕ} where
  pub none_passed : RowsPassed base n s 0
  none_passed = record { rest = rw sub-zero }

  module _ {i : ℕ} (p : RowsPassed base n s i) where
    pub all_passed : n ≤ i → true ≡ all_rows_sound (rows_in base n s)
    all_passed h = let z : n - i ≡ 0 = omega arith in sym (p.rest ∙ rw z)

    module _ (h : i < n) {w : QuoteRow} (e : w ≡ row_in (record_of (rows base) s i)) where
      one_more : all_rows_sound (rows_in base n s) ≡ (sound_row w && all_rows_sound (records_in row_in (rows base) s (i + 1) (n - (i + 1))))
      one_more =
          let z : n - i ≡ suc (n - (i + 1)) = omega arith in
          p.rest ∙ rw z (ap (λ (v : QuoteRow). sound_row v && all_rows_sound (records_in row_in (rows base) s (i + 1) (n - (i + 1)))) (sym e))

      pub row_stops : sound_row w ≡ false → false ≡ all_rows_sound (rows_in base n s)
      row_stops f = sym (one_more ∙ rw f)

      pub row_passed : sound_row w ≡ true → RowsPassed base n s (i + 1)
      row_passed t = record { rest = one_more ∙ rw t }

-- ---- all rows of a table

module _ (s : List ℕ) where
  count : length (rows_in (base_in s) (row_count_in s) s) ≡ row_count_in s
  count = length_rows (base_in s) (row_count_in s) s

  pub too_many_rows : most_rows < row_count_in s → false ≡ rows_sound s
  too_many_rows h = sym (rw (count, lt-leb (row_count_in s) most_rows h))

  pub rows_judged : row_count_in s ≤ most_rows → (base n : ℕ) → base ≡ slot_at (limit_of (length s)) → n ≡ row_count_in s
      → (a b : Bool) → a ≡ unlike (rows_in base n s) → b ≡ all_rows_sound (rows_in base n s) → (a && b) ≡ rows_sound s
  rows_judged h base n p q a b e f =
      ap₂ ◌&&◌ e f
      ∙ ap₂ (λ x y. unlike (rows_in x y s) && all_rows_sound (rows_in x y s)) p q
      ∙ rw (count, le-leb (row_count_in s) most_rows h)
