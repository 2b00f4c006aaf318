-- The line of a quote row in the table, from the parts of the table that are lent and the sums that are read for it.
use Prim.Native.Nat.{ℕ, ◌+◌, ◌-◌, ◌≤◌}
use native.Mathlib.Nat.{add-zero}
use native.Mathlib.Omega.{arith}
use mathlib.Core.Path.{◌≡◌, sym, ap, subst, ◌∙◌}
use mathlib.Core.List.{List}
use lib.ListN.{length, take, drop}
use lib.Seq.{take-take}
use Rattle.run.specs.Runs.{part}
use Rattle.quote.specs.declared.QuoteRow.{QuoteRow}
use Rattle.cell.specs.Cells.{le}
use Rattle.section.specs.Sections.{record_of}
use Rattle.quote_slot.specs.QuoteSlots.{row_width, rows, row_at, row_in, RowInside}
use Rattle.row.specs.Texts.{decimal, line_text, quote_text}
use Rattle.row.specs.Writes.{Wrote}
use Rattle.run.proofs.Parts.{length_part, part_part}
use Rattle.row.proofs.Puts.{fills_length, line_length}

module _ (t : List ℕ) (base i : ℕ) where
  -- the row, and as they are lent the 16 bytes of its id and the 6 of its Source
  abbrev pub row_there : QuoteRow
  row_there = row_in (record_of (rows base) t i)

  abbrev pub lent_id : List ℕ
  lent_id = take (row_at base i + 6 + 16 - (row_at base i + 6)) (drop (row_at base i + 6) t)

  abbrev pub lent_source : List ℕ
  lent_source = take (row_at base i + 6 - row_at base i) (drop (row_at base i) t)

  id_part : lent_id ≡ part t (row_at base i + 6) 16
  id_part = let wide : row_at base i + 6 + 16 - (row_at base i + 6) ≡ 16 = omega arith in rw wide

  source_part : lent_source ≡ part t (row_at base i) 6
  source_part = let wide : row_at base i + 6 - row_at base i ≡ 6 = omega arith in rw wide

  -- a part of the row, where it stands in the table
  there : (at n : ℕ) → at + n ≤ row_width → part t (row_at base i + at) n ≡ part (record_of (rows base) t i) at n
  there at n h = sym (part_part t (row_at base i) row_width at n h)

  id_lent : lent_id ≡ take 16 row_there.quote.key.token
  id_lent = id_part ∙ there 6 16 (omega arith) ∙ sym (take-take 16 20 (drop 6 (record_of (rows base) t i)) (omega arith))

  source_lent : lent_source ≡ row_there.quote.key.source
  source_lent = source_part ∙ rw (add-zero (row_at base i)) at (there 0 6 (omega arith))

  module _ (executed broken : ℕ) (e : executed ≡ le (part t (row_at base i + 41) 4)) (b : broken ≡ le (part t (row_at base i + 45) 4)) where
    executed_there : executed ≡ row_there.executed
    executed_there = e ∙ ap le (there 41 4 (omega arith))

    broken_there : broken ≡ row_there.broken
    broken_there = b ∙ ap le (there 45 4 (omega arith))

    line_lent : line_text lent_id executed broken lent_source ≡ quote_text row_there
    line_lent = λ j. line_text (id_lent j) (executed_there j) (broken_there j) (source_lent j)

    pub line_room : (n : ℕ) → length (quote_text row_there) ≤ n → length (line_text lent_id executed broken lent_source) ≤ n
    line_room n h = omega (arith, ap length line_lent)

    pub line_wrote : (l₀ l₁ : List ℕ) (r : ℕ) → Wrote (line_text lent_id executed broken lent_source) l₀ l₁ r → Wrote (quote_text row_there) l₀ l₁ r
    line_wrote l₀ l₁ r w = subst (λ s. Wrote s l₀ l₁ r) line_lent w

    pub line_long : RowInside base i t → 32 + length (decimal executed) + length (decimal broken) ≡ length (quote_text row_there)
    line_long h =
        let id : length lent_id ≡ 16 = ap length id_part ∙ length_part t (row_at base i + 6) 16 (omega arith) in
        let source : length lent_source ≡ 6 = ap length source_part ∙ length_part t (row_at base i) 6 (omega arith) in
        omega (arith, ap length line_lent, line_length lent_id executed broken lent_source, fills_length lent_id executed broken)
