-- How wide a quote and a row are; the stores of a row, one right behind the other, are one store.
use Prim.Native.Nat.{ℕ, ◌+◌}
use native.Mathlib.Omega.{arith}
use mathlib.Core.Path.{◌≡◌, refl}
use mathlib.Core.List.{List}
use lib.ListN.{length, length-append}
use lib.Seq.{sets}
use Rattle.quote.specs.declared.Quote.{Quote}
use Rattle.quote.specs.declared.QuoteRow.{QuoteRow}
use Rattle.cell.specs.Cells.{le_bytes}
use Rattle.slot.proofs.Runs.{Stored, number, then}
use Rattle.quote_slot.specs.QuoteSlots.{row_width, quote_width, quote_bytes, row_bytes, FitsQuote, FitsRow}

quote_long : (q : Quote) → length q.key.source ≡ 6 → length q.key.token ≡ 20 → length q.series.root ≡ 6 → length (quote_bytes q) ≡ quote_width
quote_long q a b c = simp (length-append, a, b, c)

pub length_quote : {q : Quote} → FitsQuote q → length (quote_bytes q) ≡ quote_width
length_quote {q} f = quote_long q f.source.0 f.token.0 f.root.0

pub length_row : {w : QuoteRow} → FitsRow w → length (row_bytes w) ≡ row_width
length_row f = rw (length-append, length-append, length_quote f.quote)

pub row_stored : (w : QuoteRow) (at : ℕ) (l₀ : List ℕ) {l₁ l₂ l₃ : List ℕ} → length w.quote.key.source ≡ 6 → length w.quote.key.token ≡ 20
    → length w.quote.series.root ≡ 6 → l₁ ≡ sets l₀ at (quote_bytes w.quote) → l₂ ≡ sets l₁ (at + 41) (le_bytes 4 w.executed)
    → l₃ ≡ sets l₂ (at + 45) (le_bytes 4 w.broken) → l₃ ≡ sets l₀ at (row_bytes w)
row_stored w at l₀ {l₁} source token root quote executed broken =
    let first : Stored l₀ at 41 (quote_bytes w.quote) l₁ = record { wide = quote_long w.quote source token root; stored = quote } in
    (then (then first (number 4 w.executed executed) refl) (number 4 w.broken broken) (omega arith)).stored
