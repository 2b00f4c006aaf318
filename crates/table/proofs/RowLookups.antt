-- What the place that a lookup answers says of the quote rows: which one is seen, and which one a change by quote changes.
use Prim.Native.Nat.{ℕ, ◌+◌, ◌<◌}
use mathlib.Core.Path.{◌≡◌}
use mathlib.Core.List.{List}
use lib.ListN.{length, get_or, set}
use Rattle.quote.specs.Rows.{row_place}
use Rattle.quote.specs.declared.Quote.{Quote}
use Rattle.quote.specs.declared.QuoteRow.{QuoteRow}
use Rattle.day.specs.Machine.{none, seen, find_row, amend_row}
use Rattle.day.proofs.Firsts.{amend_first, find_first, find_none}
use Rattle.day.proofs.Quotes.{quote_finds, quote_places, quote_amends}

pub at_seen : (q : Quote) (ws : List QuoteRow) (i : ℕ) (w : QuoteRow) → row_place q ws ≡ i + 1
    → (i < length ws) × (find_row q ws ≡ seen (get_or ws i w))
at_seen q ws i w e = find_first (quote_places q) (quote_finds q) ws i w e

pub amend_row_at : (q : Quote) (f : QuoteRow → QuoteRow) (ws : List QuoteRow) (i : ℕ) (w : QuoteRow) → row_place q ws ≡ i + 1
    → amend_row q f ws ≡ set ws i (f (get_or ws i w))
amend_row_at q f ws i w e = amend_first (quote_places q) (quote_amends q f) ws i w e

pub none_seen : (q : Quote) (ws : List QuoteRow) → row_place q ws ≡ 0 → find_row q ws ≡ none
none_seen q ws e = find_none (quote_places q) (quote_finds q) ws e
