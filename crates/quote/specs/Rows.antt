-- 02, 1: the rows of a table in order of their first E, and the row of a quote among them.
use Rattle.std.specs.Prelude.{ℕ, Bool, true, cond, ◌&&◌, List, [], ◌∷◌, eqb}
use Rattle.run.specs.Found.{one_more}
use Rattle.quote.specs.Quotes.{same_quote, sound_row}
use Rattle.quote.specs.declared.Quote.{Quote}
use Rattle.quote.specs.declared.QuoteRow.{QuoteRow}

-- one more than the place of a quote's row, or 0
abbrev pub row_place : Quote → List QuoteRow → ℕ
row_place q [] = 0
row_place q (w ∷ ws) = cond (same_quote w.quote q) 1 (one_more (row_place q ws))

-- "two alike in those four": none are
abbrev pub unlike : List QuoteRow → Bool
unlike [] = true
unlike (w ∷ ws) = eqb (row_place w.quote ws) 0 && unlike ws

abbrev pub all_rows_sound : List QuoteRow → Bool
all_rows_sound [] = true
all_rows_sound (w ∷ ws) = sound_row w && all_rows_sound ws
