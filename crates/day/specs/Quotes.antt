-- 02, 1: the quote rows of the day as its accepted lines declare them. An order's own lines are `about` it (specs/History.antt): a line that belongs to a
-- row names no order, then or later.
use Rattle.std.specs.Prelude.{ℕ, Bool, false, cond, not, ◌&&◌, ◌||◌, List, [], ◌∷◌, ◌++◌, map}
use Rattle.layout.specs.Line.{end_of_day, line}
use Rattle.layout.specs.declared.Event.{Event}
use Rattle.layout.specs.declared.Record.{Record}
use Rattle.order.specs.Names.{key_of}
use Rattle.quote.specs.Quotes.{names_quote, quote_of, same_quote}
use Rattle.quote.specs.declared.Quote.{Quote}
use Rattle.quote.specs.declared.QuoteRow.{QuoteRow}
use Rattle.day.specs.History.{History, is_execution, is_break, known, add_if}

-- E and C
abbrev pub is_fill : Event → Bool
is_fill e = is_execution e || is_break e

-- "An E or C whose key is in no order and whose token is exactly that belongs to a quote row": h was accepted before it
abbrev pub belongs : History → Record → Bool
belongs h r = is_fill r.event && not (known (key_of r) h) && names_quote r.token

-- its row is that of q
abbrev pub of_quote : Quote → History → Record → Bool
of_quote q h r = belongs h r && same_quote (quote_of r) q

abbrev pub fills : (Event → Bool) → Quote → History → Record → Bool
fills kind q h r = kind r.event && of_quote q h r

-- "sums from its own accepted lines"
abbrev pub filled_of : (Event → Bool) → Quote → History → ℕ
filled_of kind q [] = 0
filled_of kind q (end_of_day ∷ h) = filled_of kind q h
filled_of kind q (line r ∷ h) = add_if (fills kind q h r) r.contracts (filled_of kind q h)

-- "the first E makes it": an E of it was accepted
abbrev pub has_row : Quote → History → Bool
has_row q [] = false
has_row q (end_of_day ∷ h) = has_row q h
has_row q (line r ∷ h) = fills is_execution q h r || has_row q h

-- the first E of its row
abbrev pub makes_row : History → Record → Bool
makes_row h r = is_execution r.event && belongs h r && not (has_row (quote_of r) h)

-- "by first E"
abbrev pub quotes_of : History → List Quote
quotes_of [] = []
quotes_of (end_of_day ∷ h) = quotes_of h
quotes_of (line r ∷ h) = cond (makes_row h r) (quotes_of h ++ (quote_of r ∷ [])) (quotes_of h)

abbrev pub quote_row_of : History → Quote → QuoteRow
quote_row_of h q = record { quote = q; executed = filled_of is_execution q h; broken = filled_of is_break q h }

abbrev pub quote_rows_of : History → List QuoteRow
quote_rows_of h = map (quote_row_of h) (quotes_of h)
