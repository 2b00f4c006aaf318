-- 02, 1: a quote and the row of its fills: when a token names one, what a row holds, and when a stored row is sound.
use Rattle.std.specs.Prelude.{ℕ, ◌+◌, Bool, ◌&&◌, List, leb, eqb, take, drop}
use Rattle.message.specs.Rule.{verbatim, hex, blank, run, lawful}
use Rattle.message.specs.Values.{one}
use Rattle.layout.specs.Layout.{keeps_rule}
use Rattle.layout.specs.declared.Record.{Record}
use Rattle.order.specs.Names.{key_of, series_of, same_key, same_series}
use Rattle.order.specs.Stored.{lawful_series}
use Rattle.quote.specs.declared.Quote.{Quote}
use Rattle.quote.specs.declared.QuoteRow.{QuoteRow}

-- "Up to 128 rows"
unfoldable pub most_rows : ℕ
most_rows = 128

-- "a row's executed above 4,294,967,295"
abbrev pub most_executed : ℕ
most_executed = 4294967295

-- "the 8-byte SQF id as 16 characters 0-F, padded with spaces": a token that is exactly that
unfoldable pub names_quote : List ℕ → Bool
names_quote token = lawful (verbatim hex) 16 (run (take 16 token)) && lawful (verbatim blank) 4 (run (drop 16 token))

-- ---- "one for each Source, id, side and series"

-- the id is what the token holds
abbrev pub quote_of : Record → Quote
quote_of r = record { key = key_of r; side = r.side; series = series_of r }

abbrev pub same_quote : Quote → Quote → Bool
same_quote a b = same_key a.key b.key && eqb a.side b.side && same_series a.series b.series

-- ---- what E and C do to a row

-- "the first E makes it"
abbrev pub new_row : Quote → ℕ → QuoteRow
new_row q n = record { quote = q; executed = n; broken = 0 }

-- E
abbrev pub row_executed_by : QuoteRow → ℕ → QuoteRow
row_executed_by w n = record { quote = w.quote; executed = w.executed + n; broken = w.broken }

-- C
abbrev pub row_broken_by : QuoteRow → ℕ → QuoteRow
row_broken_by w n = record { quote = w.quote; executed = w.executed; broken = w.broken + n }

-- ---- 02, 1: "Damaged also means", of one row by itself

-- "one of the four breaking its rule"
abbrev pub lawful_quote : Quote → Bool
lawful_quote q = keeps_rule 10 (run q.key.source) && names_quote q.key.token && keeps_rule 14 (one q.side) && lawful_series q.series

-- "executed outside 1 to 4,294,967,295, or broken above executed"
abbrev pub sound_row : QuoteRow → Bool
sound_row w = lawful_quote w.quote && leb 1 w.executed && leb w.executed most_executed && leb w.broken w.executed
