-- 01, The sheet, and 02, 1: the heading, a row, and the line of a quote row, as the bytes of a text.
use Rattle.std.specs.Prelude.{ℕ, zero, suc, ◌+◌, ◌*◌, ◌/◌, ◌%◌, cond, List, [], ◌∷◌, ◌++◌, ltb, eqb, length, take}
use Rattle.order.specs.declared.Figures.{Figures}
use Rattle.order.specs.declared.Order.{Order}
use Rattle.quote.specs.declared.QuoteRow.{QuoteRow}
use Rattle.day.specs.Listing.{Row}

-- at most w digits of a number
abbrev pub decimal_in : ℕ → ℕ → List ℕ
decimal_in zero n = []
decimal_in (suc w) n = cond (ltb n 10) ((48 + n) ∷ []) (decimal_in w (n / 10) ++ ((48 + n % 10) ∷ []))

-- "Numbers have no fill." Twenty digits hold every number of 64 bits
abbrev pub decimal : ℕ → List ℕ
decimal n = decimal_in 20 n

-- a byte in front of what is left of a run; a space in front of nothing is padding
abbrev pub before : ℕ → List ℕ → List ℕ
before b [] = cond (eqb b 32) [] (b ∷ [])
before b (c ∷ s) = b ∷ c ∷ s

-- "the token without its padding": without the spaces on its right
abbrev pub trimmed : List ℕ → List ℕ
trimmed [] = []
trimmed (b ∷ s) = before b (trimmed s)

-- "orders "
abbrev pub orders_word : List ℕ
orders_word = 111 ∷ 114 ∷ 100 ∷ 101 ∷ 114 ∷ 115 ∷ 32 ∷ []

-- " families "
abbrev pub families_word : List ℕ
families_word = 32 ∷ 102 ∷ 97 ∷ 109 ∷ 105 ∷ 108 ∷ 105 ∷ 101 ∷ 115 ∷ 32 ∷ []

-- "First comes `orders N families F`"
abbrev pub heading : ℕ → ℕ → List ℕ
heading n f = orders_word ++ decimal n ++ families_word ++ decimal f ++ (10 ∷ [])

-- "family and place in it joined by a dot"
abbrev pub rank_text : ℕ → ℕ → List ℕ
rank_text family rank = decimal family ++ (46 ∷ decimal rank)

-- "one space between"
abbrev pub column : List ℕ → List ℕ
column s = 32 ∷ s

-- "size, executed, broken"
abbrev pub traded_text : Figures → List ℕ
traded_text f = column (decimal f.size) ++ column (decimal f.executed) ++ column (decimal f.broken)

-- "cancelled, passed on, open"
abbrev pub figures_text : Figures → List ℕ
figures_text f =
    traded_text f ++ column (decimal f.cancelled) ++ column (decimal f.passed) ++ column (decimal f.«open»)

-- "the six Source bytes, the token without its padding; .. LF at the end"
abbrev pub names_text : (source token : List ℕ) → List ℕ
names_text source token = column source ++ column (trimmed token) ++ (10 ∷ [])

-- "Each row: family and place in it joined by a dot, size, executed, broken, cancelled, passed on, open, the six Source bytes, the token"
abbrev pub row_text : Row → List ℕ
row_text q =
    rank_text q.member.family q.member.rank ++ figures_text q.figures ++ names_text q.key.source q.key.token

-- the row of an order
abbrev pub order_text : ℕ → ℕ → Order → List ℕ
order_text family rank o =
    row_text (record { member = record { family = family; rank = rank; at = 0 }; figures = o.figures; key = o.key })

-- the longest heading, and the longest row, where numbers of orders, families and places go up to a limit
abbrev pub longest_heading : ℕ → ℕ
longest_heading limit = 18 + 2 * length (decimal limit)

abbrev pub longest_row : ℕ → ℕ
longest_row limit = 72 + 2 * length (decimal limit)

-- ---- 02, 1: the line of a quote row

-- "quote "
abbrev pub quote_word : List ℕ
quote_word = 113 ∷ 117 ∷ 111 ∷ 116 ∷ 101 ∷ 32 ∷ []

-- "`quote`, the id in its 16 characters, executed, broken"
abbrev pub fills_text : (id : List ℕ) (executed broken : ℕ) → List ℕ
fills_text id executed broken = quote_word ++ id ++ column (decimal executed) ++ column (decimal broken)

-- and "Source", with LF at the end as a row of the families has it
abbrev pub line_text : (id : List ℕ) (executed broken : ℕ) (source : List ℕ) → List ℕ
line_text id executed broken source = fills_text id executed broken ++ column source ++ (10 ∷ [])

-- printed "as `quote`, the id in its 16 characters, executed, broken, Source"
abbrev pub quote_text : QuoteRow → List ℕ
quote_text w = line_text (take 16 w.quote.key.token) w.executed w.broken w.quote.key.source

-- the longest line, where executed, and so broken, is at most 4,294,967,295
abbrev pub longest_quote : ℕ
longest_quote = 52
