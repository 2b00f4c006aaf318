-- 02, 2: an order and a quote row as they are saved: their line bytes, then their numbers; and read back.
use Rattle.std.specs.Prelude.{ℕ, ◌+◌, Bool, cond, ◌&&◌, List, [], ◌∷◌, ◌++◌, get_or, drop}
use Rattle.order.specs.Stored.{sound_order}
use Rattle.order.specs.declared.Order.{Order}
use Rattle.quote.specs.Quotes.{sound_row}
use Rattle.quote.specs.declared.Quote.{Quote}
use Rattle.quote.specs.declared.QuoteRow.{QuoteRow}
use Rattle.groups.specs.Taken.{Taken, none, taken, behind, list_in, joined}
use Rattle.groups.specs.Groups.{in64, number_bytes, number_in}
use Rattle.saved.specs.Heads.{head_bytes, head_in}

-- ---- an order

-- "key, side, series"
abbrev pub head_of : Order → Quote
head_of o = record { key = o.key; side = o.side; series = o.series }

-- "price, elder plus one or 0, five figures (size is their sum of four and isn't stored)"
abbrev pub order_numbers : Order → List ℕ
order_numbers o =
    o.price
    ∷ o.elder
    ∷ o.figures.executed
    ∷ o.figures.broken
    ∷ o.figures.cancelled
    ∷ o.figures.passed
    ∷ o.figures.«open»
    ∷ []

abbrev pub saved_order : Order → List ℕ
saved_order o = head_bytes 20 (head_of o) ++ joined number_bytes (order_numbers o)

abbrev pub order_from : Quote → List ℕ → Order
order_from q vs =
    record {
      key = q.key;
      side = q.side;
      series = q.series;
      price = get_or vs 0 0;
      elder = get_or vs 1 0;
      figures =
          record {
            size = get_or vs 2 0 + get_or vs 4 0 + get_or vs 5 0 + get_or vs 6 0;
            executed = get_or vs 2 0;
            broken = get_or vs 3 0;
            cancelled = get_or vs 4 0;
            passed = get_or vs 5 0;
            «open» = get_or vs 6 0;
          };
    }

-- ---- a quote row: "likewise"

abbrev pub row_numbers : QuoteRow → List ℕ
row_numbers w = w.executed ∷ w.broken ∷ []

abbrev pub saved_row : QuoteRow → List ℕ
saved_row w = head_bytes 16 w.quote ++ joined number_bytes (row_numbers w)

abbrev pub row_from : Quote → List ℕ → QuoteRow
row_from q vs = record { quote = q; executed = get_or vs 0 0; broken = get_or vs 1 0 }

-- ---- reading either

-- a head with w characters of the token, then n numbers
abbrev pub entry_in : {A : Type 0} → (Quote → List ℕ → A) → (w n : ℕ) → List ℕ → Taken A
entry_in make w n s =
    behind (head_in w s) (λ q u. behind (list_in number_in n (drop u s)) (λ vs v. taken (make q vs) (u + v)))

-- "or describe a damaged table": one that is damaged by itself is none
abbrev pub if_sound : {A : Type 0} → (A → Bool) → Taken A → Taken A
if_sound sound none = none
if_sound sound (taken a w) = cond (sound a) (taken a w) none

abbrev pub saved_order_in : List ℕ → Taken Order
saved_order_in s = if_sound sound_order (entry_in order_from 20 7 s)

abbrev pub saved_row_in : List ℕ → Taken QuoteRow
saved_row_in s = if_sound sound_row (entry_in row_from 16 2 s)

-- the orders that can be saved: what an elder may be is asked of all orders together
abbrev pub savable : Order → Bool
savable o = sound_order o && in64 o.elder
