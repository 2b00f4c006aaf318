-- What a day keeps: orders in order of acceptance, and quote rows (02, 1) in order of their first E. And what booking a piece comes to.
use Rattle.std.specs.Prelude.{Bool, true, false, List, []}
use Rattle.refusal.specs.Answer.{Answer}
use Rattle.order.specs.declared.Order.{Order}
use Rattle.quote.specs.declared.QuoteRow.{QuoteRow}

pub record Table : Type 0 where
  pub orders : List Order
  pub quotes : List QuoteRow
  -- end of day was booked
  pub over : Bool

abbrev pub empty : Table
empty = record { orders = []; quotes = []; over = false }

-- other orders, and all else as it was
abbrev pub with_orders : List Order → Table → Table
with_orders os t = record { orders = os; quotes = t.quotes; over = t.over }

-- other quote rows, and all else as it was
abbrev pub with_quotes : List QuoteRow → Table → Table
with_quotes ws t = record { orders = t.orders; quotes = ws; over = t.over }

-- whether end of day was booked, and all else as it was
abbrev pub with_mark : Bool → Table → Table
with_mark b t = record { orders = t.orders; quotes = t.quotes; over = b }

abbrev pub with_over : Table → Table
with_over = with_mark true

pub record Booked : Type 0 where
  pub table : Table
  pub answer : Answer (Unit {0})
