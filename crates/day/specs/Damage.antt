-- 01, Damaged, as far as it speaks of the orders of a table together; 02, 1: and of its quote rows.
use Rattle.std.specs.Prelude.{ℕ, zero, suc, ◌+◌, ◌-◌, Bool, true, not, ◌&&◌, ◌||◌, List, [], ◌∷◌, map, leb, eqb, length}
use Rattle.run.specs.Runs.{member}
use Rattle.order.specs.Stored.{sound_order}
use Rattle.order.specs.declared.Order.{Order}
use Rattle.quote.specs.Quotes.{most_rows}
use Rattle.quote.specs.Rows.{unlike, all_rows_sound}
use Rattle.quote.specs.declared.QuoteRow.{QuoteRow}
use Rattle.day.specs.Tables.{Table}

abbrev pub all_sound : List Order → Bool
all_sound [] = true
all_sound (o ∷ os) = sound_order o && all_sound os

abbrev pub elders_of : List Order → List ℕ
elders_of os = map (λ (o : Order). o.elder) os

-- an elder is an earlier order: those before place i are numbered 1 to i
abbrev pub earlier : ℕ → List ℕ → Bool
earlier i [] = true
earlier i (e ∷ es) = leb e i && earlier (i + 1) es

-- no two orders have one elder
abbrev pub unshared : List ℕ → Bool
unshared [] = true
unshared (e ∷ es) = (eqb e 0 || not (member e es)) && unshared es

abbrev pub open_at : List Order → ℕ → ℕ
open_at [] i = 0
open_at (o ∷ os) zero = o.figures.«open»
open_at (o ∷ os) (suc i) = open_at os i

-- an elder has nothing open
abbrev pub closed : List Order → List ℕ → Bool
closed os [] = true
closed os (e ∷ es) = (eqb e 0 || eqb (open_at os (e - 1)) 0) && closed os es

abbrev pub orders_undamaged : ℕ → List Order → Bool
orders_undamaged limit os =
    leb (length os) limit && earlier 0 (elders_of os) && unshared (elders_of os) && closed os (elders_of os) && all_sound os

-- "Damaged also means over 128 rows, two alike in those four, one of the four breaking its rule, executed outside 1 to 4,294,967,295, or broken above executed"
abbrev pub quotes_undamaged : List QuoteRow → Bool
quotes_undamaged ws = leb (length ws) most_rows && unlike ws && all_rows_sound ws

abbrev pub undamaged : ℕ → Table → Bool
undamaged limit t = orders_undamaged limit t.orders && quotes_undamaged t.quotes
