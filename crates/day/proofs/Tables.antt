-- Two tables that keep the same are one.
use mathlib.Core.Path.{◌≡◌}
use Rattle.day.specs.Tables.{Table}

pub table_eq : {t u : Table} → t.orders ≡ u.orders → t.quotes ≡ u.quotes → t.over ≡ u.over → t ≡ u
table_eq os quotes over = λ i. record { orders = os i; quotes = quotes i; over = over i }
