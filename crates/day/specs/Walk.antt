-- How the sheet of a table is made: a younger order is always later, so one pass forward finds it. Nobody has to believe this file: demand 3 fixes
-- the listing by its description.
use Rattle.std.specs.Prelude.{ℕ, zero, suc, ◌+◌, cond, List, [], ◌∷◌, ◌++◌, eqb, length, drop}
use Rattle.order.specs.declared.Order.{Order}
use Rattle.day.specs.Damage.{elders_of}
use Rattle.day.specs.Listing.{Member, Row, Sheet}
use Rattle.day.specs.Tables.{Table}

abbrev pub member : ℕ → ℕ → ℕ → Member
member f k i = record { family = f; rank = k; at = i }

-- those below the order at i, in the list of elders from place j on
abbrev pub below : ℕ → ℕ → ℕ → ℕ → List ℕ → List Member
below f k i j [] = []
below f k i j (e ∷ es) = cond (eqb e (i + 1)) (member f (k + 1) j ∷ below f (k + 1) j (j + 1) es) (below f k i (j + 1) es)

-- a family for each order from place i on that has no elder, the first of them numbered f
abbrev pub families : ℕ → ℕ → List ℕ → List Member
families f i [] = []
families f i (zero ∷ es) = (member f 1 i ∷ below f 1 i (i + 1) es) ++ families (f + 1) (i + 1) es
families f i (suc e ∷ es) = families f (i + 1) es

-- how many have no elder
abbrev pub root_count : List ℕ → ℕ
root_count [] = 0
root_count (zero ∷ es) = root_count es + 1
root_count (suc e ∷ es) = root_count es

-- the row of a member: the order at its place
abbrev pub row_of : Member → Order → Row
row_of m o = record { member = m; figures = o.figures; key = o.key }

-- in front of other rows; a member of the listing always has an order
abbrev pub row_before : Member → List Order → List Row → List Row
row_before m [] rows = rows
row_before m (o ∷ os) rows = row_of m o ∷ rows

abbrev pub rows_for : List Order → List Member → List Row
rows_for os [] = []
rows_for os (m ∷ members) = row_before m (drop m.at os) (rows_for os members)

abbrev pub sheet_of : Table → Sheet
sheet_of t =
    record {
      orders = length t.orders;
      families = root_count (elders_of t.orders);
      rows = rows_for t.orders (families 1 0 (elders_of t.orders));
      quotes = t.quotes;
    }
