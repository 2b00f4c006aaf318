-- The day as its accepted lines declare it: 01, Orders and their figures. A history is the list of accepted lines, the latest first, so that
-- what was accepted before a line is the rest of the list.
use Rattle.std.specs.Prelude.{ℕ, ◌+◌, ◌-◌, Bool, true, false, cond, not, ◌&&◌, ◌||◌, List, [], ◌∷◌, ◌++◌, map, eqb}
use Rattle.run.specs.Found.{one_more}
use Rattle.layout.specs.Line.{Said, end_of_day, line}
use Rattle.layout.specs.Records.{type_of}
use Rattle.layout.specs.declared.Event.{Event}
use Rattle.layout.specs.declared.Record.{Record}
use Rattle.order.specs.Names.{key_of, elder_key_of, series_of, same_key}
use Rattle.order.specs.declared.Figures.{Figures}
use Rattle.order.specs.declared.Key.{Key}
use Rattle.order.specs.declared.Order.{Order}

abbrev pub History : Type 0
History = List Said

-- ---- the six events, by the letter of their line

-- A
abbrev pub is_new : Event → Bool
is_new e = eqb (type_of e) 65

-- E
abbrev pub is_execution : Event → Bool
is_execution e = eqb (type_of e) 69

-- X
abbrev pub is_cancel : Event → Bool
is_cancel e = eqb (type_of e) 88

-- C
abbrev pub is_break : Event → Bool
is_break e = eqb (type_of e) 67

-- U
abbrev pub is_replace : Event → Bool
is_replace e = eqb (type_of e) 85

-- R
abbrev pub is_reprice : Event → Bool
is_reprice e = eqb (type_of e) 82

-- A and U make an order
abbrev pub is_maker : Event → Bool
is_maker e = is_new e || is_replace e

-- ---- which lines say something of the order with a key

-- the line that makes it
abbrev pub made_by : Key → Record → Bool
made_by k r = is_maker r.event && same_key (key_of r) k

-- an accepted line made an order with this key
abbrev pub known : Key → History → Bool
known k [] = false
known k (end_of_day ∷ h) = known k h
known k (line r ∷ h) = made_by k r || known k h

-- E, C, X and R that name it, where h was accepted before: an order that the line could find
abbrev pub about : Key → History → Record → Bool
about k h r = not (is_maker r.event) && same_key (key_of r) k && known k h

-- the U that replaces it
abbrev pub replaces : Key → Record → Bool
replaces k r = is_replace r.event && same_key (elder_key_of r) k

-- ---- the figures of the order with a key

abbrev pub add_if : Bool → ℕ → ℕ → ℕ
add_if true n s = s + n
add_if false n s = s

-- the contracts of all lines of one kind about it
abbrev pub sum_of : (Event → Bool) → Key → History → ℕ
sum_of kind k [] = 0
sum_of kind k (end_of_day ∷ h) = sum_of kind k h
sum_of kind k (line r ∷ h) = add_if (kind r.event && about k h r) r.contracts (sum_of kind k h)

-- E: n goes to executed
abbrev pub executed_of : Key → History → ℕ
executed_of k h = sum_of is_execution k h

-- C: n is added to broken
abbrev pub broken_of : Key → History → ℕ
broken_of k h = sum_of is_break k h

-- X: n goes to cancelled
abbrev pub cancelled_of : Key → History → ℕ
cancelled_of k h = sum_of is_cancel k h

-- A and U: the size that a line grants, after the lines accepted before it
abbrev pub grants : History → Record → ℕ
grants h r = r.contracts

-- the size of an order: what the line that made it granted. It is the latest with the key, and refusal 7 leaves no other
abbrev pub size_of : Key → History → ℕ
size_of k [] = 0
size_of k (end_of_day ∷ h) = size_of k h
size_of k (line r ∷ h) = cond (made_by k r) (grants h r) (size_of k h)

-- what is left of a size
abbrev pub left : ℕ → ℕ → ℕ → ℕ → ℕ
left size executed cancelled passed = size - executed - cancelled - passed

-- U: all its open goes to passed on
abbrev pub passed_of : Key → History → ℕ
passed_of k [] = 0
passed_of k (end_of_day ∷ h) = passed_of k h
passed_of k (line r ∷ h) =
    add_if (replaces k r) (left (size_of k h) (executed_of k h) (cancelled_of k h) (passed_of k h)) (passed_of k h)

abbrev pub open_of : Key → History → ℕ
open_of k h = left (size_of k h) (executed_of k h) (cancelled_of k h) (passed_of k h)

abbrev pub figures_of : Key → History → Figures
figures_of k h =
    record {
      size = size_of k h;
      executed = executed_of k h;
      broken = broken_of k h;
      cancelled = cancelled_of k h;
      passed = passed_of k h;
      «open» = open_of k h;
    }

-- A and U set the price, R changes it: the latest holds
abbrev pub price_of : Key → History → ℕ
price_of k [] = 0
price_of k (end_of_day ∷ h) = price_of k h
price_of k (line r ∷ h) = cond (made_by k r || is_reprice r.event && about k h r) r.price (price_of k h)

-- ---- the orders of the day

-- the lines that make an order, in order of acceptance
abbrev pub lines_that_make : History → List Record
lines_that_make [] = []
lines_that_make (end_of_day ∷ h) = lines_that_make h
lines_that_make (line r ∷ h) = cond (is_maker r.event) (lines_that_make h ++ (r ∷ [])) (lines_that_make h)

-- one more than the place of the earliest order with a key, or 0
abbrev pub place_of : Key → List Record → ℕ
place_of k [] = 0
place_of k (r ∷ rs) = cond (same_key (key_of r) k) 1 (one_more (place_of k rs))

-- U: the elder is the order with the same Source and the Replaced Token; one more than its place, or 0
abbrev pub elder_of : Record → List Record → ℕ
elder_of r rs = cond (is_replace r.event) (place_of (elder_key_of r) rs) 0

abbrev pub order_of : History → Record → Order
order_of h r =
    record {
      key = key_of r;
      side = r.side;
      series = series_of r;
      price = price_of (key_of r) h;
      elder = elder_of r (lines_that_make h);
      figures = figures_of (key_of r) h;
    }

abbrev pub orders_of : History → List Order
orders_of h = map (order_of h) (lines_that_make h)

-- the line that made it: the latest that makes an order with this key (refusal 7 leaves no second one), or `none` where no line does
abbrev pub line_that_made : Key → History → Record → Record
line_that_made k [] none = none
line_that_made k (end_of_day ∷ h) none = line_that_made k h none
line_that_made k (line r ∷ h) none = cond (made_by k r) r (line_that_made k h none)

-- end of day was booked
abbrev pub is_over : History → Bool
is_over [] = false
is_over (end_of_day ∷ h) = true
is_over (line r ∷ h) = is_over h

-- how many accepted lines are of a kind
abbrev pub count_of : (Event → Bool) → History → ℕ
count_of kind [] = 0
count_of kind (end_of_day ∷ h) = count_of kind h
count_of kind (line r ∷ h) = add_if (kind r.event) 1 (count_of kind h)
