-- 02, 2: "Write the table, quote rows included, to bytes and read it back": the saved day, form 1.
use Rattle.std.specs.Prelude.{ℕ, ◌+◌, Bool, true, false, cond, ◌&&◌, List, [], ◌∷◌, ◌++◌, leb, eqb, length, get_or, drop}
use Rattle.refusal.specs.Answer.{Answer, value, refused}
use Rattle.quote.specs.Quotes.{most_rows}
use Rattle.day.specs.Damage.{undamaged}
use Rattle.day.specs.Tables.{Table}
use Rattle.groups.specs.Taken.{Taken, none, taken, behind, list_in, joined}
use Rattle.groups.specs.Groups.{number_bytes, number_in}
use Rattle.saved.specs.Entries.{saved_order, saved_order_in, saved_row, saved_row_in}

-- ---- writing

abbrev pub mark_of : Bool → ℕ
mark_of true = 1
mark_of false = 0

-- "First the form number 1, the day-over mark, the counts"
abbrev pub front_numbers : Table → List ℕ
front_numbers t = 1 ∷ mark_of t.over ∷ length t.orders ∷ length t.quotes ∷ []

-- "then each order .., then the quote rows"
unfoldable pub saved_day : Table → List ℕ
saved_day t = joined number_bytes (front_numbers t) ++ joined saved_order t.orders ++ joined saved_row t.quotes

-- ---- reading

-- a front that a day of a limit can have
abbrev pub front_lawful : ℕ → List ℕ → Bool
front_lawful limit vs =
    eqb (get_or vs 0 0) 1 && leb (get_or vs 1 0) 1 && leb (get_or vs 2 0) limit && leb (get_or vs 3 0) most_rows

-- orders and rows behind the front
abbrev pub table_from : List ℕ → List ℕ → Taken Table
table_from vs s =
    behind (list_in saved_order_in (get_or vs 2 0) s) (λ os u.
    behind (list_in saved_row_in (get_or vs 3 0) (drop u s)) (λ ws v.
    taken (record { orders = os; quotes = ws; over = eqb (get_or vs 1 0) 1 }) (u + v)))

-- "14, the bytes are no saved day or describe a damaged table": nothing stands behind the last row
abbrev pub day_of : ℕ → ℕ → Taken Table → Answer Table
day_of limit n none = refused 14 0
day_of limit n (taken t w) = cond (eqb w n && undamaged limit t) (value t) (refused 14 0)

abbrev pub behind_front : ℕ → List ℕ → Taken (List ℕ) → Answer Table
behind_front limit s none = refused 14 0
behind_front limit s (taken vs u) =
    cond (front_lawful limit vs) (day_of limit (length (drop u s)) (table_from vs (drop u s))) (refused 14 0)

-- the day that bytes say
unfoldable pub day_in : ℕ → List ℕ → Answer Table
day_in limit s = behind_front limit s (list_in number_in 4 s)
