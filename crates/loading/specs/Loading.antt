-- 02, 2: the orders and the quote rows of a saved day judged all together, and what storing a table makes of a lent buffer.
use Rattle.std.specs.Prelude.{ℕ, ◌+◌, ◌≡◌, Bool, true, false, cond, Option, Some, None, List, [], ◌∷◌, eqb, length, get_or, drop, replicate}
use Rattle.std.proofs.lemmas.List.Edits.{sets}
use Rattle.refusal.specs.Answer.{Answer, value, refused}
use Rattle.order.specs.declared.Order.{Order}
use Rattle.quote.specs.declared.QuoteRow.{QuoteRow}
use Rattle.day.specs.Damage.{orders_undamaged, quotes_undamaged}
use Rattle.day.specs.Tables.{Table}
use Rattle.groups.specs.Taken.{Taken, none, taken, list_in}
use Rattle.groups.specs.Groups.{end_at, number_in}
use Rattle.saved.specs.Days.{front_lawful, day_in}
use Rattle.saved.specs.Entries.{saved_row_in}
use Rattle.quote_slot.specs.QuoteSlots.{rows_in}
use Rattle.table.specs.Changes.{appended, row_appended}
use Rattle.loading.specs.declared.Front.{Front}

-- ---- the place behind what is read there, where it is undamaged

abbrev pub end_of_orders : ℕ → ℕ → Taken (List Order) → Option ℕ
end_of_orders limit at none = None
end_of_orders limit at (taken os w) = cond (orders_undamaged limit os) (Some (at + w)) None

abbrev pub end_of_rows : ℕ → Taken (List QuoteRow) → Option ℕ
end_of_rows at none = None
end_of_rows at (taken ws w) = cond (quotes_undamaged ws) (Some (at + w)) None

-- n quote rows, stored one behind another into lent bytes, and the place behind them
pub record ReadsRows (s : List ℕ) (at n : ℕ) (before : List ℕ) (r : Option ℕ) (after : List ℕ) : Type 0 where
  pub said : r ≡ end_at at (list_in saved_row_in n (drop at s))
  pub room : length after ≡ length before
  pub rows : (ws : List QuoteRow) (w : ℕ) → list_in saved_row_in n (drop at s) ≡ taken ws w → rows_in 0 n after ≡ ws

-- ---- storing

-- each in turn
abbrev pub put_all : {A : Type 0} → (A → List ℕ → List ℕ) → List A → List ℕ → List ℕ
put_all put [] s = s
put_all put (a ∷ xs) s = put_all put xs (put a s)

abbrev pub orders_appended : List Order → List ℕ → List ℕ
orders_appended = put_all appended

abbrev pub rows_appended : List QuoteRow → List ℕ → List ℕ
rows_appended = put_all row_appended

-- the day's end
abbrev pub marked_by : Bool → List ℕ → List ℕ
marked_by true s = sets s 4 (1 ∷ [])
marked_by false s = s

-- what a buffer holds once a table is stored there: free slots and rows keep whatever they held
abbrev pub table_bytes : Table → List ℕ → List ℕ
table_bytes t before = marked_by t.over (rows_appended t.quotes (orders_appended t.orders (sets before 0 (replicate 8 0))))

-- what stands at a place, each of it put to lent bytes in turn, and the place behind it
pub record PutsAll {A : Type 0} (put : A → List ℕ → List ℕ) (at : ℕ) (t : Taken (List A)) (before : List ℕ) (r : Option ℕ) (after : List ℕ) : Type 0 where
  pub said : r ≡ end_at at t
  pub room : length after ≡ length before
  pub stored : (xs : List A) (w : ℕ) → t ≡ taken xs w → after ≡ put_all put xs before

-- ---- a whole day

-- the bytes are a day
abbrev pub is_day : Answer Table → Bool
is_day (value t) = true
is_day (refused n f) = false

-- what four numbers say that end at a place, where they are those of a day
abbrev pub front_said : List ℕ → ℕ → Option Front
front_said vs w =
    cond (front_lawful 512 vs)
    (Some (record { over = eqb (get_or vs 1 0) 1; orders = get_or vs 2 0; rows = get_or vs 3 0; next = w }))
    None

-- the numbers of a lawful front, and the place behind them
pub record LawfulFront (limit : ℕ) (s : List ℕ) (r : Front) : Type 0 where
  pub values : List ℕ
  pub there : list_in number_in 4 s ≡ taken values r.next
  pub lawful : front_lawful limit values ≡ true
  pub over : r.over ≡ eqb (get_or values 1 0) 1
  pub orders : r.orders ≡ get_or values 2 0
  pub rows : r.rows ≡ get_or values 3 0

-- the front of a day, or bytes that are none
pub record ReadsFront (limit : ℕ) (s : List ℕ) (r : Option Front) : Type 0 where
  pub some : (f : Front) → r ≡ Some f → LawfulFront limit s f
  pub none : r ≡ None → is_day (day_in limit s) ≡ false

-- the table of a day in a lent buffer
pub record StoresDay (limit : ℕ) (s before after : List ℕ) : Type 0 where
  pub stored : (t : Table) → day_in limit s ≡ value t → after ≡ table_bytes t before
