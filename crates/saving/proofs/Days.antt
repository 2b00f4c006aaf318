-- A saved day is its front and its entries, and each entry is that of the order or quote row at its place.
use Prim.Native.Nat.{ℕ, zero, suc, ◌+◌, ◌-◌, ◌≤◌, ◌<◌}
use native.Mathlib.Nat.{zero-add}
use native.Mathlib.Omega.{arith}
use mathlib.Core.Path.{◌≡◌, refl, sym, ap, ap₂, subst, ◌∙◌}
use mathlib.Core.Bool.{Bool, true, false}
use mathlib.Core.List.{List, [], ◌∷◌, ◌++◌, map, append_assoc}
use lib.Dec.{eqb}
use lib.ListN.{length, get_or, length-append, get_or-append}
use lib.Seq.{get_or-append-add}
use mir.Val.{bool_byte}
use Rattle.order.specs.declared.Order.{Order}
use Rattle.quote.specs.declared.QuoteRow.{QuoteRow}
use Rattle.day.specs.Tables.{Table}
use Rattle.groups.specs.Taken.{joined}
use Rattle.groups.specs.Groups.{Puts, number_bytes}
use Rattle.groups.proofs.Lists.{joined_append}
use Rattle.saved.specs.Entries.{saved_order, saved_row}
use Rattle.saved.specs.Days.{mark_of, front_numbers, saved_day}
use Rattle.saved.proofs.Cuts.{glued}
use Rattle.slot.specs.Slots.{order_in}
use Rattle.slot.specs.Places.{slot}
use Rattle.slot.proofs.Laws.{length_orders, order_no}
use Rattle.quote_slot.specs.QuoteSlots.{row_in}
use Rattle.quote_slot.proofs.Laws.{length_rows, row_no}
use Rattle.table.specs.Changes.{row_of}
use Rattle.table.specs.Tables.{base_in, count_in, row_count_in, table_in}
use Rattle.saving.specs.Saving.{entries_of, front_of, entries_in, entry_no}

-- ---- lists

module _ {A : Type 0} (f : A → List ℕ) where
  joined_map : (xs : List A) → joined f xs ≡ glued (map f xs)
  joined_map [] = refl
  joined_map (x ∷ xs) = ap (λ (b : List ℕ). f x ++ b) (joined_map xs)

  length_map : (xs : List A) → length (map f xs) ≡ length xs
  length_map [] = refl
  length_map (x ∷ xs) = ap suc (length_map xs)

  map_no : (xs : List A) (k : ℕ) (none : A) → k < length xs → get_or (map f xs) k [] ≡ f (get_or xs k none)
  map_no [] k none h = absurd (omega arith)
  map_no (x ∷ xs) zero none h = refl
  map_no (x ∷ xs) (suc k) none h = map_no xs k none (omega arith)

-- ---- the saved day

pub day_entries : (t : Table) → saved_day t ≡ joined number_bytes (front_numbers t) ++ glued (entries_of t)
unfolding saved_day
day_entries t =
    let front = joined number_bytes (front_numbers t) in
    let orders = map saved_order t.orders in
    let rows = map saved_row t.quotes in
    ap₂ (λ (a b : List ℕ). front ++ a ++ b) (joined_map saved_order t.orders) (joined_map saved_row t.quotes)
    ∙ append_assoc front (glued orders) (glued rows)
    ∙ ap (λ (b : List ℕ). front ++ b) (sym (joined_append (λ (b : List ℕ). b) orders rows))

pub day_in : (s : List ℕ) → saved_day (table_in s) ≡ front_of s ++ glued (entries_in s)
unfolding front_of entries_in
day_in s = day_entries (table_in s)

-- ---- its entries

module _ (s : List ℕ) where
  abbrev orders : List (List ℕ)
  orders = map saved_order (table_in s).orders

  abbrev quotes : List (List ℕ)
  quotes = map saved_row (table_in s).quotes

  orders_count : length orders ≡ count_in s
  orders_count = length_map saved_order (table_in s).orders ∙ length_orders 0 (count_in s) s

  quotes_count : length quotes ≡ row_count_in s
  quotes_count = length_map saved_row (table_in s).quotes ∙ length_rows (base_in s) (row_count_in s) s

  pub entries_count : length (entries_in s) ≡ count_in s + row_count_in s
  unfolding entries_in
  entries_count = length-append orders quotes ∙ ap₂ (λ (a b : ℕ). a + b) orders_count quotes_count

  pub entry_order : (k : ℕ) → k < count_in s → entry_no s k ≡ saved_order (order_in (slot s k))
  unfolding entries_in
  entry_order k h =
      let here = order_in (slot s k) in
      get_or-append orders quotes [] k (omega (arith, orders_count))
      ∙ map_no saved_order (table_in s).orders k here (omega (arith, length_orders 0 (count_in s) s))
      ∙ ap saved_order (order_no 0 (count_in s) s k here h ∙ ap (λ (i : ℕ). order_in (slot s i)) (zero-add k))

  pub entry_row : (k : ℕ) → count_in s ≤ k → k < count_in s + row_count_in s → entry_no s k ≡ saved_row (row_in (row_of s (k - count_in s)))
  unfolding entries_in
  entry_row k h l =
      let i = k - count_in s in
      let here = row_in (row_of s i) in
      let place : k ≡ length orders + i = omega (arith, orders_count) in
      ap (λ (n : ℕ). get_or (orders ++ quotes) n []) place
      ∙ get_or-append-add orders quotes i []
      ∙ map_no saved_row (table_in s).quotes i here (omega (arith, length_rows (base_in s) (row_count_in s) s))
      ∙ ap saved_row (row_no (base_in s) (row_count_in s) s i here (omega arith))

-- the mark as a number is the bool as a number
pub mark_said : (over : Bool) → bool_byte over ≡ mark_of over
mark_said true = refl
mark_said false = refl

-- the front by the numbers that a header gives
module _ (s : List ℕ) {mark n m : ℕ} (a : mark ≡ mark_of (eqb (get_or s 4 0) 1)) (b : n ≡ count_in s) (c : m ≡ row_count_in s) where
  front_is : joined number_bytes (1 ∷ mark ∷ n ∷ m ∷ []) ≡ front_of s
  unfolding front_of
  front_is = rw (a, b, c, length_orders 0 (count_in s) s, length_rows (base_in s) (row_count_in s) s)

  pub front_there : {room : ℕ} → length (front_of s) ≤ room → 0 + length (joined number_bytes (1 ∷ mark ∷ n ∷ m ∷ [])) ≤ room
  front_there h = omega (arith, ap length front_is)

  pub front_put : {before after : List ℕ} {r : ℕ} → Puts (joined number_bytes (1 ∷ mark ∷ n ∷ m ∷ [])) 0 before r after → Puts (front_of s) 0 before r after
  front_put {before} {after} {r} p = subst (λ (text : List ℕ). Puts text 0 before r after) front_is p

-- ---- an entry is put as that of the order or quote row at its place

module _ (s : List ℕ) {k n : ℕ} (q : n ≡ count_in s) {before after : List ℕ} {r : ℕ} where
  pub order_put : k < n → {o : Order} → o ≡ order_in (slot s k) → Puts (saved_order o) 0 before r after → Puts (entry_no s k) 0 before r after
  order_put h e p =
      subst (λ (text : List ℕ). Puts text 0 before r after) (ap saved_order e ∙ sym (entry_order s k (omega arith))) p

  pub row_put : n ≤ k → k < count_in s + row_count_in s → {w : QuoteRow} → w ≡ row_in (row_of s (k - n)) → Puts (saved_row w) 0 before r after
      → Puts (entry_no s k) 0 before r after
  row_put h l e p =
      let row = ap saved_row e ∙ ap (λ (i : ℕ). saved_row (row_in (row_of s (k - i)))) q in
      subst (λ (text : List ℕ). Puts text 0 before r after) (row ∙ sym (entry_row s k (omega arith) l)) p
