-- How long the front and the entries of a saved day are at most.
use Prim.Native.Nat.{ℕ, zero, suc, ◌+◌, ◌-◌, ◌≤◌, ◌<◌}
use native.Mathlib.Nat.{zero-add}
use native.Mathlib.Omega.{arith}
use mathlib.Core.Path.{◌≡◌, refl, ap}
use mathlib.Core.Bool.{Bool, true, false}
use mathlib.Core.List.{List, [], ◌∷◌}
use borrow.Author.Tests.{ltb-true, ltb-false}
use lib.Dec.{ltb}
use lib.ListN.{length, get_or, length-append}
use Rattle.run.proofs.Tests.{both}
use Rattle.order.specs.Stored.{sound_order}
use Rattle.order.specs.declared.Order.{Order}
use Rattle.quote.specs.Quotes.{sound_row}
use Rattle.quote.specs.declared.QuoteRow.{QuoteRow}
use Rattle.day.specs.Damage.{all_sound}
use Rattle.day.proofs.Undamaged.{apart, apart_rows}
use Rattle.groups.specs.Taken.{joined}
use Rattle.groups.specs.Groups.{number_bytes}
use Rattle.saved.specs.Heads.{head_bytes}
use Rattle.saved.specs.Entries.{head_of, order_numbers, row_numbers, saved_order, saved_row}
use Rattle.saved.specs.Days.{front_numbers}
use Rattle.saved.proofs.Heads.{head_long}
use Rattle.saved.proofs.Savable.{order_head, row_head}
use Rattle.entry.proofs.Stores.{numbers_upto}
use Rattle.slot.specs.Slots.{order_in}
use Rattle.slot.specs.Places.{slot}
use Rattle.slot.proofs.Laws.{length_orders, order_no}
use Rattle.quote_slot.specs.QuoteSlots.{row_in}
use Rattle.quote_slot.proofs.Laws.{length_rows, row_no}
use Rattle.table.specs.Changes.{row_of}
use Rattle.table.specs.Tables.{base_in, count_in, limit_of, row_count_in, sound, table_in}
use Rattle.table.proofs.Fitting.{row_sound}
use Rattle.table.proofs.Sound.{sound_apart}
use Rattle.saving.specs.Saving.{front_of, entry_no}
use Rattle.saving.proofs.Days.{entry_order, entry_row}

-- ---- by the width of numbers

pub front_room : (s : List ℕ) → length (front_of s) ≤ 40
unfolding front_of
front_room s = omega (arith, numbers_upto (front_numbers (table_in s)))

order_room : (o : Order) → sound_order o ≡ true → length (saved_order o) ≤ 115
order_room o e =
    omega (arith, length-append (head_bytes 20 (head_of o)) (joined number_bytes (order_numbers o)), head_long (order_head o e), numbers_upto (order_numbers o))

row_room : (w : QuoteRow) → sound_row w ≡ true → length (saved_row w) ≤ 61
row_room w e =
    omega (arith, length-append (head_bytes 16 w.quote) (joined number_bytes (row_numbers w)), head_long (row_head w e), numbers_upto (row_numbers w))

order_sound : (os : List Order) (i : ℕ) (none : Order) → all_sound os ≡ true → i < length os → sound_order (get_or os i none) ≡ true
order_sound [] i none a l = absurd (omega arith)
order_sound (o ∷ os) zero none a l = (both (sound_order o) (all_sound os) a).0
order_sound (o ∷ os) (suc i) none a l = order_sound os i none (both (sound_order o) (all_sound os) a).1 (omega arith)

-- an entry has room in the buffer
module _ (s : List ℕ) (good : sound s ≡ true) where
  order_in_lem : (k : ℕ) → k < count_in s → length (entry_no s k) ≤ 115
  order_in_lem k h =
      let here = order_in (slot s k) in
      let all = (apart (limit_of (length s)) (table_in s) (sound_apart s good).orders).sound in
      let one = order_sound (table_in s).orders k here all (omega (arith, length_orders 0 (count_in s) s)) in
      omega (arith, ap length (entry_order s k h), order_room here (rw (order_no 0 (count_in s) s k here h, zero-add) at one))

  row_in_lem : (k : ℕ) → count_in s ≤ k → k < count_in s + row_count_in s → length (entry_no s k) ≤ 115
  row_in_lem k h l =
      let i = k - count_in s in
      let here = row_in (row_of s i) in
      let all = (apart_rows (limit_of (length s)) (table_in s) (sound_apart s good).orders).sound in
      let one = row_sound (table_in s).quotes i here all (omega (arith, length_rows (base_in s) (row_count_in s) s)) in
      omega (arith, ap length (entry_row s k h l), row_room here (rw (row_no (base_in s) (row_count_in s) s i here (omega arith)) at one))

  pub entry_room : (k : ℕ) → k < count_in s + row_count_in s → length (entry_no s k) ≤ 115
  entry_room k l = go (ltb k (count_in s)) refl
    where
      go : (t : Bool) → ltb k (count_in s) ≡ t → length (entry_no s k) ≤ 115
      go true e = order_in_lem k (ltb-true k (count_in s) e)
      go false e = row_in_lem k (ltb-false k (count_in s) e) l
