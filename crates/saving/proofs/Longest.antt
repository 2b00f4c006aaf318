-- The saved day of an undamaged table is no longer than the limit of the table says.
use Prim.Native.Nat.{ℕ, ◌+◌, ◌*◌, ◌≤◌}
use native.Mathlib.Omega.{arith}
use mathlib.Core.Path.{◌≡◌}
use mathlib.Core.Bool.{Bool, true, false}
use mathlib.Core.List.{List, [], ◌∷◌, ◌++◌}
use borrow.Author.Tests.{leb-true}
use lib.Dec.{leb}
use lib.ListN.{length, length-append}
use Rattle.run.proofs.Tests.{both}
use Rattle.order.specs.Stored.{sound_order}
use Rattle.order.specs.declared.Order.{Order}
use Rattle.quote.specs.Quotes.{sound_row}
use Rattle.quote.specs.Rows.{all_rows_sound}
use Rattle.quote.specs.declared.QuoteRow.{QuoteRow}
use Rattle.quote.proofs.Named.{row_number}
use Rattle.day.specs.Damage.{all_sound, earlier, elders_of, undamaged}
use Rattle.day.specs.Tables.{Table}
use Rattle.day.proofs.Undamaged.{apart, apart_rows}
use Rattle.groups.specs.Taken.{joined}
use Rattle.groups.specs.Groups.{number_bytes}
use Rattle.groups.proofs.Numbers.{number_most}
use Rattle.saved.specs.Heads.{head_bytes}
use Rattle.saved.specs.Entries.{head_of, order_numbers, row_numbers, saved_order, saved_row}
use Rattle.saved.specs.Days.{mark_of, front_numbers, saved_day}
use Rattle.saved.proofs.Cuts.{total}
use Rattle.saved.proofs.Heads.{head_long}
use Rattle.saved.proofs.Savable.{order_apart, order_head, row_apart, row_head}
use Rattle.saving.specs.Saving.{longest}

-- ---- numbers in so many groups each

abbrev Grouped : List ℕ → List ℕ → Type 0
Grouped [] ks = Unit {0}
Grouped (v ∷ vs) [] = ⊥
Grouped (v ∷ vs) (k ∷ ks) = (length (number_bytes v) ≤ k) × Grouped vs ks

groups_most : (vs ks : List ℕ) → Grouped vs ks → length (joined number_bytes vs) ≤ total ks
groups_most [] ks g = omega arith
groups_most (v ∷ vs) [] g = absurd g
groups_most (v ∷ vs) (k ∷ ks) g = omega (arith, length-append (number_bytes v) (joined number_bytes vs), g.0, groups_most vs ks g.1)

group : (v : ℕ) → v ≤ 127 → length (number_bytes v) ≤ 1
group v h = number_most 1 v (omega arith) (omega arith) (omega arith)

two_groups : (v : ℕ) → v ≤ 512 → length (number_bytes v) ≤ 2
two_groups v h = number_most 2 v (omega arith) (omega arith) (omega arith)

three_groups : (v : ℕ) → v ≤ 999999 → length (number_bytes v) ≤ 3
three_groups v h = number_most 3 v (omega arith) (omega arith) (omega arith)

five_groups : (v : ℕ) → v ≤ 9999999999 → length (number_bytes v) ≤ 5
five_groups v h = number_most 5 v (omega arith) (omega arith) (omega arith)

-- ---- the entries

order_most : (o : Order) → sound_order o ≡ true → o.elder ≤ 512 → length (saved_order o) ≤ 67
order_most o e h =
    let (key, series, price, figures) = order_apart o e in
    let f = o.figures in
    let numbers =
    groups_most (order_numbers o) (5 ∷ 2 ∷ 3 ∷ 3 ∷ 3 ∷ 3 ∷ 3 ∷ []) (
      five_groups o.price (omega arith),
      (
        two_groups o.elder h,
        (
          three_groups f.executed (omega arith),
          (
            three_groups f.broken (omega arith),
            (three_groups f.cancelled (omega arith), (three_groups f.passed (omega arith), (three_groups f.«open» (omega arith), tt))),
          ),
        ),
      ),
    ) in
    omega (arith, length-append (head_bytes 20 (head_of o)) (joined number_bytes (order_numbers o)), head_long (order_head o e), numbers)

row_most : (w : QuoteRow) → sound_row w ≡ true → length (saved_row w) ≤ 51
row_most w e =
    let (quote, most, less) = row_apart w e in
    let numbers = groups_most (row_numbers w) (5 ∷ 5 ∷ []) (five_groups w.executed (omega arith), (five_groups w.broken (omega arith), tt)) in
    omega (arith, length-append (head_bytes 16 w.quote) (joined number_bytes (row_numbers w)), head_long (row_head w e), numbers)

orders_most : (k : ℕ) (os : List Order) → k + length os ≤ 512 → earlier k (elders_of os) ≡ true → all_sound os ≡ true
    → length (joined saved_order os) ≤ length os * 67
orders_most k [] h a s = omega arith
orders_most k (o ∷ os) h a s =
    let early = both (leb o.elder k) (earlier (k + 1) (elders_of os)) a in
    let good = both (sound_order o) (all_sound os) s in
    let one = order_most o good.0 (omega (arith, leb-true o.elder k early.0)) in
    omega (arith, length-append (saved_order o) (joined saved_order os), one, orders_most (k + 1) os (omega arith) early.1 good.1)

rows_most : (ws : List QuoteRow) → all_rows_sound ws ≡ true → length (joined saved_row ws) ≤ length ws * 51
rows_most [] s = omega arith
rows_most (w ∷ ws) s =
    let good = both (sound_row w) (all_rows_sound ws) s in
    omega (arith, length-append (saved_row w) (joined saved_row ws), row_most w good.0, rows_most ws good.1)

-- ---- the day

mark_most : (b : Bool) → mark_of b ≤ 127
mark_most true = omega arith
mark_most false = omega arith

front_most : (t : Table) → length t.orders ≤ 512 → length t.quotes ≤ 512 → length (joined number_bytes (front_numbers t)) ≤ 6
front_most t h l =
    groups_most (front_numbers t) (1 ∷ 1 ∷ 2 ∷ 2 ∷ [])
    (group 1 (omega arith), (group (mark_of t.over) (mark_most t.over), (two_groups (length t.orders) h, (two_groups (length t.quotes) l, tt))))

pub day_most : (limit : ℕ) (t : Table) → undamaged limit t ≡ true → limit ≤ 512 → length (saved_day t) ≤ longest limit
unfolding saved_day
day_most limit t u h =
    let a = apart limit t u in
    let b = apart_rows limit t u in
    let front = joined number_bytes (front_numbers t) in
    let orders = joined saved_order t.orders in
    let rows = joined saved_row t.quotes in
    omega (
      arith,
      length-append (front ++ orders) rows,
      length-append front orders,
      front_most t (omega (arith, a.fits)) (omega (arith, b.fits, row_number)),
      orders_most 0 t.orders (omega (arith, a.fits)) a.early a.sound,
      rows_most t.quotes b.sound,
      a.fits,
      b.fits,
      row_number,
    )
