-- What is stored of an undamaged table holds that table, and is sound.
use Prim.Native.Nat.{ℕ, suc, ◌+◌, ◌≤◌, ◌<◌}
use native.Mathlib.Omega.{arith}
use mathlib.Core.Path.{◌≡◌, refl, ◌∙◌}
use mathlib.Core.Bool.{Bool, true, false}
use mathlib.Core.List.{List, [], ◌∷◌, ◌++◌, append-nil, append_assoc}
use lib.ListN.{length, replicate, length-append}
use lib.Seq.{sets, length-sets}
use Rattle.order.specs.declared.Order.{Order}
use Rattle.quote.specs.Quotes.{most_rows, sound_row}
use Rattle.quote.specs.Rows.{all_rows_sound}
use Rattle.quote.specs.declared.QuoteRow.{QuoteRow}
use Rattle.run.proofs.Tests.{both}
use Rattle.day.specs.Damage.{undamaged}
use Rattle.day.specs.Tables.{Table, empty, with_orders, with_quotes, with_mark}
use Rattle.day.proofs.Undamaged.{apart, apart_rows}
use Rattle.quote_slot.proofs.Room.{row_fits}
use Rattle.table.specs.Tables.{limit_of, table_in, sound}
use Rattle.table.specs.Changes.{appended, row_appended}
use Rattle.table.proofs.Fitting.{AllFit, all_fit}
use Rattle.table.proofs.Holding.{Holds, length_appended, appended_holds, over_holds}
use Rattle.table.proofs.RowHolding.{length_row_appended, row_appended_holds}
use Rattle.table.proofs.Making.{empty_holds}
use Rattle.table.proofs.Sound.{holds_sound}
use Rattle.loading.specs.Loading.{put_all, orders_appended, rows_appended, marked_by, table_bytes}

-- ---- what is put in turn

module _ {A : Type 0} (put : A → List ℕ → List ℕ) where
  pub put_one_more : (xs : List A) (a : A) (s : List ℕ) → put_all put (xs ++ (a ∷ [])) s ≡ put a (put_all put xs s)
  put_one_more [] a s = refl
  put_one_more (x ∷ xs) a s = put_one_more xs a (put x s)

  pub length_put_all : ((a : A) (s : List ℕ) → length (put a s) ≡ length s) → (xs : List A) (s : List ℕ) → length (put_all put xs s) ≡ length s
  length_put_all keeps [] s = refl
  length_put_all keeps (x ∷ xs) s = length_put_all keeps xs (put x s) ∙ keeps x s

-- ---- orders, and rows, behind those that are there

pub orders_held : (os : List Order) (s : List ℕ) (t : Table) → Holds s t → length t.orders + length os ≤ limit_of (length s) → AllFit os
    → Holds (orders_appended os s) (with_orders (t.orders ++ os) t)
orders_held [] s t h room fit = rw (append-nil t.orders) h
orders_held (o ∷ os) s t h room fit =
    let one = appended_holds s o h (omega arith) (fit o 0 (omega arith)) in
    rw (append_assoc t.orders (o ∷ []) os) at
    (orders_held os (appended o s) (with_orders (t.orders ++ (o ∷ [])) t) one
    (rw (length-append t.orders (o ∷ []), length_appended o s) (omega arith))
    (λ none i l. fit none (suc i) (omega arith)))

rows_held : (ws : List QuoteRow) (s : List ℕ) (t : Table) → Holds s t → length t.quotes + length ws ≤ most_rows → all_rows_sound ws ≡ true
    → Holds (rows_appended ws s) (with_quotes (t.quotes ++ ws) t)
rows_held [] s t h room fit = rw (append-nil t.quotes) h
rows_held (w ∷ ws) s t h room fit =
    let b = both (sound_row w) (all_rows_sound ws) fit in
    let one = row_appended_holds s w h (omega arith) (row_fits w b.0) in
    rw (append_assoc t.quotes (w ∷ []) ws) at
    (rows_held ws (row_appended w s) (with_quotes (t.quotes ++ (w ∷ [])) t) one (rw (length-append t.quotes (w ∷ [])) (omega arith)) b.1)

marked_held : (b : Bool) (s : List ℕ) (t : Table) → t.over ≡ false → Holds s t → Holds (marked_by b s) (with_mark b t)
marked_held true s t e h = over_holds h
marked_held false s t e h = rw (← e) h

length_marked : (b : Bool) (s : List ℕ) → length (marked_by b s) ≡ length s
length_marked true s = length-sets s 4 (1 ∷ [])
length_marked false s = refl

-- ---- the whole table

pub length_table : (t : Table) (before : List ℕ) → length (table_bytes t before) ≡ length before
length_table t before =
    let front = sets before 0 (replicate 8 0) in
    length_marked t.over (rows_appended t.quotes (orders_appended t.orders front))
    ∙ length_put_all row_appended length_row_appended t.quotes (orders_appended t.orders front)
    ∙ length_put_all appended length_appended t.orders front
    ∙ length-sets before 0 (replicate 8 0)

module _ (t : Table) (before : List ℕ) (h : 0 < limit_of (length before)) (u : undamaged (limit_of (length before)) t ≡ true) where
  table_held : Holds (table_bytes t before) t
  table_held =
      let limit = limit_of (length before) in
      let front = sets before 0 (replicate 8 0) in
      let room : length t.orders ≤ limit_of (length front) = rw (length-sets before 0 (replicate 8 0)) (apart limit t u).fits in
      let orders = orders_held t.orders front empty (empty_holds before h) (omega arith) (all_fit (length before) t u) in
      let rows = apart_rows limit t u in
      let quotes = rows_held t.quotes (orders_appended t.orders front) (with_orders t.orders empty) orders (omega (arith, rows.fits)) rows.sound in
      marked_held t.over (rows_appended t.quotes (orders_appended t.orders front)) (with_quotes t.quotes (with_orders t.orders empty)) refl quotes

  pub table_stored : table_in (table_bytes t before) ≡ t
  table_stored = table_held.says

  pub stored_sound : sound (table_bytes t before) ≡ true
  stored_sound = holds_sound table_held (rw (length_table t before) u)
