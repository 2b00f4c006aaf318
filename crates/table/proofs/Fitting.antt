-- Undamaged orders have room in their slots, and undamaged quote rows in theirs (02, 1).
use Prim.Native.Nat.{ℕ, zero, suc, ◌+◌, ◌<◌}
use native.Mathlib.Omega.{arith}
use mathlib.Core.Path.{◌≡◌}
use mathlib.Core.Bool.{true}
use mathlib.Core.List.{List, [], ◌∷◌, ◌++◌}
use borrow.Author.Tests.{leb-true}
use lib.Dec.{leb}
use lib.ListN.{length, get_or, length-append, get_or-append}
use lib.Seq.{get_or-append_seam}
use Rattle.order.specs.declared.Order.{Order}
use Rattle.quote.specs.Quotes.{sound_row}
use Rattle.quote.specs.Rows.{all_rows_sound}
use Rattle.quote.specs.declared.QuoteRow.{QuoteRow}
use Rattle.day.specs.Damage.{all_sound, elders_of, earlier, undamaged}
use Rattle.order.specs.Stored.{sound_order}
use Rattle.day.specs.Tables.{Table}
use Rattle.run.proofs.Tests.{both}
use Rattle.day.proofs.Undamaged.{apart}
use Rattle.slot.specs.Slots.{Fits}
use Rattle.slot.proofs.Room.{sound_fits}
use Rattle.quote_slot.specs.QuoteSlots.{FitsRow}
use Rattle.quote_slot.proofs.Room.{row_fits}
use Rattle.table.specs.Tables.{limit_of}
use Rattle.table.proofs.Limits.{limit_small}

abbrev pub AllFit : List Order → Type 0
AllFit os = (none : Order) (i : ℕ) → i < length os → Fits (get_or os i none)

fit_from : (k : ℕ) (os : List Order) → k + length os < 65536 → earlier k (elders_of os) ≡ true → all_sound os ≡ true → AllFit os
fit_from k [] h a s none i l = absurd (omega arith)
fit_from k (o ∷ os) h a s none zero l =
    let e = leb-true o.elder k (both (leb o.elder k) (earlier (k + 1) (elders_of os)) a).0 in
    sound_fits o (both (sound_order o) (all_sound os) s).0 (omega arith)
fit_from k (o ∷ os) h a s none (suc i) l =
    fit_from (k + 1) os (omega arith) (both (leb o.elder k) (earlier (k + 1) (elders_of os)) a).1 (both (sound_order o) (all_sound os) s).1 none i
    (omega arith)

pub all_fit : (len : ℕ) (t : Table) → undamaged (limit_of len) t ≡ true → AllFit t.orders
all_fit len t u =
    let a = apart (limit_of len) t u in
    fit_from 0 t.orders (omega (arith, a.fits, limit_small len)) a.early a.sound

pub last_fits : (os : List Order) (o : Order) → AllFit (os ++ (o ∷ [])) → Fits o
last_fits os o f = rw (get_or-append_seam os o [] o) at (f o (length os) (rw length-append (omega arith)))

pub others_fit : (os : List Order) (o : Order) → AllFit (os ++ (o ∷ [])) → AllFit os
others_fit os o f none i l = rw (get_or-append os (o ∷ []) none i l) at (f none i (rw length-append (omega arith)))

-- ---- 02, 1: quote rows

pub row_sound : (ws : List QuoteRow) (i : ℕ) (none : QuoteRow) → all_rows_sound ws ≡ true → i < length ws → sound_row (get_or ws i none) ≡ true
row_sound [] i none a l = absurd (omega arith)
row_sound (w ∷ ws) zero none a l = (both (sound_row w) (all_rows_sound ws) a).0
row_sound (w ∷ ws) (suc i) none a l = row_sound ws i none (both (sound_row w) (all_rows_sound ws) a).1 (omega arith)

pub last_row_fits : (ws : List QuoteRow) (w : QuoteRow) → all_rows_sound (ws ++ (w ∷ [])) ≡ true → FitsRow w
last_row_fits ws w a =
    let sound = row_sound (ws ++ (w ∷ [])) (length ws) w a (rw length-append (omega arith)) in
    row_fits w (rw (get_or-append_seam ws w [] w) at sound)
