-- An undamaged list of orders stays undamaged when one of them is changed by its key, and when one is put behind it.
use Prim.Native.Nat.{ℕ, zero, suc, ◌-◌, ◌≤◌, ◌<◌}
use native.Mathlib.Omega.{arith}
use mathlib.Core.Path.{◌≡◌, refl, ◌∙◌}
use mathlib.Core.Bool.{Bool, true, false, ◌&&◌}
use mathlib.Core.List.{List, [], ◌∷◌, ◌++◌, map-append}
use borrow.Author.Tests.{leb-true, le-leb}
use lib.Dec.{leb}
use lib.ListN.{length, get_or, length-append}
use Rattle.run.specs.Runs.{member}
use Rattle.message.specs.Rule.{code, price, num, lawful}
use Rattle.message.specs.Values.{one}
use Rattle.layout.specs.Layout.{sides}
use Rattle.order.specs.Figure.{Sound}
use Rattle.order.specs.declared.Figures.{Figures}
use Rattle.order.specs.declared.Key.{Key}
use Rattle.order.specs.declared.Order.{Order}
use Rattle.day.specs.Damage.{all_sound, elders_of, earlier, unshared, open_at, closed, orders_undamaged, quotes_undamaged, undamaged}
use Rattle.order.specs.Stored.{lawful_key, lawful_series, sound_figures, sound_order}
use Rattle.day.specs.Machine.{amend, with_figures, with_price}
use Rattle.day.specs.Tables.{Table}
use Rattle.run.proofs.Tests.{both}
use Rattle.day.proofs.Figures.{figures_sound, sound_figures_lem}
use Rattle.day.proofs.QuoteRows.{RowsUndamaged, rows_apart, rows_whole}
use Rattle.day.proofs.Orders.{Finds, finds_sound, length_amend, map_amend, amend_sound, amend_shut, length_elders}
use Rattle.day.proofs.Orders.{still_closed, earlier_behind, unshared_behind, closed_behind, sound_behind, open_at_behind}

pub record Undamaged (limit : ℕ) (os : List Order) : Type 0 where
  pub fits : length os ≤ limit
  pub early : earlier 0 (elders_of os) ≡ true
  pub alone : unshared (elders_of os) ≡ true
  pub shut : closed os (elders_of os) ≡ true
  pub sound : all_sound os ≡ true

pub apart_orders : (limit : ℕ) (os : List Order) → orders_undamaged limit os ≡ true → Undamaged limit os
apart_orders limit os e =
    let es = elders_of os in
    let a = both (leb (length os) limit && earlier 0 es && unshared es && closed os es) (all_sound os) e in
    let b = both (leb (length os) limit && earlier 0 es && unshared es) (closed os es) a.0 in
    let c = both (leb (length os) limit && earlier 0 es) (unshared es) b.0 in
    let d = both (leb (length os) limit) (earlier 0 es) c.0 in
    record { fits = leb-true (length os) limit d.0; early = d.1; alone = c.1; shut = b.1; sound = a.1 }

pub whole_orders : (limit : ℕ) (os : List Order) → Undamaged limit os → orders_undamaged limit os ≡ true
whole_orders limit os u = rw (le-leb (length os) limit u.fits, u.early, u.alone, u.shut, u.sound)

pub apart : (limit : ℕ) (t : Table) → undamaged limit t ≡ true → Undamaged limit t.orders
apart limit t e = apart_orders limit t.orders (both (orders_undamaged limit t.orders) (quotes_undamaged t.quotes) e).0

pub apart_rows : (limit : ℕ) (t : Table) → undamaged limit t ≡ true → RowsUndamaged t.quotes
apart_rows limit t e = rows_apart t.quotes (both (orders_undamaged limit t.orders) (quotes_undamaged t.quotes) e).1

pub whole : (limit : ℕ) (t : Table) → Undamaged limit t.orders → RowsUndamaged t.quotes → undamaged limit t ≡ true
whole limit t u v = rw (whole_orders limit t.orders u, rows_whole t.quotes v)

-- all of an order but its figures
abbrev unfigured : Order → Bool
unfigured o = lawful_key o.key && lawful (code sides) 1 (one o.side) && lawful_series o.series && lawful price 10 (num o.price)

-- ---- one is changed

module _ {limit : ℕ} {k : Key} {os : List Order} {o : Order} (h : Finds k os o) (u : Undamaged limit os) where
  amended : (f : Order → Order) → ((x : Order) → (f x).elder ≡ x.elder) → (o.figures.«open» ≡ 0 → (f o).figures.«open» ≡ 0) → sound_order (f o) ≡ true
      → Undamaged limit (amend k f os)
  amended f e z s =
      let now = amend k f os in
      let same : elders_of now ≡ elders_of os = map_amend k f (λ (x : Order). x.elder) e os in
      let n = length_elders os in
      record {
        fits = rw (length_amend k f os) u.fits;
        early = rw same u.early;
        alone = rw same u.alone;
        shut = rw same (still_closed os now (λ i l. amend_shut f h z i) 0 (elders_of os) (omega arith) u.early u.shut);
        sound = amend_sound f h s u.sound;
      }

  pub refigured : (g : Figures → Figures) → (o.figures.«open» ≡ 0 → (g o.figures).«open» ≡ 0) → (Sound o.figures → Sound (g o.figures))
      → Undamaged limit (amend k (with_figures g) os)
  refigured g z s =
      let f = o.figures in
      let b = both (unfigured o) (sound_figures f) (finds_sound h u.sound) in
      amended (with_figures g) (λ x. refl) z (rw b.0 (sound_figures_lem (g f) (s (figures_sound f b.1))))

  pub repriced : (p : ℕ) → lawful price 10 (num p) ≡ true → Undamaged limit (amend k (with_price p) os)
  repriced p l =
      let front = lawful_key o.key && lawful (code sides) 1 (one o.side) && lawful_series o.series in
      let b = both (unfigured o) (sound_figures o.figures) (finds_sound h u.sound) in
      amended (with_price p) (λ x. refl) (λ z. z) (rw ((both front (lawful price 10 (num o.price)) b.0).0, l, b.1))

-- ---- one is put behind

pub behind : {limit : ℕ} {os : List Order} (o : Order) → Undamaged limit os → length os < limit → o.elder ≤ length os
    → (1 ≤ o.elder → member o.elder (elders_of os) ≡ false) → (1 ≤ o.elder → open_at os (o.elder - 1) ≡ 0) → sound_order o ≡ true
    → Undamaged limit (os ++ (o ∷ []))
behind {os = os} o u room elder unclaimed shut s =
    let es = elders_of os in
    let now = os ++ (o ∷ []) in
    let n = length_elders os in
    let one_more : elders_of now ≡ es ++ (o.elder ∷ []) = map-append (λ (x : Order). x.elder) os (o ∷ []) in
    let kept = still_closed os now (λ i l z. open_at_behind os (o ∷ []) i l ∙ z) 0 es (omega arith) u.early u.shut in
    record {
      fits = rw length-append (omega arith);
      early = rw one_more (earlier_behind 0 es o.elder (omega arith) u.early);
      alone = rw one_more (unshared_behind es o.elder unclaimed u.alone);
      shut = rw one_more (closed_behind now es o.elder (λ p. open_at_behind os (o ∷ []) (o.elder - 1) (omega arith) ∙ shut p) kept);
      sound = sound_behind os o s u.sound;
    }

-- ---- what each order keeps

sound_at : (os : List Order) (none : Order) (i : ℕ) → all_sound os ≡ true → i < length os → sound_order (get_or os i none) ≡ true
sound_at [] none i a h = absurd (omega arith)
sound_at (o ∷ os) none zero a h = (both (sound_order o) (all_sound os) a).0
sound_at (o ∷ os) none (suc i) a h = sound_at os none i (both (sound_order o) (all_sound os) a).1 (omega arith)

pub sums : (limit : ℕ) (t : Table) → undamaged limit t ≡ true → (none : Order) (i : ℕ) → i < length t.orders
    → Sound (get_or t.orders i none).figures
sums limit t e none i h =
    let o = get_or t.orders i none in
    figures_sound o.figures (both (unfigured o) (sound_figures o.figures) (sound_at t.orders none i (apart limit t e).sound h)).1
