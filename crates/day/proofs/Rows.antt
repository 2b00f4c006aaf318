-- The rows of a listing: each shows the order at its place, and the description of a sheet fixes it.
use Prim.Native.Nat.{ℕ, zero, suc, ◌<◌}
use native.Mathlib.Nat.{add-zero}
use native.Mathlib.Omega.{arith}
use mathlib.Core.Path.{◌≡◌, refl, sym, ap, ap₂, subst, ◌∙◌}
use mathlib.Core.Bool.{true}
use mathlib.Core.List.{List, [], ◌∷◌, map}
use lib.ListN.{length, get_or, drop, length-drop}
use lib.Seq.{get_or-drop}
use Rattle.layout.specs.declared.Record.{Record}
use Rattle.order.specs.declared.Key.{Key}
use Rattle.order.specs.declared.Order.{Order}
use Rattle.day.specs.Damage.{elders_of, unshared, undamaged}
use Rattle.day.specs.Demand3.{Tells, AddsUp, IsSheet}
use Rattle.day.specs.History.{History, figures_of, lines_that_make, order_of, orders_of}
use Rattle.day.specs.Listing.{Member, Row, Sheet, members_of, Each}
use Rattle.day.specs.Tables.{Table}
use Rattle.day.specs.Walk.{row_before, rows_for}
use Rattle.day.proofs.Listings.{listing_fixed}
use Rattle.day.proofs.Shown.{Inside}
use Rattle.day.proofs.Undamaged.{sums}

-- ---- the order at a place

front_at : {A : Type 0} (l : List A) (i : ℕ) (x : A) (rest : List A) (none : A) → drop i l ≡ x ∷ rest → get_or l i none ≡ x
front_at l i x rest none e = sym (get_or-drop i l 0 none ∙ rw add-zero) ∙ ap (λ t. get_or t 0 none) e

front_inside : {A : Type 0} (l : List A) (i : ℕ) (x : A) (rest : List A) → drop i l ≡ x ∷ rest → i < length l
front_inside l i x rest e = omega (arith, simp length-drop at (ap length e))

pub members_kept : (os : List Order) (members : List Member) → Inside (length os) members → members_of (rows_for os members) ≡ members
members_kept os [] h = refl
members_kept os (m ∷ members) h = go (drop m.at os) refl (members_kept os members h.1)
  where
    go : (l : List Order) → drop m.at os ≡ l → members_of (rows_for os members) ≡ members → members_of (row_before m l (rows_for os members)) ≡ m ∷ members
    go [] e ih = absurd (omega (arith, h.0, simp length-drop at (ap length e)))
    go (o ∷ l) e ih = ap (λ (ms : List Member). m ∷ ms) ih

-- what holds of each order of a list holds of each row
rows_each : (P : Row → Type 0) (os : List Order)
    → ((m : Member) (o : Order) (l : List Order) → drop m.at os ≡ o ∷ l → P (record { member = m; figures = o.figures; key = o.key }))
    → (members : List Member) → Each P (rows_for os members)
rows_each P os each [] = tt
rows_each P os each (m ∷ members) = go (drop m.at os) refl (rows_each P os each members)
  where
    go : (l : List Order) → drop m.at os ≡ l → Each P (rows_for os members) → Each P (row_before m l (rows_for os members))
    go [] e ih = ih
    go (o ∷ l) e ih = (each m o l e, ih)

-- the figures of a history's orders are what it says of their keys
figured : (h : History) (rs : List Record) (i : ℕ) (o : Order) (l : List Order) → drop i (map (order_of h) rs) ≡ o ∷ l → o.figures ≡ figures_of o.key h
figured h [] i o l e = absurd (omega (arith, simp length-drop at (ap length e)))
figured h (r ∷ rs) zero o l e = let q : order_of h r ≡ o = cc in subst (λ (x : Order). x.figures ≡ figures_of x.key h) q refl
figured h (r ∷ rs) (suc i) o l e = figured h rs i o l e

pub rows_told : (h : History) (members : List Member) → Each (Tells h) (rows_for (orders_of h) members)
rows_told h = rows_each (Tells h) (orders_of h) (λ m o l e. record {
  key = λ none. ap (λ (x : Order). x.key) (sym (front_at (orders_of h) m.at o l none e));
  figures = figured h (lines_that_make h) m.at o l e;
})

pub rows_add_up : (limit : ℕ) (t : Table) → undamaged limit t ≡ true → (members : List Member) → Each AddsUp (rows_for t.orders members)
rows_add_up limit t u = rows_each AddsUp t.orders (λ m o l e.
    let s = sums limit t u o m.at (front_inside t.orders m.at o l e) in
    (rw (front_at t.orders m.at o l o e) at s).sum)

-- ---- the description fixes the sheet

-- any order at all
nobody : Order
nobody =
    record {
      key = record { source = []; token = [] };
      side = 0;
      series = record { root = []; month = 0; date = 0; year = 0; denominator = 0; strike = 0 };
      price = 0;
      elder = 0;
      figures = record { size = 0; executed = 0; broken = 0; cancelled = 0; passed = 0; «open» = 0 };
    }

module _ (h : History) where
  one_row : (p q : Row) → p.member ≡ q.member → Tells h p → Tells h q → p ≡ q
  one_row p q m s t =
      let k : p.key ≡ q.key = s.key nobody ∙ ap (λ (x : Member). (get_or (orders_of h) x.at nobody).key) m ∙ sym (t.key nobody) in
      let f : p.figures ≡ q.figures = s.figures ∙ ap (λ (x : Key). figures_of x h) k ∙ sym t.figures in
      λ i. record { member = m i; figures = f i; key = k i }

  one_rows : (a b : List Row) → members_of a ≡ members_of b → Each (Tells h) a → Each (Tells h) b → a ≡ b
  one_rows [] [] e s t = refl
  one_rows [] (q ∷ b) e s t = absurd (omega (arith, ap length e))
  one_rows (p ∷ a) [] e s t = absurd (omega (arith, ap length e))
  one_rows (p ∷ a) (q ∷ b) e s t =
      let m : p.member ≡ q.member = cc in
      let ms : members_of a ≡ members_of b = cc in
      ap₂ {B = List Row} {C = List Row} ◌∷◌ (one_row p q m s.0 t.0) (one_rows a b ms s.1 t.1)

  pub one_sheet : unshared (elders_of (orders_of h)) ≡ true → (a b : Sheet) → IsSheet h a → IsSheet h b → a ≡ b
  one_sheet u a b x y =
      let ms = listing_fixed (elders_of (orders_of h)) u (members_of a.rows) (members_of b.rows) x.listed y.listed in
      let n = x.orders ∙ sym y.orders in
      let f = x.families ∙ sym y.families in
      let rows = one_rows a.rows b.rows ms x.told y.told in
      let quotes = x.quotes ∙ sym y.quotes in
      λ i. record { orders = n i; families = f i; rows = rows i; quotes = quotes i }
