-- No key stands twice in a table that was reached: a key is booked only where it is unknown.
use Prim.Native.Nat.{ℕ, zero, suc, ◌<◌}
use native.Mathlib.Nat.{eq-or-lt_of_le}
use native.Mathlib.Omega.{arith}
use mathlib.Core.Path.{◌≡◌, refl, sym, ap, ◌∙◌}
use mathlib.Core.Bool.{Bool, true, false, cond, ◌&&◌, true≢false}
use mathlib.Core.List.{List, [], ◌∷◌, ◌++◌, map, map-append}
use mathlib.Core.Logic.{◌⊎◌, inl, inr}
use lib.ListN.{length, get_or, length-append, length-map, get_or-append, get_or-map}
use lib.Seq.{get_or_at}
use Rattle.layout.specs.Line.{Said, end_of_day, line}
use Rattle.layout.specs.declared.Event.{Event}
use Rattle.layout.specs.declared.Event.TheVariants.{Accepted, Executed, Cancelled, Broken, Replaced, Repriced}
use Rattle.layout.specs.declared.Record.{Record}
use Rattle.order.specs.Figure.{executed_by, broken_by, cancelled_by, passed_on}
use Rattle.order.specs.Names.{key_of, elder_key_of, same_key}
use Rattle.order.specs.declared.Key.{Key}
use Rattle.order.specs.declared.Order.{Order}
use Rattle.day.specs.Demand3.{table_after}
use Rattle.day.specs.History.{is_maker}
use Rattle.day.specs.Machine.{Found, found, find, is_found, place, amend, refusal_of, new_order, with_figures, with_price, book_event, accept, book}
use Rattle.day.specs.Tables.{Table}
use Rattle.day.proofs.Admitted.{admitted}
use Rattle.day.proofs.Booking.{book_keeps}
use Rattle.order.proofs.Sameness.{key_comm}
use Rattle.day.proofs.Orders.{map_amend}

abbrev key : Order → Key
key o = o.key

abbrev keys_of : List Order → List Key
keys_of os = map key os

-- k is none of these
abbrev Unknown : Key → List Key → Type 0
Unknown k ks = (none : Key) (i : ℕ) → i < length ks → same_key (get_or ks i none) k ≡ true → ⊥

-- no key stands at two places
abbrev OneKey : List Key → Type 0
OneKey ks = (none : Key) (i j : ℕ) → i < length ks → j < length ks → same_key (get_or ks i none) (get_or ks j none) ≡ true → i ≡ j

past : (t : Bool) (o : Order) (rest : Found) → is_found (cond t (found o) rest) ≡ false → is_found rest ≡ false
past true o rest e = absurd (true≢false e)
past false o rest e = e

unknown : (k : Key) (os : List Order) → is_found (find k os) ≡ false → Unknown k (keys_of os)
unknown k [] e none i h s = absurd (omega arith)
unknown k (o ∷ os) e none zero h s = true≢false (rw s at e)
unknown k (o ∷ os) e none (suc i) h s = unknown k os (past (same_key o.key k) o (find k os) e) none i (omega arith) s

-- ---- one is put behind

module _ (ks : List Key) (k none : Key) where
  -- at i stands the new one, or what stood there before
  abbrev At : ℕ → Type 0
  At i = let now = get_or (ks ++ (k ∷ [])) i none in ((i ≡ length ks) × (now ≡ k)) ⊎ ((i < length ks) × (now ≡ get_or ks i none))

  at : (i : ℕ) → i < length (ks ++ (k ∷ [])) → At i
  at i h = go (eq-or-lt_of_le (omega (arith, length-append ks (k ∷ []))))
    where
      go : (i ≡ length ks) ⊎ (i < length ks) → At i
      go (inl e) = inl (e, get_or_at ks k [] none i (sym e))
      go (inr l) = inr (l, get_or-append ks (k ∷ []) none i l)

one_key_behind : (ks : List Key) (k : Key) → OneKey ks → Unknown k ks → OneKey (ks ++ (k ∷ []))
one_key_behind ks k one new none i j h l s = go (at ks k none i h) (at ks k none j l)
  where
    go : At ks k none i → At ks k none j → i ≡ j
    go (inl p) (inl q) = p.0 ∙ sym q.0
    go (inl p) (inr q) = absurd (new none j q.0 (sym (key_comm k (get_or ks j none)) ∙ (rw (p.1, q.1) at s)))
    go (inr p) (inl q) = absurd (new none i p.0 (rw (p.1, q.1) at s))
    go (inr p) (inr q) = one none i j p.0 q.0 (rw (p.1, q.1) at s)

-- ---- an accepted line

-- A and U put their key behind, and the others change none
keys_booked : (e : Event) (r : Record) (os : List Order) → keys_of (book_event e r os) ≡ cond (is_maker e) (keys_of os ++ (key_of r ∷ [])) (keys_of os)
keys_booked Accepted r os = map-append key os (new_order r r.contracts 0 ∷ [])
keys_booked (Executed t) r os = map_amend (key_of r) (with_figures (λ f. executed_by f r.contracts)) key (λ o. refl) os
keys_booked Cancelled r os = map_amend (key_of r) (with_figures (λ f. cancelled_by f r.contracts)) key (λ o. refl) os
keys_booked (Broken t) r os = map_amend (key_of r) (with_figures (λ f. broken_by f r.contracts)) key (λ o. refl) os
keys_booked Replaced r os =
    map-append key (amend (elder_key_of r) (with_figures passed_on) os) (new_order r r.contracts (place (elder_key_of r) os) ∷ [])
    ∙ ap (λ (ks : List Key). ks ++ (key_of r ∷ [])) (map_amend (elder_key_of r) (with_figures passed_on) key (λ o. refl) os)
keys_booked Repriced r os = map_amend (key_of r) (with_price r.price) key (λ o. refl) os

accept_one_key : (limit : ℕ) (t : Table) (x : Said) → refusal_of limit t x ≡ 0 → OneKey (keys_of t.orders) → OneKey (keys_of (accept x t).orders)
accept_one_key limit t end_of_day z one = one
accept_one_key limit t (line r) z one = rw (keys_booked r.event r t.orders) (go (is_maker r.event) (admitted limit t r z).fresh)
  where
    go : (b : Bool) → (b && is_found (find (key_of r) t.orders)) ≡ false
        → OneKey (cond b (keys_of t.orders ++ (key_of r ∷ [])) (keys_of t.orders))
    go true f = one_key_behind (keys_of t.orders) (key_of r) one (unknown (key_of r) t.orders f)
    go false f = one

reached : (limit : ℕ) (ps : List (List ℕ)) → OneKey (keys_of (table_after (book limit) ps).orders)
reached limit [] = λ none i j h l s. absurd (omega arith)
reached limit (p ∷ ps) =
    let t = table_after (book limit) ps in
    book_keeps limit (λ (now : Table). OneKey (keys_of now.orders)) t p (λ x e z. accept_one_key limit t x z (reached limit ps)) (reached limit ps)

-- ---- of the orders themselves

of_orders : (os : List Order) → OneKey (keys_of os) → (none : Order) (i j : ℕ) → i < length os → j < length os
    → same_key (get_or os i none).key (get_or os j none).key ≡ true → i ≡ j
of_orders os one none i j h l s =
    let n = length-map os key in
    one none.key i j (omega arith) (omega arith) (rw (get_or-map key os i none, get_or-map key os j none) s)

pub one_key : (limit : ℕ) (ps : List (List ℕ)) → let os = (table_after (book limit) ps).orders in (none : Order) (i j : ℕ) → i < length os → j < length os
    → same_key (get_or os i none).key (get_or os j none).key ≡ true → i ≡ j
one_key limit ps = of_orders (table_after (book limit) ps).orders (reached limit ps)
