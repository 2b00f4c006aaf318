-- N counts accepted A and U, F accepted A: the orders of a history, and those without an elder.
use Prim.Native.Nat.{ℕ, zero, suc, ◌+◌, ◌≤◌}
use native.Mathlib.Omega.{arith}
use mathlib.Core.Path.{◌≡◌, refl, sym, ap, ◌∙◌}
use mathlib.Core.Bool.{Bool, true, false, cond}
use mathlib.Core.List.{List, [], ◌∷◌, ◌++◌, map-append}
use lib.ListN.{length, length-append, length-map}
use Rattle.layout.specs.Line.{end_of_day, line}
use Rattle.layout.specs.declared.Event.{Event}
use Rattle.layout.specs.declared.Event.TheVariants.{Accepted, Executed, Cancelled, Broken, Replaced, Repriced}
use Rattle.layout.specs.declared.Record.{Record}
use Rattle.order.specs.Figure.{passed_on}
use Rattle.order.specs.Names.{elder_key_of, same_key}
use Rattle.order.specs.declared.Key.{Key}
use Rattle.order.specs.declared.Order.{Order}
use Rattle.day.specs.Damage.{elders_of}
use Rattle.day.specs.Demand3.{history_after}
use Rattle.day.specs.History.{History, is_new, is_maker, is_replace, add_if, lines_that_make, order_of, orders_of, count_of}
use Rattle.day.specs.Walk.{root_count}
use Rattle.day.specs.Machine.{place, amend, with_figures, new_order, book_event, book}
use Rattle.day.proofs.Legal.{Legal, elder_known}
use Rattle.day.proofs.Lookup.{place_found, is_known}
use Rattle.day.proofs.Reached.{reached}
use Rattle.day.proofs.Steps.{booked}

-- ---- orders

makers_count : (h : History) → length (lines_that_make h) ≡ count_of is_maker h
makers_count [] = refl
makers_count (end_of_day ∷ h) = makers_count h
makers_count (line r ∷ h) = go (is_maker r.event) (makers_count h)
  where
    go : (t : Bool) → length (lines_that_make h) ≡ count_of is_maker h → length (cond t (lines_that_make h ++ (r ∷ [])) (lines_that_make h)) ≡ add_if t 1 (count_of is_maker h)
    go true ih = length-append (lines_that_make h) (r ∷ []) ∙ ap (λ (n : ℕ). n + 1) ih
    go false ih = ih

pub counts : (h : History) → length (orders_of h) ≡ count_of is_maker h
counts h = length-map (lines_that_make h) (order_of h) ∙ makers_count h

-- ---- orders without an elder

root_append : (es : List ℕ) (e : ℕ) → root_count (es ++ (e ∷ [])) ≡ root_count es + root_count (e ∷ [])
root_append [] e = omega arith
root_append (zero ∷ es) e = omega (arith, root_append es e)
root_append (suc n ∷ es) e = root_append es e

amend_elders : (k : Key) (f : Order → Order) → ((o : Order) → (f o).elder ≡ o.elder)
    → (os : List Order) → elders_of (amend k f os) ≡ elders_of os
amend_elders k f same [] = refl
amend_elders k f same (o ∷ os) = go (same_key o.key k) (amend_elders k f same os)
  where
    go : (t : Bool) → elders_of (amend k f os) ≡ elders_of os → elders_of (cond t (f o ∷ os) (o ∷ amend k f os)) ≡ elders_of (o ∷ os)
    go true ih = ap (λ (n : ℕ). n ∷ elders_of os) (same o)
    go false ih = ap (λ (ns : List ℕ). o.elder ∷ ns) ih

added : (os : List Order) (o : Order) → root_count (elders_of (os ++ (o ∷ []))) ≡ root_count (elders_of os) + root_count (o.elder ∷ [])
added os o = ap root_count (map-append (λ (x : Order). x.elder) os (o ∷ [])) ∙ root_append (elders_of os) o.elder

no_root : (e : ℕ) → 1 ≤ e → root_count (e ∷ []) ≡ 0
no_root zero h = absurd (omega arith)
no_root (suc e) h = refl

-- an accepted line adds a root if it is an A
booked_roots : (r : Record) (os : List Order) (e : Event) → (is_replace e ≡ true → 1 ≤ place (elder_key_of r) os)
    → root_count (elders_of (book_event e r os)) ≡ add_if (is_new e) 1 (root_count (elders_of os))
booked_roots r os Accepted n = added os (new_order r r.contracts 0)
booked_roots r os (Executed t) n = ap root_count (amend_elders _ _ (λ o. refl) os)
booked_roots r os Cancelled n = ap root_count (amend_elders _ _ (λ o. refl) os)
booked_roots r os (Broken t) n = ap root_count (amend_elders _ _ (λ o. refl) os)
booked_roots r os Replaced n =
    let k = elder_key_of r in
    let e = place k os in
    let same = amend_elders k (with_figures passed_on) (λ o. refl) os in
    omega (arith, added (amend k (with_figures passed_on) os) (new_order r r.contracts e), ap root_count same, no_root e (n refl))
booked_roots r os Repriced n = ap root_count (amend_elders _ _ (λ o. refl) os)

legal_roots : (h : History) → Legal h → root_count (elders_of (orders_of h)) ≡ count_of is_new h
legal_roots [] l = refl
legal_roots (end_of_day ∷ h) l = legal_roots h l
legal_roots (line r ∷ h) l =
    let os = orders_of h in
    let k = elder_key_of r in
    ap (λ (x : List Order). root_count (elders_of x)) (sym (booked h r l.1 l.0))
    ∙ booked_roots r os r.event (λ q. (place_found k os [] (is_known k r h l.1 ∙ elder_known h r l.0 q)).0)
    ∙ ap (add_if (is_new r.event) 1) (legal_roots h l.1)

pub roots : (limit : ℕ) (ps : List (List ℕ))
    → root_count (elders_of (orders_of (history_after (book limit) ps))) ≡ count_of is_new (history_after (book limit) ps)
roots limit ps = legal_roots (history_after (book limit) ps) (reached limit ps).0
