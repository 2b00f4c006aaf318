-- Looking up, placing and changing orders by key, in any table and in that of a legal history.
use Prim.Native.Nat.{ℕ, zero, suc, ◌≤◌}
use native.Mathlib.Omega.{arith}
use mathlib.Core.Path.{◌≡◌, refl, sym, ap, ◌∙◌}
use mathlib.Core.Bool.{Bool, true, false, cond, ◌||◌, false≢true}
use mathlib.Core.List.{List, [], ◌∷◌, ◌++◌, map, map-append}
use Rattle.run.specs.Found.{one_more}
use Rattle.layout.specs.Line.{end_of_day, line}
use Rattle.layout.specs.declared.Record.{Record}
use Rattle.order.specs.Names.{key_of, same_key}
use Rattle.order.specs.declared.Key.{Key}
use Rattle.order.specs.declared.Order.{Order}
use Rattle.day.specs.History.{History, is_maker, made_by, lines_that_make, place_of, order_of, orders_of, known, line_that_made, is_over}
use Rattle.day.specs.Machine.{nobody, found, find, is_found, place, amend}
use Rattle.day.specs.Quotes.{quote_rows_of}
use Rattle.day.specs.Tables.{Table, empty, with_orders, with_quotes, with_mark}
use Rattle.run.proofs.Tests.{both}
use Rattle.order.proofs.Sameness.{key_eq}
use Rattle.day.proofs.Firsts.{Finds, Places, Amends, find_behind, amend_behind}
use Rattle.day.proofs.Legal.{Legal, fresh_unknown}

-- ---- any table

module _ (k : Key) where
  abbrev has : Order → Bool
  has o = same_key o.key k

  pub key_finds : Finds has nobody found is_found (find k)
  key_finds = record { nobody = refl; somebody = λ o. refl; nil = refl; cons = λ o os. refl }

  pub key_places : Places has (place k)
  key_places = record { nil = refl; cons = λ o os. refl }

  pub key_amends : (f : Order → Order) → Amends has f (amend k f)
  key_amends f = record { nil = refl; cons = λ o os. refl }

find_append : (k : Key) (os ps : List Order) → find k (os ++ ps) ≡ cond (is_found (find k os)) (find k os) (find k ps)
find_append k os ps = find_behind (key_finds k) os ps

amend_append : (k : Key) (f : Order → Order) (os ps : List Order)
    → amend k f (os ++ ps) ≡ amend k f os ++ cond (is_found (find k os)) ps (amend k f ps)
amend_append k f os ps = amend_behind (key_finds k) (key_amends k f) os ps

-- who is found has a place, whoever comes later
pub place_found : (k : Key) (os ps : List Order) → is_found (find k os) ≡ true → (1 ≤ place k os) × (place k (os ++ ps) ≡ place k os)
place_found k [] ps e = absurd (false≢true e)
place_found k (o ∷ os) ps e = go (same_key o.key k) (place_found k os ps) e
  where
    more : (n : ℕ) → 1 ≤ n → 1 ≤ one_more n
    more zero h = h
    more (suc n) h = omega arith

    go : (t : Bool) → (is_found (find k os) ≡ true → (1 ≤ place k os) × (place k (os ++ ps) ≡ place k os))
        → is_found (cond t (found o) (find k os)) ≡ true
        → (1 ≤ cond t 1 (one_more (place k os))) × (cond t 1 (one_more (place k (os ++ ps))) ≡ cond t 1 (one_more (place k os)))
    go true ih e = (omega arith, refl)
    go false ih e = (more (place k os) (ih e).0, ap one_more (ih e).1)

-- changed, if it has the key
abbrev pub changed : Key → (Order → Order) → Order → Order
changed k f o = cond (same_key o.key k) (f o) o

-- ---- the orders that the lines of a legal history made

pub made_key : (k : Key) (none : Record) (h : History) → known k h ≡ true → key_of (line_that_made k h none) ≡ k
made_key k none [] e = absurd (false≢true e)
made_key k none (end_of_day ∷ h) e = made_key k none h e
made_key k none (line r ∷ h) e = go (made_by k r) refl (made_key k none h) e
  where
    go : (t : Bool) → made_by k r ≡ t → (known k h ≡ true → key_of (line_that_made k h none) ≡ k)
        → (t || known k h) ≡ true → key_of (cond t r (line_that_made k h none)) ≡ k
    go true q ih e = key_eq (key_of r) k (both (is_maker r.event) (same_key (key_of r) k) q).1
    go false q ih e = ih e

-- whatever g keeps of a line beside its key
module _ (g : Record → Order) (keys : (m : Record) → (g m).key ≡ key_of m) where
  key_test : (k : Key) (m : Record) → same_key (g m).key k ≡ same_key (key_of m) k
  key_test k m = ap (λ (x : Key). same_key x k) (keys m)

  place_map : (k : Key) (rs : List Record) → place k (map g rs) ≡ place_of k rs
  place_map k [] = refl
  place_map k (r ∷ rs) = rw (key_test k r, place_map k rs)

  -- a lookup finds the order that the line with that key made
  find_made : (k : Key) (none : Record) (h : History) → Legal h
      → find k (map g (lines_that_make h)) ≡ cond (known k h) (found (g (line_that_made k h none))) nobody
  find_made k none [] l = refl
  find_made k none (end_of_day ∷ h) l = find_made k none h l
  find_made k none (line r ∷ h) l = go (is_maker r.event) refl (find_made k none h l.1)
    where
      last : (s t : Bool) (x : Record) → (s ≡ true → t ≡ false)
          → let first = cond t (found (g x)) nobody in
          cond (is_found first) first (cond s (found (g r)) nobody) ≡ cond (s || t) (found (g (cond s r x))) nobody
      last true true x n = absurd (false≢true (sym (n refl)))
      last true false x n = refl
      last false true x n = refl
      last false false x n = refl

      go : (t : Bool) → is_maker r.event ≡ t
          → find k (map g (lines_that_make h)) ≡ cond (known k h) (found (g (line_that_made k h none))) nobody
          → find k (map g (lines_that_make (line r ∷ h))) ≡ cond (known k (line r ∷ h)) (found (g (line_that_made k (line r ∷ h) none))) nobody
      go true q ih =
          rw (q, map-append g (lines_that_make h) (r ∷ []), find_append, ih, key_test k r)
          (last (same_key (key_of r) k) (known k h) (line_that_made k h none) (fresh_unknown h r k l.0 q))
      go false q ih = rw q ih

  found_known : (k : Key) (none : Record) (h : History) → Legal h → is_found (find k (map g (lines_that_make h))) ≡ known k h
  found_known k none h l = ap is_found (find_made k none h l) ∙ go (known k h)
    where
      go : (t : Bool) → is_found (cond t (found (g (line_that_made k h none))) nobody) ≡ t
      go true = refl
      go false = refl

  -- a change by key is a change of every order that has the key
  amend_made : (k : Key) (f : Order → Order) (h : History) → Legal h
      → amend k f (map g (lines_that_make h)) ≡ map (λ m. changed k f (g m)) (lines_that_make h)
  amend_made k f [] l = refl
  amend_made k f (end_of_day ∷ h) l = amend_made k f h l
  amend_made k f (line r ∷ h) l = go (is_maker r.event) refl (amend_made k f h l.1)
    where
      last : (s t : Bool) → (s ≡ true → t ≡ false) → (os : List Order)
          → os ++ cond t (g r ∷ []) (cond s (f (g r) ∷ []) (g r ∷ [])) ≡ os ++ (cond s (f (g r)) (g r) ∷ [])
      last true true n os = absurd (false≢true (sym (n refl)))
      last true false n os = refl
      last false true n os = refl
      last false false n os = refl

      go : (t : Bool) → is_maker r.event ≡ t
          → amend k f (map g (lines_that_make h)) ≡ map (λ m. changed k f (g m)) (lines_that_make h)
          → amend k f (map g (lines_that_make (line r ∷ h))) ≡ map (λ m. changed k f (g m)) (lines_that_make (line r ∷ h))
      go true q ih =
          let c : Record → Order = λ m. changed k f (g m) in
          rw (q, map-append g (lines_that_make h) (r ∷ []), map-append c (lines_that_make h) (r ∷ []), amend_append, found_known k r h l.1, ih, key_test k r)
          (last (same_key (key_of r) k) (known k h) (fresh_unknown h r k l.0 q) (map c (lines_that_make h)))
      go false q ih = rw q ih

-- ---- the table that a history declares

abbrev pub day_of : History → Table
day_of h = with_mark (is_over h) (with_quotes (quote_rows_of h) (with_orders (orders_of h) empty))

pub place_order : (k : Key) (h : History) → place k (orders_of h) ≡ place_of k (lines_that_make h)
place_order k h = place_map (order_of h) (λ m. refl) k (lines_that_make h)

pub find_order : (k : Key) (none : Record) (h : History) → Legal h
    → find k (orders_of h) ≡ cond (known k h) (found (order_of h (line_that_made k h none))) nobody
find_order k none h l = find_made (order_of h) (λ m. refl) k none h l

pub is_known : (k : Key) (none : Record) (h : History) → Legal h → is_found (find k (orders_of h)) ≡ known k h
is_known k none h l = found_known (order_of h) (λ m. refl) k none h l

pub amend_orders : (k : Key) (f : Order → Order) (h : History) → Legal h
    → amend k f (orders_of h) ≡ map (λ m. changed k f (order_of h m)) (lines_that_make h)
amend_orders k f h l = amend_made (order_of h) (λ m. refl) k f h l

-- who has a place keeps it when a line makes one more order
pub place_kept : (k : Key) (r : Record) (h : History) → Legal h → known k h ≡ true → place_of k (lines_that_make h ++ (r ∷ [])) ≡ place_of k (lines_that_make h)
place_kept k r h l e =
    let g = order_of h in
    sym (place_map g (λ m. refl) k (lines_that_make h ++ (r ∷ [])))
    ∙ ap (place k) (map-append g (lines_that_make h) (r ∷ []))
    ∙ (place_found k (orders_of h) (g r ∷ []) (is_known k r h l ∙ e)).1
    ∙ place_order k h
