-- The elders of the first orders, one after the other: what a pass over them keeps.
use Prim.Native.Nat.{ℕ, zero, suc, ◌+◌, ◌≤◌, ◌<◌}
use native.Mathlib.Numerals.{add-one}
use native.Mathlib.Omega.{arith}
use mathlib.Core.Path.{◌≡◌, refl, sym, ◌∙◌}
use mathlib.Core.List.{List, [], ◌∷◌}
use borrow.Author.Tests.{eq-eqb, le-ltb, lt-ltb, ne_eqb}
use lib.ListN.{length, drop, drop_of_length-le}
use Rattle.std.specs.Prelude.{Some, None}
use Rattle.day.specs.Damage.{elders_of}
use Rattle.day.specs.Walk.{root_count}
use Rattle.day.proofs.Orders.{length_elders}
use Rattle.slot.specs.Slots.{order_in}
use Rattle.slot.specs.Places.{slot, orders_in}
use Rattle.slot.proofs.Laws.{length_orders}
use Rattle.sheet.specs.Walk.{elders_in, found_before, seek}

pub length_elders_in : (n : ℕ) (s : List ℕ) → length (elders_in n s) ≡ n
length_elders_in n s = length_elders (orders_in 0 n s) ∙ length_orders 0 n s

-- the elder at place p, behind i others
elders_from : (k n i p : ℕ) (s : List ℕ) → i < n → p ≡ k + i
    → drop i (elders_of (orders_in k n s)) ≡ (order_in (slot s p)).elder ∷ drop (suc i) (elders_of (orders_in k n s))
elders_from k zero i p s h e = absurd (omega arith)
elders_from k (suc n) zero p s h e = let q : p ≡ k = omega arith in rw q
elders_from k (suc n) (suc i) p s h e = elders_from (k + 1) n i p s (omega arith) (omega arith)

abbrev pub elder_in : List ℕ → ℕ → ℕ
elder_in s i = (order_in (slot s i)).elder

elders_at : (n i : ℕ) (s : List ℕ) → i < n → drop i (elders_in n s) ≡ elder_in s i ∷ drop (i + 1) (elders_in n s)
elders_at n i s h = rw add-one (elders_from 0 n i i s h (omega arith))

elders_end : (n i : ℕ) (s : List ℕ) → n ≤ i → drop i (elders_in n s) ≡ []
elders_end n i s h = drop_of_length-le (elders_in n s) {i = i} (omega (arith, length_elders_in n s))

-- ---- the search for the first order that has no elder

-- all those from a place on up to i have one
pub record Sought (s : List ℕ) (n from i : ℕ) : Type 0 where
  pub inside : i ≤ n
  pub same : seek 0 from (drop from (elders_in n s)) ≡ seek 0 i (drop i (elders_in n s))

pub sought_none : {s : List ℕ} {n from : ℕ} → from ≤ n → Sought s n from from
sought_none h = record { inside = h; same = refl }

module _ {s : List ℕ} {n from i : ℕ} (x : Sought s n from i) where
  pub sought_more : {v : ℕ} → i < n → v ≡ elder_in s i → (v ≡ 0 → ⊥) → Sought s n from (i + 1)
  sought_more {v} h q d =
      record { inside = omega arith; same = x.same ∙ rw (elders_at n i s h, ne_eqb (elder_in s i) 0 (λ p. d (q ∙ p))) }

  pub sought_here : {v : ℕ} → i < n → v ≡ elder_in s i → v ≡ 0 → Some i ≡ found_before n (seek 0 from (drop from (elders_in n s)))
  sought_here {v} h q p =
      let here : seek 0 from (drop from (elders_in n s)) ≡ i = x.same ∙ rw (elders_at n i s h, eq-eqb (elder_in s i) 0 (sym q ∙ p)) in
      rw (here, lt-ltb i n h)

  pub sought_all : n ≤ i → None ≡ found_before n (seek 0 from (drop from (elders_in n s)))
  sought_all h =
      let none : seek 0 from (drop from (elders_in n s)) ≡ i = x.same ∙ rw (elders_end n i s h) in
      rw (none, le-ltb i n h)

-- ---- the count of the orders that have none

-- so many of the first i
pub record Counted (s : List ℕ) (n i roots : ℕ) : Type 0 where
  pub most : roots ≤ i
  pub sum : root_count (elders_in n s) ≡ roots + root_count (drop i (elders_in n s))

pub counted_none : {s : List ℕ} {n : ℕ} → Counted s n 0 0
counted_none = record { most = omega arith; sum = omega arith }

module _ {s : List ℕ} {n i roots : ℕ} (x : Counted s n i roots) where
  pub counted_root : {v : ℕ} → i < n → v ≡ elder_in s i → v ≡ 0 → Counted s n (i + 1) (roots + 1)
  counted_root {v} h q p =
      let e : elder_in s i ≡ 0 = sym q ∙ p in
      let k : root_count (drop i (elders_in n s)) ≡ root_count (drop (i + 1) (elders_in n s)) + 1 = rw (elders_at n i s h, e) in
      record { most = omega (arith, x.most); sum = omega (arith, x.sum) }

  pub counted_other : {v : ℕ} → i < n → v ≡ elder_in s i → (v ≡ 0 → ⊥) → Counted s n (i + 1) roots
  counted_other {v} h q d =
      let rest = drop (i + 1) (elders_in n s) in
      let k : root_count (drop i (elders_in n s)) ≡ root_count rest = rw (elders_at n i s h) (other (elder_in s i) rest (λ p. d (q ∙ p))) in
      record { most = omega (arith, x.most); sum = omega (arith, x.sum) }
    where
      other : (e : ℕ) (es : List ℕ) → (e ≡ 0 → ⊥) → root_count (e ∷ es) ≡ root_count es
      other zero es f = absurd (f refl)
      other (suc e) es f = refl

  pub counted_all : n ≤ i → roots ≡ root_count (elders_in n s)
  counted_all h = let k : root_count (drop i (elders_in n s)) ≡ 0 = rw (elders_end n i s h) in omega (arith, x.sum)
