-- What one pass over the slots in use keeps, and what a slot that does not fit says of all of them.
use Prim.Native.Nat.{ℕ, zero, suc, ◌+◌, ◌-◌, ◌≤◌, ◌<◌}
use native.Mathlib.Nat.{sub-zero, zero-add, suc-add}
use native.Mathlib.Omega.{arith}
use mathlib.Core.Path.{◌≡◌, refl, sym, ap, ◌∙◌}
use mathlib.Core.Bool.{Bool, true, false, ◌&&◌, and-false}
use mathlib.Core.List.{List, [], ◌∷◌, ◌++◌}
use lib.ListN.{length, replicate}
use Rattle.order.specs.declared.Order.{Order}
use Rattle.order.specs.Stored.{sound_order}
use Rattle.run.proofs.Tests.{both}
use Rattle.day.proofs.Undamaged.{Undamaged, whole_orders}
use Rattle.table.specs.Passing.{Passes, room_in, slot_fits, may_follow}
use Rattle.slot.specs.Slots.{order_in}
use Rattle.slot.specs.Places.{orders_in, slot}
use Rattle.table.specs.Tables.{count_in, limit_of, table_in, tail_zero, tails_zero, slots_sound}
use Rattle.slot.proofs.Laws.{length_orders}
use Rattle.table.proofs.Limits.{most_limit, limit_most}
use Rattle.table.proofs.Following.{Seen, seen_none, undamaged_none, follower_early, undamaged_next, seen_next, seen_stops}

-- i slots are passed: their orders are undamaged and seen, and the tails of the others decide
pub record Passed (s flags : List ℕ) (i : ℕ) : Type 0 where
  pub inside : i ≤ count_in s
  pub tails : tails_zero 0 (count_in s) s ≡ tails_zero i (count_in s - i) s
  pub orders : Undamaged (limit_of (length s)) (orders_in 0 i s)
  pub seen : Seen flags (orders_in 0 i s)

pub none_passed : (s flags : List ℕ) → flags ≡ replicate (most_limit + 1) 0 → Passed s flags 0
none_passed s flags e =
    record {
      inside = omega arith;
      tails = rw sub-zero;
      orders = undamaged_none (limit_of (length s));
      seen = rw e seen_none;
    }

pub all_passed : (s flags : List ℕ) (i : ℕ) → count_in s ≤ i → Passed s flags i → true ≡ slots_sound s
all_passed s flags i h p =
    let e : i ≡ count_in s = omega (arith, p.inside) in
    let z : count_in s - i ≡ 0 = omega arith in
    sym (rw (p.tails, z) (whole_orders (limit_of (length s)) (table_in s).orders (rw e at p.orders)))

-- the order at place p, behind i others and before m
orders_at : (k i m p : ℕ) (s : List ℕ) → p ≡ k + i → orders_in k (i + suc m) s ≡ orders_in k i s ++ (order_in (slot s p) ∷ orders_in (p + 1) m s)
orders_at k zero m p s e = let q : p ≡ k = omega arith in rw (q, zero-add)
orders_at k (suc i) m p s e = rw (suc-add i (suc m)) (ap (λ (os : List Order). order_in (slot s k) ∷ os) (orders_at (k + 1) i m p s (omega arith)))

-- the orders behind place i
abbrev later : List ℕ → ℕ → List Order
later s i = orders_in (i + 1) (count_in s - (i + 1)) s

module _ {s flags : List ℕ} {i : ℕ} {o : Order} (p : Passed s flags i) (h : i < count_in s) (q : o ≡ order_in (slot s i)) where
  -- ---- slot i among all

  tail_among : tails_zero 0 (count_in s) s ≡ (tail_zero s i && tails_zero (i + 1) (count_in s - (i + 1)) s)
  tail_among =
      let e : count_in s - i ≡ suc (count_in s - (i + 1)) = omega arith in
      p.tails ∙ rw e

  order_among : orders_in 0 (count_in s) s ≡ orders_in 0 i s ++ (o ∷ later s i)
  order_among =
      let e : count_in s ≡ i + suc (count_in s - (i + 1)) = omega arith in
      ap (λ n. orders_in 0 n s) e ∙ orders_at 0 i (count_in s - (i + 1)) i s (omega arith)
      ∙ ap (λ (x : Order). orders_in 0 i s ++ (x ∷ later s i)) (sym q)

  order_stops : (sound_order o && may_follow flags i o.elder) ≡ false → false ≡ slots_sound s
  order_stops f =
      let stops = seen_stops p.seen o (limit_of (length s)) (later s i) (rw (length_orders 0 i s) f) in
      sym (rw (order_among, stops) (and-false (tails_zero 0 (count_in s) s)))

  pub slot_stops : slot_fits s i o ≡ false → false ≡ slots_sound s
  slot_stops f = go (tail_zero s i) refl f
    where
      go : (t : Bool) → tail_zero s i ≡ t → (t && sound_order o) ≡ false → false ≡ slots_sound s
      go true e f = order_stops (rw f)
      go false e f = sym (rw (tail_among, e))

  pub elder_stops : may_follow flags i o.elder ≡ false → false ≡ slots_sound s
  elder_stops f = order_stops (rw f (and-false (sound_order o)))

  -- ---- slot i is passed too

  module _ (k : count_in s ≤ limit_of (length s)) where
    pub place_inside : i + 1 < room_in flags
    place_inside = omega (arith, p.seen.room, limit_most (length s))

    pub elder_inside : may_follow flags i o.elder ≡ true → o.elder < room_in flags
    elder_inside g = omega (arith, place_inside, follower_early flags i o.elder g)

    one_more : orders_in 0 (i + 1) s ≡ orders_in 0 i s ++ (o ∷ [])
    one_more = orders_at 0 i 0 i s (omega arith) ∙ ap (λ (x : Order). orders_in 0 i s ++ (x ∷ [])) (sym q)

    pub one_passed : {after : List ℕ} → slot_fits s i o ≡ true → may_follow flags i o.elder ≡ true → Passes i o.elder o.figures.«open» flags after
        → Passed s after (i + 1)
    one_passed f g m =
        let n = length_orders 0 i s in
        let a = both (tail_zero s i) (sound_order o) f in
        record {
          inside = omega arith;
          tails = tail_among ∙ rw a.0;
          orders = rw one_more (undamaged_next p.seen o p.orders (omega arith) a.1 (rw n g));
          seen = rw one_more (seen_next p.seen o (rw n m));
        }
