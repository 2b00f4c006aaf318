-- What one pass over a list of orders keeps from order to order: they are undamaged, and the numbers that no later one may have as its elder are marked.
use Prim.Native.Nat.{ℕ, zero, suc, ◌+◌, ◌-◌, ◌≤◌, ◌<◌}
use native.Mathlib.Omega.{arith}
use mathlib.Core.Path.{◌≡◌, refl, sym, ◌∙◌}
use mathlib.Core.Bool.{Bool, true, false, not, ◌&&◌, ◌||◌, and-true, and-false, or-true, or-false}
use mathlib.Core.List.{List, [], ◌∷◌, ◌++◌, map-append}
use borrow.Author.Tests.{leb-true, le-leb, not-true, not-false, ne_eqb}
use lib.Dec.{leb, eqb, eqb-suc-zero, eqb-zero-suc, eqb-suc-suc}
use lib.ListN.{length, replicate}
use Rattle.run.specs.Runs.{member}
use Rattle.order.specs.declared.Order.{Order}
use Rattle.order.specs.Stored.{sound_order}
use Rattle.day.specs.Damage.{elders_of, open_at, orders_undamaged}
use Rattle.run.proofs.Tests.{both, neither}
use Rattle.day.proofs.Orders.{elder_test, elder_tested, length_elders, sole_member, member_behind, shut, open_shut, shut_open, open_at_behind}
use Rattle.day.proofs.Undamaged.{Undamaged, apart_orders, behind}
use Rattle.table.specs.Passing.{Passes, is_marked, room_in, may_follow}
use Rattle.table.proofs.Limits.{most_limit}
use Rattle.table.proofs.Marking.{none_marked}
use Rattle.table.proofs.Splits.{sound_among, earlier_among, closed_among, unshared_among}

-- an order has this elder, or the order of that number has something open
abbrev pub taken : List Order → ℕ → Bool
taken os x = member x (elders_of os) || not (shut os x)

-- the orders are seen: there is a flag for each number from 0 on, and the flags of those that are taken are up
pub record Seen (flags : List ℕ) (os : List Order) : Type 0 where
  pub room : room_in flags ≡ most_limit + 1
  pub marks : (x : ℕ) → is_marked flags x ≡ taken os x

pub seen_none : Seen (replicate (most_limit + 1) 0) []
seen_none = record { room = refl; marks = λ x. none_marked (most_limit + 1) x ∙ rw (or-true (eqb x 0)) }

pub undamaged_none : (limit : ℕ) → Undamaged limit []
undamaged_none limit = record { fits = omega arith; early = refl; alone = refl; shut = refl; sound = refl }

-- ---- an order that may follow

pub follower_early : (flags : List ℕ) (i e : ℕ) → may_follow flags i e ≡ true → e ≤ i
follower_early flags i e f = leb-true e i (both (leb e i) (eqb e 0 || not (is_marked flags e)) f).0

follower_free : (flags : List ℕ) (i e : ℕ) → may_follow flags i e ≡ true → 1 ≤ e → is_marked flags e ≡ false
follower_free flags i e f p =
    not-true (is_marked flags e) (elder_tested e (not (is_marked flags e)) (both (leb e i) (eqb e 0 || not (is_marked flags e)) f).1 p)

-- what a number that is not taken is
free_apart : (os : List Order) (e : ℕ) → taken os e ≡ false → (member e (elders_of os) ≡ false) × (shut os e ≡ true)
free_apart os e f =
    let b = neither (member e (elders_of os)) (not (shut os e)) f in
    (b.0, not-false (shut os e) b.1)

-- ---- what is open, with one order more

open_behind : (os : List Order) (o : Order) (k : ℕ)
    → not (eqb (open_at (os ++ (o ∷ [])) k) 0) ≡ ((not (eqb o.figures.«open» 0) && eqb k (length os)) || not (eqb (open_at os k) 0))
open_behind [] o zero = sym (rw (and-true (not (eqb o.figures.«open» 0))) (or-false (not (eqb o.figures.«open» 0))))
open_behind [] o (suc k) = rw (eqb-suc-zero k, and-false (not (eqb o.figures.«open» 0)))
open_behind (x ∷ os) o zero = rw (eqb-zero-suc (length os), and-false (not (eqb o.figures.«open» 0)))
open_behind (x ∷ os) o (suc k) = rw (eqb-suc-suc k (length os)) (open_behind os o k)

shut_behind : (os : List Order) (o : Order) (x : ℕ)
    → not (shut (os ++ (o ∷ [])) x) ≡ ((not (eqb o.figures.«open» 0) && eqb x (length os + 1)) || not (shut os x))
shut_behind os o zero = rw (ne_eqb 0 (length os + 1) (λ q. omega arith), and-false (not (eqb o.figures.«open» 0)))
shut_behind os o (suc k) =
    let e : length os + 1 ≡ suc (length os) = omega arith in
    let p : suc k - 1 ≡ k = omega arith in
    rw (eqb-suc-zero k, e, eqb-suc-suc k (length os), p) (open_behind os o k)

-- a number is taken by the order's elder, by what it has open, or before
taken_by : (a b m c : Bool) → (a || b || (m || c)) ≡ (m || a || (b || c))
taken_by true b true c = refl
taken_by true b false c = refl
taken_by false true true c = refl
taken_by false true false c = refl
taken_by false false true c = refl
taken_by false false false c = refl

-- a part that fails
fails : (a b : Bool) → (b ≡ true → a ≡ true) → a ≡ false → b ≡ false
fails a true f e = sym (f refl) ∙ e
fails a false f e = refl

-- ---- one order more

module _ {flags : List ℕ} {os : List Order} (seen : Seen flags os) (o : Order) where
  pub undamaged_next : {limit : ℕ} → Undamaged limit os → length os < limit → sound_order o ≡ true → may_follow flags (length os) o.elder ≡ true
      → Undamaged limit (os ++ (o ∷ []))
  undamaged_next u room s f =
      let e = o.elder in
      let free : 1 ≤ e → (member e (elders_of os) ≡ false) × (shut os e ≡ true) = λ p. free_apart os e (sym (seen.marks e) ∙ follower_free flags (length os) e f p) in
      behind o u room (follower_early flags (length os) e f) (λ p. (free p).0) (λ p. shut_open os e (free p).1 p) s

  pub seen_next : {after : List ℕ} → Passes (length os) o.elder o.figures.«open» flags after → Seen after (os ++ (o ∷ []))
  seen_next m =
      let e = o.elder in
      let es = elders_of os in
      let elders : elders_of (os ++ (o ∷ [])) ≡ es ++ (e ∷ []) = map-append (λ (x : Order). x.elder) os (o ∷ []) in
      record {
        room = m.room ∙ seen.room;
        marks = λ x. m.says x ∙ rw (seen.marks x, elders, member_behind x es e, shut_behind os o x) (taken_by (eqb x e) _ (member x es) (not (shut os x)));
      }

  -- ---- one that does not fit

  module _ (limit : ℕ) (more : List Order) where
    fits : orders_undamaged limit (os ++ (o ∷ more)) ≡ true → (sound_order o && may_follow flags (length os) o.elder) ≡ true
    fits t =
        let e = o.elder in
        let xs = elders_of os in
        let ys = elders_of more in
        let all = os ++ (o ∷ more) in
        let u = apart_orders limit all t in
        let elders : elders_of all ≡ xs ++ (e ∷ ys) = map-append (λ (x : Order). x.elder) os (o ∷ more) in
        let n = length_elders os in
        let early : e ≤ length os = omega (arith, earlier_among 0 xs e ys (rw elders at u.early)) in
        let alone = sole_member e xs (unshared_among xs e ys (rw elders at u.alone)) in
        let shut-then = closed_among all xs e ys (rw elders at u.shut) in
        let shut_now : 1 ≤ e → shut os e ≡ true = λ p. open_shut os e (λ q. sym (open_at_behind os (o ∷ more) (e - 1) (omega arith)) ∙ shut_open all e shut-then q) in
        let free : 1 ≤ e → not (is_marked flags e) ≡ true = λ p. rw (seen.marks e, alone p, shut_now p) in
        rw (sound_among os o more u.sound, le-leb e (length os) early) (elder_test e (not (is_marked flags e)) free)

    pub seen_stops : (sound_order o && may_follow flags (length os) o.elder) ≡ false → orders_undamaged limit (os ++ (o ∷ more)) ≡ false
    seen_stops = fails (sound_order o && may_follow flags (length os) o.elder) (orders_undamaged limit (os ++ (o ∷ more))) fits
