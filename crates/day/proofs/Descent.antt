-- A line of replacements is a descent: in any undamaged table elders are earlier, unshared and in no cycle; in every table reached a key stands once.
use Prim.Native.Nat.{ℕ, ◌≤◌, ◌<◌}
use native.Mathlib.Omega.{arith}
use mathlib.Core.Path.{◌≡◌}
use mathlib.Core.Bool.{true}
use mathlib.Core.List.{List}
use lib.ListN.{length}
use Rattle.order.specs.declared.Order.{Order}
use Rattle.day.specs.Damage.{elders_of, earlier, undamaged}
use Rattle.day.specs.Demand3.{table_after, Ancestor, elder, older, Descent}
use Rattle.day.specs.Listing.{elder_at}
use Rattle.day.specs.Machine.{book}
use Rattle.day.specs.Tables.{Table}
use Rattle.day.proofs.Elders.{earlier_at, unshared_at}
use Rattle.day.proofs.Keys.{one_key}
use Rattle.day.proofs.Orders.{length_elders}
use Rattle.day.proofs.Undamaged.{apart}
use Rattle.day.proofs.Sound.{sound}

ancestor_earlier : {es : List ℕ} {i j : ℕ} → earlier 0 es ≡ true → Ancestor es j i → j < i
ancestor_earlier {es} {i} a (elder h e) = omega (arith, earlier_at es a i h)
ancestor_earlier {es} {i} a (older x h e) = omega (arith, earlier_at es a i h, ancestor_earlier a x)

-- any undamaged table: a repeated key is no damage
pub record Lineage (os : List Order) : Type 0 where
  pub earlier : (i : ℕ) → i < length os → elder_at (elders_of os) i ≤ i
  pub unshared : (i j : ℕ) → i < length os → j < length os → 1 ≤ elder_at (elders_of os) i → elder_at (elders_of os) i ≡ elder_at (elders_of os) j → i ≡ j
  pub acyclic : (i : ℕ) → Ancestor (elders_of os) i i → ⊥

pub descent_of : (limit : ℕ) (t : Table) → undamaged limit t ≡ true → Lineage t.orders
descent_of limit t e =
    let u = apart limit t e in
    let es = elders_of t.orders in
    let n = length_elders t.orders in
    record {
      earlier = λ i h. omega (arith, earlier_at es u.early i (omega arith));
      unshared = λ i j h k. unshared_at es u.alone i j (omega arith) (omega arith);
      acyclic = λ i a. absurd (omega (arith, ancestor_earlier u.early a));
    }

pub descent : (limit : ℕ) (ps : List (List ℕ)) → Descent (table_after (book limit) ps).orders
descent limit ps =
    let l = descent_of limit (table_after (book limit) ps) (sound limit ps) in
    record { earlier = l.earlier; unshared = l.unshared; acyclic = l.acyclic; one_key = one_key limit ps }
