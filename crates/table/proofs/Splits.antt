-- What the tests of damage say of one order among others.
use Prim.Native.Nat.{ℕ, ◌+◌, ◌≤◌}
use native.Mathlib.Omega.{arith}
use mathlib.Core.Path.{◌≡◌, refl}
use mathlib.Core.Bool.{Bool, true, false, not, ◌||◌, or-true}
use mathlib.Core.List.{List, [], ◌∷◌, ◌++◌}
use borrow.Author.Tests.{leb-true, eqb-true, eq-eqb}
use lib.Dec.{leb, eqb}
use lib.ListN.{length}
use Rattle.run.specs.Runs.{member}
use Rattle.order.specs.declared.Order.{Order}
use Rattle.day.specs.Damage.{all_sound, earlier, unshared, closed}
use Rattle.order.specs.Stored.{sound_order}
use Rattle.run.proofs.Tests.{both}
use Rattle.day.proofs.Orders.{sole, shut}

pub sound_among : (xs : List Order) (o : Order) (ys : List Order) → all_sound (xs ++ (o ∷ ys)) ≡ true → sound_order o ≡ true
sound_among [] o ys a = (both (sound_order o) (all_sound ys) a).0
sound_among (x ∷ xs) o ys a = sound_among xs o ys (both (sound_order x) (all_sound (xs ++ (o ∷ ys))) a).1

pub earlier_among : (k : ℕ) (xs : List ℕ) (e : ℕ) (ys : List ℕ) → earlier k (xs ++ (e ∷ ys)) ≡ true → e ≤ k + length xs
earlier_among k [] e ys a = omega (arith, leb-true e k (both (leb e k) (earlier (k + 1) ys) a).0)
earlier_among k (x ∷ xs) e ys a =
    omega (arith, earlier_among (k + 1) xs e ys (both (leb x k) (earlier (k + 1) (xs ++ (e ∷ ys))) a).1)

pub closed_among : (os : List Order) (xs : List ℕ) (e : ℕ) (ys : List ℕ) → closed os (xs ++ (e ∷ ys)) ≡ true
    → shut os e ≡ true
closed_among os [] e ys c = (both (shut os e) (closed os ys) c).0
closed_among os (x ∷ xs) e ys c =
    closed_among os xs e ys (both (shut os x) (closed os (xs ++ (e ∷ ys))) c).1

member_among : (xs : List ℕ) (e : ℕ) (ys : List ℕ) → member e (xs ++ (e ∷ ys)) ≡ true
member_among [] e ys = rw (eq-eqb e e refl)
member_among (x ∷ xs) e ys = rw (member_among xs e ys) (or-true (eqb e x))

-- the definition looks forward, a pass looks back
pub unshared_among : (xs : List ℕ) (e : ℕ) (ys : List ℕ) → unshared (xs ++ (e ∷ ys)) ≡ true → sole e xs ≡ true
unshared_among [] e ys u = or-true (eqb e 0)
unshared_among (x ∷ xs) e ys u =
    let b = both (sole x (xs ++ (e ∷ ys))) (unshared (xs ++ (e ∷ ys))) u in
    go (eqb e x) refl (unshared_among xs e ys b.1) b.0
  where
    go : (t : Bool) → eqb e x ≡ t → sole e xs ≡ true → sole x (xs ++ (e ∷ ys)) ≡ true → (eqb e 0 || not (t || member e xs)) ≡ true
    go true q l f = let p = eqb-true e x q in rw (← p, member_among xs e ys) at f
    go false q l f = l
