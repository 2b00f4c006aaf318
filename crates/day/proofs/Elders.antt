-- What the tests of damage say of elders: each is an earlier order, and no two orders have one.
use Prim.Native.Nat.{ℕ, zero, suc, ◌+◌, ◌≤◌, ◌<◌}
use native.Mathlib.Omega.{arith}
use mathlib.Core.Path.{◌≡◌, refl, sym, ap, ◌∙◌}
use mathlib.Core.Bool.{true, not, ◌||◌, or-true, false≢true}
use mathlib.Core.List.{List, [], ◌∷◌}
use borrow.Author.Tests.{leb-true, eq-eqb, ne_eqb, not-true}
use lib.Dec.{leb, eqb}
use lib.ListN.{length}
use Rattle.run.specs.Runs.{member}
use Rattle.day.specs.Damage.{earlier, unshared}
use Rattle.day.specs.Listing.{elder_at}
use Rattle.run.proofs.Tests.{both}

-- of a list that begins at place k
earlier_from : (k : ℕ) (es : List ℕ) → earlier k es ≡ true → (i : ℕ) → i < length es → elder_at es i ≤ k + i
earlier_from k [] h i l = absurd (omega arith)
earlier_from k (e ∷ es) h zero l = omega (arith, leb-true e k (both (leb e k) (earlier (k + 1) es) h).0)
earlier_from k (e ∷ es) h (suc i) l =
    omega (arith, earlier_from (k + 1) es (both (leb e k) (earlier (k + 1) es) h).1 i (omega arith))

pub earlier_at : (es : List ℕ) → earlier 0 es ≡ true → (i : ℕ) → i < length es → elder_at es i ≤ i
earlier_at es h i l = omega (arith, earlier_from 0 es h i l)

member_at : (es : List ℕ) (i : ℕ) → i < length es → member (elder_at es i) es ≡ true
member_at [] i l = absurd (omega arith)
member_at (e ∷ es) zero l = rw (eq-eqb e e refl)
member_at (e ∷ es) (suc i) l = rw (member_at es i (omega arith)) (or-true (eqb (elder_at es i) e))

unshared_cons : (e : ℕ) (es : List ℕ) → unshared (e ∷ es) ≡ true → ((eqb e 0 || not (member e es)) ≡ true) × (unshared es ≡ true)
unshared_cons e es = both (eqb e 0 || not (member e es)) (unshared es)

-- the first order's elder is no later order's
first_unshared : (e : ℕ) (es : List ℕ) → unshared (e ∷ es) ≡ true → 1 ≤ e → (i : ℕ) → i < length es → e ≡ elder_at es i → ⊥
first_unshared e es u p i l q =
    let n = not-true (member e es) (rw (ne_eqb e 0 (λ z. omega arith)) at (unshared_cons e es u).0) in
    false≢true (sym n ∙ rw q (member_at es i l))

pub unshared_at : (es : List ℕ) → unshared es ≡ true → (i j : ℕ) → i < length es → j < length es
    → 1 ≤ elder_at es i → elder_at es i ≡ elder_at es j → i ≡ j
unshared_at [] u i j l m p q = absurd (omega arith)
unshared_at (e ∷ es) u zero zero l m p q = refl
unshared_at (e ∷ es) u zero (suc j) l m p q = absurd (first_unshared e es u p j (omega arith) q)
unshared_at (e ∷ es) u (suc i) zero l m p q = absurd (first_unshared e es u (omega arith) i (omega arith) (sym q))
unshared_at (e ∷ es) u (suc i) (suc j) l m p q =
    ap suc (unshared_at es (unshared_cons e es u).1 i j (omega arith) (omega arith) p q)
