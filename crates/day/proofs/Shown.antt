-- The listing shows every order in one row, and no other.
use Prim.Native.Nat.{ℕ, zero, suc, ◌+◌, ◌≤◌, ◌<◌}
use native.Mathlib.Nat.{eq-or-lt_of_le}
use native.Mathlib.Omega.{arith}
use mathlib.Core.Path.{◌≡◌, refl, sym, ap, ◌∙◌}
use mathlib.Core.Logic.{◌⊎◌, inl, inr}
use mathlib.Core.Bool.{true}
use mathlib.Core.List.{List, [], ◌∷◌, ◌++◌}
use borrow.Author.Tests.{eq-eqb, ne_eqb}
use lib.Dec.{eqb}
use lib.ListN.{length}
use Rattle.day.specs.Damage.{earlier, unshared}
use Rattle.day.specs.Listing.{Member, elder_at, Behind, shown}
use Rattle.day.specs.Walk.{below, families}
use Rattle.run.proofs.Tests.{same_test}
use Rattle.day.proofs.Elders.{earlier_at, unshared_at}
use Rattle.day.proofs.Listings.{by_test, front, walked}

-- ---- no other, whatever the elders are

-- each member is one of the first n orders
abbrev pub Inside : ℕ → List Member → Type 0
Inside n [] = Unit {0}
Inside n (q ∷ rows) = (q.at < n) × Inside n rows

members_inside : (n f k i j : ℕ) (s : List ℕ) (rest : List Member) → j + length s ≤ n → Inside n rest → Inside n (below f k i j s ++ rest)
members_inside n f k i j [] rest h o = o
members_inside n f k i j (x ∷ s) rest h o =
    by_test (λ (l : List Member). Inside n (l ++ rest)) (eqb x (i + 1))
    (λ t. (omega arith, members_inside n f (k + 1) j (j + 1) s rest (omega arith) o))
    (λ t. members_inside n f k i (j + 1) s rest (omega arith) o)

pub families_inside : (n f i : ℕ) (s : List ℕ) → i + length s ≤ n → Inside n (families f i s)
families_inside n f i [] h = tt
families_inside n f i (zero ∷ s) h =
    let o = families_inside n (f + 1) (i + 1) s (omega arith) in
    (omega arith, members_inside n f 1 i (i + 1) s (families (f + 1) (i + 1) s) (omega arith) o)
families_inside n f i (suc x ∷ s) h = families_inside n f (i + 1) s (omega arith)

inside_shown : (n i : ℕ) (rows : List Member) → n ≤ i → Inside n rows → shown i rows ≡ 0
inside_shown n i [] l h = refl
inside_shown n i (q ∷ rows) l h = rw (ne_eqb q.at i (λ e. omega arith)) (inside_shown n i rows l h.1)

pub no_other : (es : List ℕ) (i : ℕ) → length es ≤ i → shown i (families 1 0 es) ≡ 0
no_other es i l = inside_shown (length es) i (families 1 0 es) l (families_inside (length es) 1 0 es (omega arith))

-- ---- an order without an elder stands in one row

module _ (es : List ℕ) (m : ℕ) (rootless : elder_at es m ≡ 0) where
  -- its family stands before
  root_past : (b : ℕ) (r : Member) (rows : List Member) → m < b → Behind es b r rows → shown m rows ≡ 0
  root_past b r [] l h = refl
  root_past b r (q ∷ rows) l (inl h) = rw (ne_eqb q.at m (λ e. omega (arith, rw e at h.0))) (root_past b q rows l h.4)
  root_past b r (q ∷ rows) l (inr h) =
      rw (ne_eqb q.at m (λ e. omega (arith, h.1.from))) (root_past (q.at + 1) q rows (omega (arith, h.1.from)) h.4)

  -- its family is yet to come
  root_shown : (b : ℕ) (r : Member) (rows : List Member) → m < length es → b ≤ m → Behind es b r rows → shown m rows ≡ 1
  root_shown b r [] l a h = absurd (h.1 m a l rootless)
  root_shown b r (q ∷ rows) l a (inl h) = rw (ne_eqb q.at m (λ e. omega (arith, rw e at h.0))) (root_shown b q rows l a h.4)
  root_shown b r (q ∷ rows) l a (inr h) =
      let n : ¬ (m < q.at) = λ o. h.1.first m a o rootless in
      go (eq-or-lt_of_le (omega arith)) (λ o. root_shown (q.at + 1) q rows l o h.4)
    where
      go : (q.at ≡ m) ⊎ (q.at < m) → (q.at + 1 ≤ m → shown m rows ≡ 1) → shown m (q ∷ rows) ≡ 1
      go (inl e) ih = rw (eq-eqb q.at m e) (ap (λ (n : ℕ). n + 1) (root_past (q.at + 1) q rows (omega arith) h.4))
      go (inr o) ih = rw (ne_eqb q.at m (λ e. omega arith)) (ih (omega arith))

-- ---- an order with an elder stands in as many rows as its elder, each time right behind it

child_shown : (es : List ℕ) → unshared es ≡ true → (m e : ℕ) → m < length es → elder_at es m ≡ e + 1
    → (b : ℕ) (r : Member) (rows : List Member) → Behind es b r rows → shown m rows ≡ shown e (r ∷ rows)
child_shown es u m e l c b r [] h = rw (ne_eqb r.at e (λ x. h.0 m l (omega arith)))
child_shown es u m e l c b r (q ∷ rows) (inl h) =
    let up : q.at ≡ m → r.at ≡ e = λ x. omega (arith, rw x at h.0) in
    let down : r.at ≡ e → q.at ≡ m = λ x. unshared_at es u q.at m h.1 l (omega (arith, h.0)) (omega (arith, h.0)) in
    rw (same_test q.at m r.at e up down, child_shown es u m e l c b q rows h.4)
child_shown es u m e l c b r (q ∷ rows) (inr h) =
    rw (
      ne_eqb q.at m (λ x. omega (arith, rw x at h.1.rootless)),
      ne_eqb r.at e (λ x. h.0 m l (omega arith)),
      child_shown es u m e l c (q.at + 1) q rows h.4,
    )

module _ (es : List ℕ) (h : earlier 0 es ≡ true) (u : unshared es ≡ true) where
  -- by its elder, and so by an earlier order
  once_before : (n i : ℕ) → i < n → i < length es → shown i (families 1 0 es) ≡ 1
  once_before zero i o l = absurd (omega arith)
  once_before (suc n) i o l = go (elder_at es i) refl (once_before n)
    where
      go : (e : ℕ) → elder_at es i ≡ e → ((a : ℕ) → a < n → a < length es → shown a (families 1 0 es) ≡ 1) → shown i (families 1 0 es) ≡ 1
      go zero q ih = root_shown es i q 0 (front es) (families 1 0 es) l (omega arith) (walked es h)
      go (suc e) q ih =
          let older : e < i = omega (arith, earlier_at es h i l) in
          child_shown es u i e l (omega arith) 0 (front es) (families 1 0 es) (walked es h)
          ∙ rw (ne_eqb (length es) e (λ x. omega arith)) (ih e (omega arith) (omega arith))

  pub each_once : (i : ℕ) → i < length es → shown i (families 1 0 es) ≡ 1
  each_once i l = once_before (length es) i l l

-- ---- so there are as many rows as orders

-- in how many rows the first n orders stand
abbrev tally : ℕ → List Member → ℕ
tally zero rows = 0
tally (suc n) rows = tally n rows + shown n rows

tally_none : (n : ℕ) → tally n [] ≡ 0
tally_none zero = refl
tally_none (suc n) = omega (arith, tally_none n)

tally_past : (n : ℕ) (q : Member) (rows : List Member) → n ≤ q.at → tally n (q ∷ rows) ≡ tally n rows
tally_past zero q rows l = refl
tally_past (suc n) q rows l = rw (ne_eqb q.at n (λ e. omega arith), tally_past n q rows (omega arith))

tally_more : (n : ℕ) (q : Member) (rows : List Member) → q.at < n → tally n (q ∷ rows) ≡ tally n rows + 1
tally_more zero q rows l = absurd (omega arith)
tally_more (suc n) q rows l = go (eq-or-lt_of_le l) (tally_more n q rows)
  where
    go : (suc q.at ≡ suc n) ⊎ (suc q.at < suc n) → (q.at < n → tally n (q ∷ rows) ≡ tally n rows + 1)
        → tally (suc n) (q ∷ rows) ≡ tally (suc n) rows + 1
    go (inl e) ih = rw (eq-eqb q.at n (omega arith)) (omega (arith, tally_past n q rows (omega arith)))
    go (inr o) ih = rw (ne_eqb q.at n (λ e. omega arith)) (omega (arith, ih (omega arith)))

tally_inside : (n : ℕ) (rows : List Member) → Inside n rows → tally n rows ≡ length rows
tally_inside n [] h = tally_none n
tally_inside n (q ∷ rows) h = omega (arith, tally_more n q rows h.0, tally_inside n rows h.1)

tally_once : (n : ℕ) (rows : List Member) → ((i : ℕ) → i < n → shown i rows ≡ 1) → tally n rows ≡ n
tally_once zero rows h = refl
tally_once (suc n) rows h = omega (arith, h n (omega arith), tally_once n rows (λ i l. h i (omega arith)))

pub rows_counted : (es : List ℕ) → earlier 0 es ≡ true → unshared es ≡ true → length (families 1 0 es) ≡ length es
rows_counted es h u =
    sym (tally_inside (length es) (families 1 0 es) (families_inside (length es) 1 0 es (omega arith)))
    ∙ tally_once (length es) (families 1 0 es) (each_once es h u)
