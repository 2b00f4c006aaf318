-- The listing that is made is one as described, and the description fixes it.
use Prim.Native.Nat.{ℕ, zero, suc, ◌+◌, ◌≤◌, ◌<◌}
use native.Mathlib.Nat.{eq-or-lt_of_le}
use native.Mathlib.Numerals.{add-one}
use native.Mathlib.Omega.{arith}
use mathlib.Core.Path.{◌≡◌, refl, sym, ap, ap₂, ◌∙◌}
use mathlib.Core.Logic.{◌⊎◌, inl, inr}
use mathlib.Core.Bool.{Bool, true, false, cond}
use mathlib.Core.List.{List, [], ◌∷◌, ◌++◌}
use borrow.Author.Tests.{eqb-true, eqb-false}
use lib.Dec.{eqb}
use lib.ListN.{length, drop, length-drop}
use lib.Seq.{drop-cons}
use Rattle.day.specs.Damage.{earlier, unshared}
use Rattle.day.specs.Listing.{Member, elder_at, Youngest, NextRoot, NoRoot, Behind, Listed}
use Rattle.day.specs.Walk.{member, below, families}
use Rattle.day.proofs.Elders.{earlier_at, unshared_at}

-- what holds whichever way a test goes
pub by_test : {A : Type 0} (P : A → Type 0) (t : Bool) {x y : A} → (t ≡ true → P x) → (t ≡ false → P y) → P (cond t x y)
by_test P true f g = f refl
by_test P false f g = g refl

-- what holds of each place before j, and of j, holds of each before j + 1
one_more : (P : ℕ → Type 0) (j : ℕ) → ((p : ℕ) → p < j → P p) → P j → (p : ℕ) → p < j + 1 → P p
one_more P j h x p l = go (eq-or-lt_of_le l)
  where
    go : (suc p ≡ j + 1) ⊎ (suc p < j + 1) → P p
    go (inl q) = let e : p ≡ j = omega arith in rw e x
    go (inr m) = h p (omega arith)

-- ---- what is left of the elders from place j on

record Cut (es : List ℕ) (j x : ℕ) (s : List ℕ) : Type 0 where
  inside : j < length es
  here : elder_at es j ≡ x
  next : drop (j + 1) es ≡ s

cut : (es : List ℕ) (j x : ℕ) (s : List ℕ) → drop j es ≡ x ∷ s → Cut es j x s
cut es j x s e =
    let l : j < length es = omega (arith, simp length-drop at (ap length e)) in
    let d = drop-cons es j 0 l in
    record { inside = l; here = cc; next = rw add-one (cc) }

at_end : (es : List ℕ) (j : ℕ) → drop j es ≡ [] → length es ≤ j
at_end es j e = omega (arith, simp length-drop at (ap length e))

-- ---- the listing that is made is one as described

-- nobody before place j replaced the order at i
abbrev Unreplaced : List ℕ → ℕ → ℕ → Type 0
Unreplaced es i j = (p : ℕ) → p < j → elder_at es p ≡ i + 1 → ⊥

-- a member in front of all others, of an order that there is not
abbrev pub front : List ℕ → Member
front es = member 0 0 (length es)

module _ (es : List ℕ) (ordered : earlier 0 es ≡ true) where
  younger_later : (i : ℕ) → i < length es → Unreplaced es i (i + 1)
  younger_later i l p m q = omega (arith, earlier_at es ordered p (omega arith))

  -- down a family to its youngest order, and over to the rest
  members : (b f k i j : ℕ) (s : List ℕ) (rest : List Member) → drop j es ≡ s → Unreplaced es i j
      → ((r : Member) → r.family ≡ f → Youngest es r.at → Behind es b r rest) → Behind es b (member f k i) (below f k i j s ++ rest)
  members b f k i j [] rest e h over = over (member f k i) refl (λ p l. h p (omega (arith, at_end es j e)))
  members b f k i j (x ∷ s) rest e h over =
      let c = cut es j x s e in
      let found = members b f (k + 1) j (j + 1) s rest c.next (younger_later j c.inside) over in
      let passed = one_more (λ (p : ℕ). elder_at es p ≡ i + 1 → ⊥) j h in
      by_test (λ (l : List Member). Behind es b (member f k i) (l ++ rest)) (eqb x (i + 1))
      (λ t. inl (c.here ∙ eqb-true x (i + 1) t, c.inside, refl, refl, found))
      (λ t. members b f k i (j + 1) s rest c.next (passed (λ q. eqb-false x (i + 1) t (sym c.here ∙ q))) over)

  -- over to the next family, where none from place b up to i has no elder
  onward : (b f i : ℕ) (s : List ℕ) → drop i es ≡ s → b ≤ i → ((p : ℕ) → p < i → b ≤ p → elder_at es p ≡ 0 → ⊥)
      → (r : Member) → r.family + 1 ≡ f → Youngest es r.at → Behind es b r (families f i s)
  onward b f i [] e m h r n y = (y, λ p a l. h p (omega (arith, at_end es i e)) a)
  onward b f i (zero ∷ s) e m h r n y =
      let c = cut es i 0 s e in
      let root : NextRoot es b i = record { inside = c.inside; from = m; rootless = c.here; first = λ p a l. h p l a } in
      let over = onward (i + 1) (f + 1) (i + 1) s c.next (omega arith) (λ p l a. absurd (omega arith)) in
      let down = members (i + 1) f 1 i (i + 1) s (families (f + 1) (i + 1) s) c.next (younger_later i c.inside) in
      inr (y, root, sym n, refl, down (λ q g z. over q (omega arith) z))
  onward b f i (suc x ∷ s) e m h r n y =
      let c = cut es i (suc x) s e in
      let passed = one_more (λ (p : ℕ). b ≤ p → elder_at es p ≡ 0 → ⊥) i h (λ a q. omega (arith, c.here)) in
      onward b f (i + 1) s c.next (omega arith) passed r n y

  pub walked : Behind es 0 (front es) (families 1 0 es)
  walked =
      let youngest : Youngest es (length es) = λ p l q. omega (arith, earlier_at es ordered p l) in
      onward 0 1 0 es refl (omega arith) (λ p l. absurd (omega arith)) (front es) refl youngest

  started : (rows : List Member) → Behind es 0 (front es) rows → Listed es rows
  started [] h = h.1
  started (q ∷ rows) (inl h) = absurd (omega (arith, earlier_at es ordered q.at h.1))
  started (q ∷ rows) (inr h) = (h.1, h.2, h.3, h.4)

  pub listed : Listed es (families 1 0 es)
  listed = started (families 1 0 es) walked

-- ---- the description fixes the listing

same_row : (q p : Member) → q.family ≡ p.family → q.rank ≡ p.rank → q.at ≡ p.at → q ≡ p
same_row q p f k a = λ i. record { family = f i; rank = k i; at = a i }

module _ (es : List ℕ) where
  one_root : (b i j : ℕ) → NextRoot es b i → NextRoot es b j → i ≡ j
  one_root b i j x y =
      let p : ¬ (i < j) = λ l. y.first i x.from l x.rootless in
      let q : ¬ (j < i) = λ l. x.first j y.from l y.rootless in
      omega arith

  root_or_none : (b i : ℕ) → NextRoot es b i → NoRoot es b → ⊥
  root_or_none b i x n = n i x.from x.inside x.rootless

  more_or_none : (b : ℕ) (r q : Member) (rows : List Member) → Behind es b r (q ∷ rows) → Behind es b r [] → ⊥
  more_or_none b r q rows (inl h) k = k.0 q.at h.1 h.0
  more_or_none b r q rows (inr h) k = root_or_none b q.at h.1 k.1

module _ (es : List ℕ) (single : unshared es ≡ true) where
  behind_fixed : (b : ℕ) (r : Member) (x y : List Member) → Behind es b r x → Behind es b r y → x ≡ y
  behind_fixed b r [] [] h k = refl
  behind_fixed b r [] (p ∷ y) h k = absurd (more_or_none es b r p y k h)
  behind_fixed b r (q ∷ x) [] h k = absurd (more_or_none es b r q x h k)
  behind_fixed b r (q ∷ x) (p ∷ y) (inl h) (inl k) =
      let a = unshared_at es single q.at p.at h.1 k.1 (omega (arith, h.0)) (h.0 ∙ sym k.0) in
      let e = same_row q p (h.2 ∙ sym k.2) (h.3 ∙ sym k.3) a in
      ap₂ ◌∷◌ e (behind_fixed b q x y h.4 (rw (← e) at k.4))
  behind_fixed b r (q ∷ x) (p ∷ y) (inl h) (inr k) = absurd (k.0 q.at h.1 h.0)
  behind_fixed b r (q ∷ x) (p ∷ y) (inr h) (inl k) = absurd (h.0 p.at k.1 k.0)
  behind_fixed b r (q ∷ x) (p ∷ y) (inr h) (inr k) =
      let e = same_row q p (h.2 ∙ sym k.2) (h.3 ∙ sym k.3) (one_root es b q.at p.at h.1 k.1) in
      ap₂ ◌∷◌ e (behind_fixed (q.at + 1) q x y h.4 (rw (← e) at k.4))

  pub listing_fixed : (a b : List Member) → Listed es a → Listed es b → a ≡ b
  listing_fixed [] [] h k = refl
  listing_fixed [] (p ∷ y) h k = absurd (root_or_none es 0 p.at k.0 h)
  listing_fixed (q ∷ x) [] h k = absurd (root_or_none es 0 q.at h.0 k)
  listing_fixed (q ∷ x) (p ∷ y) h k =
      let e = same_row q p (h.1 ∙ sym k.1) (h.2 ∙ sym k.2) (one_root es 0 q.at p.at h.0 k.0) in
      ap₂ ◌∷◌ e (behind_fixed (q.at + 1) q x y h.3 (rw (← e) at k.3))
