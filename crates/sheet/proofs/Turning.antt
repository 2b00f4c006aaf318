-- From one member of the listing to the next: those behind a member begin with the order that is found, or there is none.
use Prim.Native.Nat.{ℕ, zero, suc, ◌+◌, ◌≤◌, ◌<◌}
use native.Mathlib.Numerals.{add-one}
use native.Mathlib.Omega.{arith}
use mathlib.Core.Path.{◌≡◌, refl, sym, ap, ◌∙◌}
use mathlib.Core.Bool.{Bool, true, false, cond}
use mathlib.Core.List.{List, [], ◌∷◌, ◌++◌}
use borrow.Author.Tests.{lt-ltb, le-ltb, ltb-false, ltb-true}
use Rattle.std.specs.Prelude.{Option, Some, None}
use lib.Dec.{ltb, eqb, eqb-suc-zero}
use lib.ListN.{length, drop, length-drop}
use lib.Seq.{drop-cons, drop-nil}
use Rattle.day.specs.Listing.{Member}
use Rattle.day.specs.Walk.{member, below, families}
use Rattle.day.proofs.Listings.{by_test}
use Rattle.sheet.specs.Kin.{as_noted, younger_of, younger_order}
use Rattle.sheet.specs.Walk.{Stands, families_from, found_before, members_behind, members_from, seek}
use Rattle.sheet.specs.declared.Turn.{Turn}

-- what is found lies behind the place where the search began, or there
pub seek_from : (e j : ℕ) (s : List ℕ) → j ≤ seek e j s
seek_from e j [] = omega arith
seek_from e j (x ∷ s) = by_test (λ (r : ℕ). j ≤ r) (eqb x e) (λ t. omega arith) (λ t. omega (arith, seek_from e (j + 1) s))

-- ---- what is found before a place

pub found_some : {n y z : ℕ} → Some z ≡ found_before n y → (z ≡ y) × (y < n)
found_some {n} {y} {z} e = go (ltb y n) refl e
  where
    go : (t : Bool) → ltb y n ≡ t → Some z ≡ cond t (Some y) None → (z ≡ y) × (y < n)
    go true l q = (cc, ltb-true y n l)
    go false l q = cc

pub found_none : {n y : ℕ} → None ≡ found_before n y → n ≤ y
found_none {n} {y} e = go (ltb y n) refl e
  where
    go : (t : Bool) → ltb y n ≡ t → None ≡ cond t (Some y) None → n ≤ y
    go true l q = cc
    go false l q = ltb-false y n l

-- ---- the members of a list of elders

-- what is left of it, one place on
rest : (es : List ℕ) (j x : ℕ) (s : List ℕ) → drop j es ≡ x ∷ s → (j < length es) × (drop (j + 1) es ≡ s)
rest es j x s e =
    let l : j < length es = omega (arith, simp length-drop at (ap length e)) in
    let d = drop-cons es j 0 l in
    (l, rw add-one (cc))

none_left : (es : List ℕ) (j : ℕ) → drop j es ≡ [] → ltb j (length es) ≡ false
none_left es j e = le-ltb j (length es) (omega (arith, simp length-drop at (ap length e)))

-- the members of a family from the one at place y on
abbrev down_from : List ℕ → ℕ → ℕ → ℕ → List Member
down_from es f k y = cond (ltb y (length es)) (member f k y ∷ below f k y (y + 1) (drop (y + 1) es)) []

down : (es : List ℕ) (f k i j : ℕ) (s : List ℕ) → drop j es ≡ s → down_from es f (k + 1) (seek (i + 1) j s) ≡ below f k i j s
down es f k i j [] e = rw (none_left es j e)
down es f k i j (x ∷ s) e =
    let (l, q) = rest es j x s e in
    let here : down_from es f (k + 1) j ≡ member f (k + 1) j ∷ below f (k + 1) j (j + 1) s = rw (lt-ltb j (length es) l, q) in
    go (eqb x (i + 1)) (seek (i + 1) (j + 1) s) here (down es f k i (j + 1) s q)
  where
    go : (t : Bool) (y : ℕ) {a b : List Member} → down_from es f (k + 1) j ≡ a → down_from es f (k + 1) y ≡ b
        → down_from es f (k + 1) (cond t j y) ≡ cond t a b
    go true y p q = p
    go false y p q = q

abbrev pub turn : ℕ → ℕ → ℕ → ℕ → Turn
turn b i f k = record { root = b; place = i; family = f; rank = k }

-- the members from a turn on, if it is one among them
abbrev from_turn : List ℕ → Turn → List Member
from_turn es x = cond (ltb x.place (length es)) (members_from es x) []

over : (es : List ℕ) (f i : ℕ) (s : List ℕ) → drop i es ≡ s → from_turn es (turn (seek 0 i s) (seek 0 i s) f 1) ≡ families f i s
over es f i [] e = rw (none_left es i e)
over es f i (zero ∷ s) e = let (l, q) = rest es i 0 s e in rw (lt-ltb i (length es) l, q)
over es f i (suc x ∷ s) e = rw eqb-suc-zero (over es f (i + 1) s (rest es i (suc x) s e).1)

-- ---- the members from a place on, by the first order of a family that is found there

module _ (es : List ℕ) (n : ℕ) (e : length es ≡ n) where
  module _ (f i : ℕ) where
    pub family_members : {r : ℕ} → Some r ≡ found_before n (seek 0 i (drop i es)) → members_from es (turn r r f 1) ≡ families_from es i f
    family_members {r} q =
        let (p, h) = found_some q in
        rw p (rw (lt-ltb (seek 0 i (drop i es)) (length es) (omega arith)) at (over es f i (drop i es) refl))

    pub family_none : None ≡ found_before n (seek 0 i (drop i es)) → [] ≡ families_from es i f
    family_none q = rw (le-ltb (seek 0 i (drop i es)) (length es) (omega (arith, found_none q))) at (over es f i (drop i es) refl)

    pub first_stands : {r : ℕ} → Some r ≡ found_before n (seek 0 i (drop i es)) → f ≤ i + 1 → Stands n (turn r r f 1)
    first_stands {r} q g =
        let (p, h) = found_some q in
        let l : i ≤ r = rw p (seek_from 0 i (drop i es)) in
        record { inside = omega arith; below_root = omega arith; numbered = omega arith; ranked = omega arith }

  -- ---- the members behind a member, by its younger order

  module _ (x : Turn) where
    abbrev found : ℕ
    found = seek (x.place + 1) (x.place + 1) (drop (x.place + 1) es)

    pub younger_members : {y : ℕ} → Some y ≡ younger_order es x.place → members_from es (turn x.root y x.family (x.rank + 1)) ≡ members_behind es x
    younger_members {y} q =
        let (p, h) = found_some q in
        let rows : member x.family (x.rank + 1) y ∷ below x.family (x.rank + 1) y (y + 1) (drop (y + 1) es)
        ≡ below x.family x.rank x.place (x.place + 1) (drop (x.place + 1) es) =
        rw p (rw (lt-ltb found (length es) h) at (down es x.family x.rank x.place (x.place + 1) (drop (x.place + 1) es) refl)) in
        ap (λ (l : List Member). l ++ families_from es (x.root + 1) (x.family + 1)) rows

    pub last_members : None ≡ younger_order es x.place → families_from es (x.root + 1) (x.family + 1) ≡ members_behind es x
    last_members q =
        ap (λ (l : List Member). l ++ families_from es (x.root + 1) (x.family + 1))
        (rw (le-ltb found (length es) (found_none q)) at (down es x.family x.rank x.place (x.place + 1) (drop (x.place + 1) es) refl))

    pub younger_stands : {y : ℕ} → Some y ≡ younger_order es x.place → Stands n x → Stands n (turn x.root y x.family (x.rank + 1))
    younger_stands {y} q w =
        let (p, h) = found_some q in
        let one_on : x.place + 1 ≤ y = rw p (seek_from (x.place + 1) (x.place + 1) (drop (x.place + 1) es)) in
        record { inside = omega arith; below_root = omega (arith, w.below_root); numbered = w.numbered; ranked = omega (arith, w.ranked) }

-- ---- the younger order as it is noted

noted_one : (o : Option ℕ) {y : ℕ} → y ≡ as_noted o → (y ≡ 0 → ⊥) → Some y ≡ o
noted_one None q d = absurd (d q)
noted_one (Some z) q d = cc

pub younger_noted : (es : List ℕ) (i : ℕ) {y : ℕ} → y ≡ younger_of es i → (y ≡ 0 → ⊥) → Some y ≡ younger_order es i
younger_noted es i q d = noted_one (younger_order es i) q d

pub none_noted : (es : List ℕ) (i : ℕ) → 0 ≡ younger_of es i → None ≡ younger_order es i
none_noted es i q = go (younger_order es i) refl q
  where
    go : (o : Option ℕ) → younger_order es i ≡ o → 0 ≡ as_noted o → None ≡ o
    go None p z = refl
    go (Some y) p z =
        let (same, h) = found_some (sym p) in
        absurd (omega (arith, seek_from (i + 1) (i + 1) (drop (i + 1) es)))

-- ---- members passed over

-- so many are still to be passed over from a turn on
pub record Skipping (es : List ℕ) (n count left : ℕ) (x : Turn) : Type 0 where
  pub same : drop left (members_from es x) ≡ drop count (families 1 0 es)
  pub stands : Stands n x

pub skipping_first : {es : List ℕ} {n count left : ℕ} {x : Turn} → left ≡ count → members_from es x ≡ families 1 0 es → Stands n x → Skipping es n count left x
skipping_first {count} e h w = record { same = rw e (ap (drop count) h); stands = w }

module _ {es : List ℕ} {n count left : ℕ} {x : Turn} (p : Skipping es n count left x) where
  pub skipped_all : left ≡ 0 → members_from es x ≡ drop count (families 1 0 es)
  skipped_all e = rw e at p.same

  one_less : {rest : List Member} (m : ℕ) → left ≡ suc m → rest ≡ members_behind es x → drop m rest ≡ drop count (families 1 0 es)
  one_less m q e = ap (drop m) e ∙ (rw q at p.same)

  pub skipped_past : (m : ℕ) → left ≡ suc m → [] ≡ members_behind es x → [] ≡ drop count (families 1 0 es)
  skipped_past m q e = sym (drop-nil m) ∙ one_less m q e

  pub skipping_on : (m : ℕ) {y : Turn} → left ≡ suc m → members_from es y ≡ members_behind es x → Stands n y → Skipping es n count m y
  skipping_on m q e w = record { same = one_less m q e; stands = w }
