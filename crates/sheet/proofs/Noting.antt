-- The younger order of each, noted in one pass over the elders: an order more, and what is noted is that of one more.
use Prim.Native.Nat.{ℕ, zero, suc, ◌+◌, ◌-◌, ◌≤◌, ◌<◌}
use native.Mathlib.Nat.{eq-or-lt_of_le}
use native.Mathlib.Numerals.{add-one}
use native.Mathlib.Omega.{arith}
use mathlib.Core.Path.{◌≡◌, refl, sym, ap, ◌∙◌}
use mathlib.Core.Bool.{Bool, true, false, cond}
use mathlib.Core.List.{List, [], ◌∷◌, ◌++◌}
use mathlib.Core.Logic.{◌⊎◌, inl, inr}
use borrow.Author.Tests.{eqb-false, eqb-true, le-ltb, lt-ltb, ltb-false, ltb-true}
use lib.Dec.{eqb, ltb}
use lib.ListN.{length, drop, drop_of_length-le, get_or, length-append, length-drop, length-set, set}
use lib.Seq.{drop-append-le, get_or-set_other, get_or-set_same}
use Rattle.run.specs.Found.{or_else}
use Rattle.run.proofs.Found.{or_none}
use Rattle.day.specs.Damage.{elders_of}
use Rattle.day.proofs.Listings.{by_test}
use Rattle.slot.specs.Places.{orders_in, slot_at}
use Rattle.std.specs.Prelude.{Some, None}
use Rattle.sheet.specs.Kin.{Kin, Notes, as_noted, younger_of}
use Rattle.sheet.specs.Walk.{elders_in, seek}
use Rattle.sheet.proofs.Seeking.{elder_in, length_elders_in}
use Rattle.sheet.proofs.Turning.{seek_from}

or_first : (x y : ℕ) → 0 < x → or_else x y ≡ x
or_first zero y h = absurd (omega arith)
or_first (suc x) y h = refl

-- ---- one order is noted

module _ (before : List ℕ) (i e : ℕ) (h : i < length before) where
  -- nothing but its own place changes, where its elder is no earlier order, or has one
  pub not_noted : ((j : ℕ) → j < i → e ≡ j + 1 → 0 < get_or before j 0) → Notes i e before (set before i 0)
  not_noted w =
      record {
        long = length-set before i 0;
        own = get_or-set_same before i 0 0 h;
        others = λ j l. get_or-set_other before i j 0 0 (λ q. absurd (omega arith)) ∙ sym (same j l);
      }
    where
      same : (j : ℕ) → j < i → or_else (get_or before j 0) (cond (eqb e (j + 1)) i 0) ≡ get_or before j 0
      same j l =
          by_test (λ (y : ℕ). or_else (get_or before j 0) y ≡ get_or before j 0) (eqb e (j + 1))
          (λ t. or_first (get_or before j 0) i (w j l (eqb-true e (j + 1) t))) (λ t. or_none (get_or before j 0))

  pub is_noted : (k : ℕ) → e ≡ k + 1 → k < i → get_or (set before i 0) k 0 ≡ 0 → Notes i e before (set (set before i 0) k i)
  is_noted k p l q =
      record {
        long = length-set (set before i 0) k i ∙ length-set before i 0;
        own = get_or-set_other (set before i 0) k i i 0 (λ z. absurd (omega arith)) ∙ get_or-set_same before i 0 0 h;
        others = λ j m. at j m;
      }
    where
      clear : (j : ℕ) → j < i → get_or (set before i 0) j 0 ≡ get_or before j 0
      clear j m = get_or-set_other before i j 0 0 (λ z. absurd (omega arith))

      at : (j : ℕ) → j < i → get_or (set (set before i 0) k i) j 0 ≡ or_else (get_or before j 0) (cond (eqb e (j + 1)) i 0)
      at j m = go (eqb e (j + 1)) refl
        where
          go : (t : Bool) → eqb e (j + 1) ≡ t → get_or (set (set before i 0) k i) j 0 ≡ or_else (get_or before j 0) (cond t i 0)
          go true t =
              let same : j ≡ k = omega (arith, eqb-true e (j + 1) t) in
              let none : get_or before j 0 ≡ 0 = sym (clear j m) ∙ ap (λ (y : ℕ). get_or (set before i 0) y 0) same ∙ q in
              let here : get_or (set (set before i 0) k i) j 0 ≡ i =
              ap (λ (y : ℕ). get_or (set (set before i 0) k i) y 0) same
              ∙ get_or-set_same (set before i 0) k i 0 (omega (arith, length-set before i 0)) in
              here ∙ ap (λ (y : ℕ). or_else y i) (sym none)
          go false t =
              get_or-set_other (set before i 0) k j i 0 (λ z. eqb-false e (j + 1) t (omega arith)) ∙ clear j m ∙ sym (or_none (get_or before j 0))

pub has_one : (before : List ℕ) (i e : ℕ) → (get_or (set before i 0) (e - 1) 0 ≡ 0 → ⊥) → (j : ℕ) → j < i → e ≡ j + 1 → 0 < get_or before j 0
has_one before i e f j l q =
    let same : e - 1 ≡ j = omega arith in
    let other : get_or (set before i 0) (e - 1) 0 ≡ get_or before j 0 =
    ap (λ (y : ℕ). get_or (set before i 0) y 0) same ∙ get_or-set_other before i j 0 0 (λ z. absurd (omega arith)) in
    go (get_or before j 0) (λ z. f (other ∙ z))
  where
    go : (x : ℕ) → (x ≡ 0 → ⊥) → 0 < x
    go zero g = absurd (g refl)
    go (suc x) g = omega arith

-- ---- one order more is searched

found_stays : (e j : ℕ) (xs ys : List ℕ) → seek e j xs < j + length xs → seek e j (xs ++ ys) ≡ seek e j xs
found_stays e j [] ys h = absurd (omega arith)
found_stays e j (x ∷ xs) ys h = go (eqb x e) h (λ l. found_stays e (j + 1) xs ys l)
  where
    go : (t : Bool) → cond t j (seek e (j + 1) xs) < j + suc (length xs)
        → (seek e (j + 1) xs < j + 1 + length xs → seek e (j + 1) (xs ++ ys) ≡ seek e (j + 1) xs)
        → cond t j (seek e (j + 1) (xs ++ ys)) ≡ cond t j (seek e (j + 1) xs)
    go true l ih = refl
    go false l ih = ih (omega arith)

none_goes_on : (e j m : ℕ) (xs ys : List ℕ) → m ≡ j + length xs → m ≤ seek e j xs → seek e j (xs ++ ys) ≡ seek e m ys
none_goes_on e j m [] ys q h = let same : j ≡ m = omega arith in rw same
none_goes_on e j m (x ∷ xs) ys q h = go (eqb x e) h (λ l. none_goes_on e (j + 1) m xs ys (omega arith) l)
  where
    go : (t : Bool) → m ≤ cond t j (seek e (j + 1) xs) → (m ≤ seek e (j + 1) xs → seek e (j + 1) (xs ++ ys) ≡ seek e m ys)
        → cond t j (seek e (j + 1) (xs ++ ys)) ≡ seek e m ys
    go true l ih = absurd (omega arith)
    go false l ih = ih l

-- the younger order by what the search found
by_found : (es : List ℕ) (p y : ℕ) → seek (p + 1) (p + 1) (drop (p + 1) es) ≡ y → younger_of es p ≡ cond (ltb y (length es)) y 0
by_found es p y q = rw q (go (ltb y (length es)))
  where
    go : (t : Bool) → as_noted (cond t (Some y) None) ≡ cond t y 0
    go true = refl
    go false = refl

younger_more : (es : List ℕ) (e p : ℕ) → p < length es
    → younger_of (es ++ (e ∷ [])) p ≡ or_else (younger_of es p) (cond (eqb e (p + 1)) (length es) 0)
younger_more es e p h =
    let y = seek (p + 1) (p + 1) (drop (p + 1) es) in
    go (ltb y (length es)) refl ∙ ap (λ (k : ℕ). or_else k (cond (eqb e (p + 1)) (length es) 0)) (sym (by_found es p y refl))
  where
    long : length (es ++ (e ∷ [])) ≡ length es + 1
    long = length-append es (e ∷ [])

    cut : drop (p + 1) (es ++ (e ∷ [])) ≡ drop (p + 1) es ++ (e ∷ [])
    cut = drop-append-le (p + 1) es (e ∷ []) (omega arith)

    last : (t : Bool) → cond (ltb (cond t (length es) (length es + 1)) (length es + 1)) (cond t (length es) (length es + 1)) 0 ≡ cond t (length es) 0
    last true = rw (lt-ltb (length es) (length es + 1) (omega arith))
    last false = rw (le-ltb (length es + 1) (length es + 1) (omega arith))

    go : (t : Bool) → ltb (seek (p + 1) (p + 1) (drop (p + 1) es)) (length es) ≡ t
        → younger_of (es ++ (e ∷ [])) p ≡ or_else (cond t (seek (p + 1) (p + 1) (drop (p + 1) es)) 0) (cond (eqb e (p + 1)) (length es) 0)
    go true q =
        let y = seek (p + 1) (p + 1) (drop (p + 1) es) in
        let l : y < length es = ltb-true y (length es) q in
        let same = found_stays (p + 1) (p + 1) (drop (p + 1) es) (e ∷ []) (omega (arith, length-drop (p + 1) es)) in
        let more : 0 < y = omega (arith, seek_from (p + 1) (p + 1) (drop (p + 1) es)) in
        by_found (es ++ (e ∷ [])) p y (rw cut same) ∙ rw (lt-ltb y (length (es ++ (e ∷ []))) (omega (arith, long)))
        (sym (or_first y (cond (eqb e (p + 1)) (length es) 0) more))
    go false q =
        let y = seek (p + 1) (p + 1) (drop (p + 1) es) in
        let l : length es ≤ y = ltb-false y (length es) q in
        let same = none_goes_on (p + 1) (p + 1) (length es) (drop (p + 1) es) (e ∷ []) (omega (arith, length-drop (p + 1) es)) l in
        by_found (es ++ (e ∷ [])) p (cond (eqb e (p + 1)) (length es) (length es + 1)) (rw cut same) ∙ rw long (last (eqb e (p + 1)))

elders_more : (k n p : ℕ) (s : List ℕ) → p ≡ k + n → elders_of (orders_in k (suc n) s) ≡ elders_of (orders_in k n s) ++ (elder_in s p ∷ [])
elders_more k zero p s q = let same : p ≡ k = omega arith in rw same
elders_more k (suc n) p s q = ap (λ (l : List ℕ). elder_in s k ∷ l) (elders_more (k + 1) n p s (omega arith))

-- ---- what is noted of the first orders

pub kin_none : {s kin : List ℕ} → slot_at 0 ≤ length s → Kin 0 s kin
kin_none l = record { slots = l; long = omega arith; each = λ i h. absurd (omega arith) }

pub kin_more : {s kin after : List ℕ} {i v : ℕ} → Kin i s kin → slot_at (i + 1) ≤ length s → i < length kin → v ≡ elder_in s i → Notes i v kin after
    → Kin (i + 1) s after
kin_more {s} {kin} {after} {i} {v} k r h q w = record { slots = r; long = omega (arith, w.long); each = λ p l. go p (eq-or-lt_of_le l) }
  where
    more : elders_in (i + 1) s ≡ elders_in i s ++ (v ∷ [])
    more = rw (add-one, q) (elders_more 0 i i s (omega arith))

    own : younger_of (elders_in (i + 1) s) i ≡ 0
    own =
        let long = length_elders_in (i + 1) s in
        let none : drop (i + 1) (elders_in (i + 1) s) ≡ [] = drop_of_length-le (elders_in (i + 1) s) {i = i + 1} (omega arith) in
        by_found (elders_in (i + 1) s) i (i + 1) (rw none) ∙ rw (le-ltb (i + 1) (length (elders_in (i + 1) s)) (omega arith))

    go : (p : ℕ) → (suc p ≡ i + 1) ⊎ (suc p < i + 1) → get_or after p 0 ≡ younger_of (elders_in (i + 1) s) p
    go p (inl m) = let e : p ≡ i = omega arith in rw e (w.own ∙ sym own)
    go p (inr m) =
        let l : p < i = omega arith in
        let long = length_elders_in i s in
        w.others p l ∙ ap (λ (y : ℕ). or_else y (cond (eqb v (p + 1)) i 0)) (k.each p l)
        ∙ ap (λ (y : ℕ). or_else (younger_of (elders_in i s) p) (cond (eqb v (p + 1)) y 0)) (sym long)
        ∙ sym (younger_more (elders_in i s) v p (omega arith))
        ∙ ap (λ (l : List ℕ). younger_of l p) (sym more)

pub kin_all : {s kin : List ℕ} {i n : ℕ} → Kin i s kin → i ≡ n → Kin n s kin
kin_all {s} {kin} k e = rw e at k
