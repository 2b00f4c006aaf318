-- A list of orders after one of them is changed by its key, and after one is put behind it: what the tests of damage then say.
use Prim.Native.Nat.{ℕ, zero, suc, ◌+◌, ◌-◌, ◌≤◌, ◌<◌}
use native.Mathlib.Omega.{arith}
use mathlib.Core.Path.{◌≡◌, refl, sym, ap, ◌∙◌}
use mathlib.Core.Bool.{Bool, true, false, cond, not, ◌||◌, false≢true, or-true, or-false}
use mathlib.Core.List.{List, [], ◌∷◌, ◌++◌, map}
use borrow.Author.Tests.{leb-true, le-leb, eqb-true, eq-eqb, eqb-false, ne_eqb, not-true}
use lib.Dec.{leb, eqb, eqb-suc-zero}
use lib.ListN.{length, length-map}
use Rattle.run.specs.Runs.{member}
use Rattle.order.specs.Names.{same_key}
use Rattle.order.specs.declared.Key.{Key}
use Rattle.order.specs.declared.Order.{Order}
use Rattle.day.specs.Damage.{all_sound, elders_of, earlier, unshared, open_at, closed}
use Rattle.order.specs.Stored.{sound_order}
use Rattle.day.specs.Machine.{found, find, is_found, place, amend}
use Rattle.run.proofs.All.{member_append}
use Rattle.run.proofs.Tests.{both, neither}

-- ---- the earliest order with a key

-- o is the earliest one with k
pub data Finds (k : Key) : List Order → Order → Type 0 where
  here : {o : Order} {os : List Order} → same_key o.key k ≡ true → Finds k (o ∷ os) o
  later : {o x : Order} {os : List Order} → same_key x.key k ≡ false → Finds k os o → Finds k (x ∷ os) o

pub finds : (k : Key) (os : List Order) → is_found (find k os) ≡ true → (o : Order) × Finds k os o
finds k [] e = absurd (false≢true e)
finds k (x ∷ os) e = go (same_key x.key k) refl e (finds k os)
  where
    go : (t : Bool) → same_key x.key k ≡ t → is_found (cond t (found x) (find k os)) ≡ true
        → (is_found (find k os) ≡ true → (o : Order) × Finds k os o) → (o : Order) × Finds k (x ∷ os) o
    go true s e ih = (x, here s)
    go false s e ih = let h = ih e in (h.0, later s h.1)

pub finds_found : {k : Key} {os : List Order} {o : Order} → Finds k os o → find k os ≡ found o
finds_found (here s) = rw s
finds_found (later s h) = rw s (finds_found h)

pub finds_sound : {k : Key} {os : List Order} {o : Order} → Finds k os o → all_sound os ≡ true → sound_order o ≡ true
finds_sound (here {o = o} {os = os} s) e = (both (sound_order o) (all_sound os) e).0
finds_sound (later {x = x} {os = os} s h) e = finds_sound h (both (sound_order x) (all_sound os) e).1

-- ---- that order is changed

module _ (k : Key) (f : Order → Order) where
  -- what f keeps of every order, the list keeps
  pub map_amend : {A : Type 0} (g : Order → A) → ((o : Order) → g (f o) ≡ g o) → (os : List Order) → map g (amend k f os) ≡ map g os
  map_amend {A} g e [] = refl
  map_amend {A} g e (o ∷ os) = go (same_key o.key k) (map_amend g e os)
    where
      go : (t : Bool) → map g (amend k f os) ≡ map g os → map g (cond t (f o ∷ os) (o ∷ amend k f os)) ≡ g o ∷ map g os
      go true ih = ap (λ (a : A). a ∷ map g os) (e o)
      go false ih = ap (λ (l : List A). g o ∷ l) ih

  pub length_amend : (os : List Order) → length (amend k f os) ≡ length os
  length_amend os =
      let any : Order → ℕ = λ o. 0 in
      sym (length-map (amend k f os) any) ∙ ap length (map_amend any (λ o. refl) os) ∙ length-map os any

-- where nobody has the key nothing is changed
pub amend_absent : (k : Key) (f : Order → Order) (os : List Order) → is_found (find k os) ≡ false → amend k f os ≡ os
amend_absent k f [] e = refl
amend_absent k f (o ∷ os) e = go (same_key o.key k) (amend_absent k f os) e
  where
    go : (t : Bool) → (is_found (find k os) ≡ false → amend k f os ≡ os) → is_found (cond t (found o) (find k os)) ≡ false
        → cond t (f o ∷ os) (o ∷ amend k f os) ≡ o ∷ os
    go true ih e = absurd (false≢true (sym e))
    go false ih e = ap (λ (l : List Order). o ∷ l) (ih e)

-- its number is one more than its place
pub record Stands (k : Key) (f : Order → Order) (os : List Order) (o : Order) (i : ℕ) : Type 0 where
  pub numbered : place k os ≡ suc i
  pub inside : i < length os
  pub before : open_at os i ≡ o.figures.«open»
  pub after : open_at (amend k f os) i ≡ (f o).figures.«open»

module _ {k : Key} (f : Order → Order) where
  pub stands : {os : List Order} {o : Order} → Finds k os o → (i : ℕ) × Stands k f os o i
  stands (here s) = (0, record { numbered = rw s; inside = omega arith; before = refl; after = rw s })
  stands (later s h) =
      let (i, p) = stands h in
      (suc i, record { numbered = rw (s, p.numbered); inside = omega arith; before = p.before; after = rw s p.after })

  pub amend_sound : {os : List Order} {o : Order} → Finds k os o → sound_order (f o) ≡ true → all_sound os ≡ true → all_sound (amend k f os) ≡ true
  amend_sound (here {o = o} {os = os} s) e a = rw (s, e) (both (sound_order o) (all_sound os) a).1
  amend_sound (later {x = x} {os = os} s h) e a =
      let b = both (sound_order x) (all_sound os) a in
      rw (s, b.0) (amend_sound h e b.1)

  pub amend_shut : {os : List Order} {o : Order} → Finds k os o → (o.figures.«open» ≡ 0 → (f o).figures.«open» ≡ 0)
      → (i : ℕ) → open_at os i ≡ 0 → open_at (amend k f os) i ≡ 0
  amend_shut (here s) e zero z = rw s (e z)
  amend_shut (here s) e (suc i) z = rw s z
  amend_shut (later s h) e zero z = rw s z
  amend_shut (later s h) e (suc i) z = rw s (amend_shut h e i z)

-- ---- elders, numbered from 1, where 0 is none

pub length_elders : (os : List Order) → length (elders_of os) ≡ length os
length_elders os = length-map os (λ (o : Order). o.elder)

pub elder_test : (e : ℕ) (t : Bool) → (1 ≤ e → t ≡ true) → (eqb e 0 || t) ≡ true
elder_test zero t h = refl
elder_test (suc e) t h = rw (h (omega arith), or-true)

pub elder_tested : (e : ℕ) (t : Bool) → (eqb e 0 || t) ≡ true → 1 ≤ e → t ≡ true
elder_tested zero t h p = absurd (omega arith)
elder_tested (suc e) t h p = rw eqb-suc-zero at h

-- an elder that is none of these
abbrev pub sole : ℕ → List ℕ → Bool
sole e es = eqb e 0 || not (member e es)

member_sole : (e : ℕ) (es : List ℕ) → (1 ≤ e → member e es ≡ false) → sole e es ≡ true
member_sole e es h = elder_test e (not (member e es)) (λ p. ap not (h p))

pub sole_member : (e : ℕ) (es : List ℕ) → sole e es ≡ true → 1 ≤ e → member e es ≡ false
sole_member e es s p = not-true (member e es) (elder_tested e (not (member e es)) s p)

-- an elder at which nothing is open
abbrev pub shut : List Order → ℕ → Bool
shut os e = eqb e 0 || eqb (open_at os (e - 1)) 0

pub open_shut : (os : List Order) (e : ℕ) → (1 ≤ e → open_at os (e - 1) ≡ 0) → shut os e ≡ true
open_shut os e h = elder_test e (eqb (open_at os (e - 1)) 0) (λ p. eq-eqb (open_at os (e - 1)) 0 (h p))

pub shut_open : (os : List Order) (e : ℕ) → shut os e ≡ true → 1 ≤ e → open_at os (e - 1) ≡ 0
shut_open os e s p = eqb-true (open_at os (e - 1)) 0 (elder_tested e (eqb (open_at os (e - 1)) 0) s p)

-- elders that had nothing open still have nothing open
pub still_closed : (os now : List Order) → ((i : ℕ) → i < length os → open_at os i ≡ 0 → open_at now i ≡ 0)
    → (i : ℕ) (es : List ℕ) → i + length es ≤ length os → earlier i es ≡ true → closed os es ≡ true → closed now es ≡ true
still_closed os now s i [] h a c = refl
still_closed os now s i (e ∷ es) h a c =
    let b = both (leb e i) (earlier (i + 1) es) a in
    let d = both (shut os e) (closed os es) c in
    let l = leb-true e i b.0 in
    rw (open_shut now e (λ p. s (e - 1) (omega arith) (shut_open os e d.0 p)))
    (still_closed os now s (i + 1) es (omega arith) b.1 d.1)

-- an order that has something open is nobody's elder
pub open_unclaimed : (os : List Order) (i : ℕ) → (open_at os i ≡ 0 → ⊥) → (es : List ℕ) → closed os es ≡ true → member (suc i) es ≡ false
open_unclaimed os i n [] c = refl
open_unclaimed os i n (e ∷ es) c =
    let d = both (shut os e) (closed os es) c in
    rw (ne_eqb (suc i) e (λ q. n (its q (shut_open os e d.0 (omega arith))))) (open_unclaimed os i n es d.1)
  where
    its : suc i ≡ e → open_at os (e - 1) ≡ 0 → open_at os i ≡ 0
    its q z = let p : e - 1 ≡ i = omega arith in rw p at z

-- ---- one is put behind

pub earlier_behind : (i : ℕ) (es : List ℕ) (e : ℕ) → e ≤ i + length es → earlier i es ≡ true → earlier i (es ++ (e ∷ [])) ≡ true
earlier_behind i [] e h a = rw (le-leb e i (omega arith))
earlier_behind i (x ∷ es) e h a =
    let b = both (leb x i) (earlier (i + 1) es) a in
    rw b.0 (earlier_behind (i + 1) es e (omega arith) b.1)

pub member_behind : (b : ℕ) (es : List ℕ) (e : ℕ) → member b (es ++ (e ∷ [])) ≡ (member b es || eqb b e)
member_behind b es e = member_append b es (e ∷ []) ∙ rw (or-false (eqb b e))

pub unshared_behind : (es : List ℕ) (e : ℕ) → (1 ≤ e → member e es ≡ false) → unshared es ≡ true → unshared (es ++ (e ∷ [])) ≡ true
unshared_behind [] e h u = rw or-true
unshared_behind (x ∷ es) e h u =
    let b = both (sole x es) (unshared es) u in
    rw (member_sole x (es ++ (e ∷ [])) (λ p. rw (member_behind x es e, sole_member x es b.0 p) (other p)))
    (unshared_behind es e (λ p. (neither (eqb e x) (member e es) (h p)).1) b.1)
  where
    other : 1 ≤ x → eqb x e ≡ false
    other p = ne_eqb x e (λ q. eqb-false e x (neither (eqb e x) (member e es) (h (omega arith))).0 (sym q))

pub closed_behind : (os : List Order) (es : List ℕ) (e : ℕ) → (1 ≤ e → open_at os (e - 1) ≡ 0) → closed os es ≡ true → closed os (es ++ (e ∷ [])) ≡ true
closed_behind os [] e h c = rw (open_shut os e h)
closed_behind os (x ∷ es) e h c =
    let b = both (shut os x) (closed os es) c in
    rw b.0 (closed_behind os es e h b.1)

pub sound_behind : (os : List Order) (o : Order) → sound_order o ≡ true → all_sound os ≡ true → all_sound (os ++ (o ∷ [])) ≡ true
sound_behind [] o h a = rw h
sound_behind (x ∷ os) o h a =
    let b = both (sound_order x) (all_sound os) a in
    rw b.0 (sound_behind os o h b.1)

pub open_at_behind : (os more : List Order) (i : ℕ) → i < length os → open_at (os ++ more) i ≡ open_at os i
open_at_behind [] more i h = absurd (omega arith)
open_at_behind (x ∷ os) more zero h = refl
open_at_behind (x ∷ os) more (suc i) h = open_at_behind os more i (omega arith)
