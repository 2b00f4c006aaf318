-- What a loop over the groups of a number keeps: what is read so far, and what is left, give the same end.
use Prim.Native.Nat.{ℕ, suc, ◌+◌, ◌-◌, ◌*◌, ◌^◌, ◌≤◌, ◌<◌}
use native.Mathlib.Nat.{pow-suc, pow-le-pow_right, mul-add, mul_assoc, mul-le-mul_left, add_assoc}
use native.Mathlib.Omega.{arith}
use mathlib.Core.Path.{◌≡◌, refl, sym, ap, ap₂, ◌∙◌}
use mathlib.Core.Bool.{Bool, true, false, cond}
use mathlib.Core.List.{List}
use Rattle.std.specs.Prelude.{Option, Some, None}
use borrow.Author.Tests.{ltb-true, ltb-false, lt-ltb, le-ltb, eqb-false, ne_eqb}
use lib.Dec.{ltb, eqb}
use lib.ListN.{length, get_or, drop, drop_of_length-le}
use Rattle.run.proofs.Scan.{at_next}
use Rattle.groups.proofs.Numbers.{group_last, group_more}
use Rattle.groups.specs.Taken.{Taken, none, taken}
use Rattle.groups.specs.Groups.{in64, above, groups_in, if_in64, taken_at}

-- the value of j groups, and what those behind them say, each counting a unit
abbrev lifted : ℕ → ℕ → ℕ → Taken ℕ → Taken ℕ
lifted value unit j none = none
lifted value unit j (taken v w) = cond (eqb v 0) none (taken (value + unit * v) (j + w))

lifted_low : (g : ℕ) (t : Taken ℕ) → above g t ≡ lifted g 128 1 t
lifted_low g none = refl
lifted_low g (taken v w) = refl

-- a group that is not the last
lifted_next : (value unit j g : ℕ) (t : Taken ℕ) → lifted value unit j (above g t) ≡ lifted (value + unit * g) (unit * 128) (j + 1) t
lifted_next value unit j g none = refl
lifted_next value unit j g (taken v w) = go (eqb v 0) refl
  where
    go : (t : Bool) → eqb v 0 ≡ t
        → lifted value unit j (cond t none (taken (g + 128 * v) (1 + w))) ≡ cond t none (taken (value + unit * g + unit * 128 * v) (j + 1 + w))
    go true q = refl
    go false q =
        let some = eqb-false v 0 q in
        let more : eqb (g + 128 * v) 0 ≡ false = ne_eqb (g + 128 * v) 0 (λ z. some (omega arith)) in
        let value_next : value + unit * (g + 128 * v) ≡ value + unit * g + unit * 128 * v = rw (mul-add unit g (128 * v), mul_assoc unit 128 v) (sym (add_assoc value (unit * g) (unit * (128 * v)))) in
        rw more (ap₂ taken value_next (sym (add_assoc j 1 w)))

-- ---- powers of 128

below_tenth : (j : ℕ) → j ≤ 9 → (128 ^ j ≡ 2 ^ 63 → ⊥) → j ≤ 8
below_tenth j h n = go (ltb j 9) refl
  where
    go : (t : Bool) → ltb j 9 ≡ t → j ≤ 8
    go true q = let l = ltb-true j 9 q in omega arith
    go false q = let l = ltb-false j 9 q in let e : j ≡ 9 = omega arith in absurd (n (rw e))

tenth : (j : ℕ) → 128 ^ j ≡ 2 ^ 63 → 9 ≤ j
tenth j e = go (ltb j 9) refl
  where
    go : (t : Bool) → ltb j 9 ≡ t → 9 ≤ j
    go true q =
        let l = ltb-true j 9 q in
        let m : j ≤ 8 = omega arith in
        let few : 128 ^ j ≤ 128 ^ 8 = pow-le-pow_right (omega arith) m in
        absurd (omega arith)
    go false q = ltb-false j 9 q

-- ---- the loop

-- the groups from a low one on up to i are read
pub record Reading (s : List ℕ) (at low value unit i : ℕ) : Type 0 where
  pub from : at < i
  pub few : i - at ≤ 9
  pub inside : i ≤ length s
  pub unit_is : unit ≡ 128 ^ (i - at)
  pub small : value < unit
  pub same_end : above low (groups_in 9 (drop (at + 1) s)) ≡ lifted value unit (i - at) (groups_in (10 - (i - at)) (drop i s))

pub read_first : (s : List ℕ) (at low : ℕ) → at < length s → low < 128 → Reading s at low low 128 (at + 1)
read_first s at low h l =
    let one : at + 1 - at ≡ 1 = omega arith in
    record {
      from = omega arith;
      few = omega arith;
      inside = omega arith;
      unit_is = rw one;
      small = l;
      same_end = rw one (lifted_low low (groups_in 9 (drop (at + 1) s)));
    }

-- the answer for a low group with more behind it
abbrev Answer : List ℕ → ℕ → ℕ → Option (ℕ × ℕ)
Answer s at low = taken_at at (if_in64 (above low (groups_in 9 (drop (at + 1) s))))

module _ {s : List ℕ} {at low value unit i : ℕ} (g : Reading s at low value unit i) where
  -- the groups left from a byte on, the last of them or not
  left_last : i < length s → get_or s i 0 < 128 → groups_in (10 - (i - at)) (drop i s) ≡ taken (get_or s i 0) 1
  left_last h l =
      let k : 10 - (i - at) ≡ suc (9 - (i - at)) = omega (arith, g.few) in
      rw (k, at_next s i h) (group_last (9 - (i - at)) (get_or s i 0) (drop (i + 1) s) l)

  left_more : i < length s → 128 ≤ get_or s i 0 → groups_in (10 - (i - at)) (drop i s) ≡ above (get_or s i 0 - 128) (groups_in (9 - (i - at)) (drop (i + 1) s))
  left_more h l =
      let k : 10 - (i - at) ≡ suc (9 - (i - at)) = omega (arith, g.few) in
      rw (k, at_next s i h) (group_more (9 - (i - at)) (get_or s i 0) (drop (i + 1) s) l)

  -- before the tenth group
  unit_room : (unit ≡ 2 ^ 63 → ⊥) → unit ≤ 2 ^ 56
  unit_room n =
      let j = below_tenth (i - at) g.few (λ e. n (g.unit_is ∙ e)) in
      rw g.unit_is (pow-le-pow_right {n = 128} (omega arith) {i = i - at} {j = 8} j)

  -- a group of seven bits counted
  pub group_room : (x : ℕ) → x < 128 → (unit ≡ 2 ^ 63 → ⊥) → (unit * x ≤ unit * 127) × (unit ≤ 2 ^ 56)
  group_room x h n = (mul-le-mul_left {m = x} {n = 127} unit (omega arith), unit_room n)

  pub read_next : i < length s → 128 ≤ get_or s i 0 → get_or s i 0 < 256 → (unit ≡ 2 ^ 63 → ⊥)
      → Reading s at low (value + unit * (get_or s i 0 - 128)) (unit * 128) (i + 1)
  read_next h l b n =
      let x = get_or s i 0 - 128 in
      let j = below_tenth (i - at) g.few (λ e. n (g.unit_is ∙ e)) in
      let next : i + 1 - at ≡ suc (i - at) = omega (arith, g.from) in
      let left : 10 - suc (i - at) ≡ 9 - (i - at) = omega arith in
      let one : i - at + 1 ≡ suc (i - at) = omega arith in
      record {
        from = omega (arith, g.from);
        few = omega arith;
        inside = omega arith;
        unit_is = rw (next, pow-suc 128 (i - at), g.unit_is);
        small = omega (arith, g.small, group_room x (omega arith) n);
        same_end =
            g.same_end
            ∙ rw (left_more h l, next, left)
            (rw one at (lifted_next value unit (i - at) x (groups_in (9 - (i - at)) (drop (i + 1) s))));
      }

  -- the last group answers
  read_end : (t : Taken ℕ) → groups_in (10 - (i - at)) (drop i s) ≡ t → Answer s at low ≡ taken_at at (if_in64 (lifted value unit (i - at) t))
  read_end t e = ap (λ u. taken_at at (if_in64 u)) (rw e at g.same_end)

  pub read_short : length s ≤ i → None ≡ Answer s at low
  read_short h =
      let k : 10 - (i - at) ≡ suc (9 - (i - at)) = omega (arith, g.few) in
      sym (read_end none (rw (k, drop_of_length-le s h)))

  pub read_padded : i < length s → get_or s i 0 ≡ 0 → None ≡ Answer s at low
  read_padded h z = sym (read_end (taken 0 1) (left_last h (omega arith) ∙ rw z))

  counted : (x v : ℕ) → i < length s → get_or s i 0 ≡ x → 0 < x → x < 128 → v ≡ value + unit * x → v < 2 ^ 64 → Some (v, i + 1) ≡ Answer s at low
  counted x v h e p l c m =
      let some : eqb x 0 ≡ false = ne_eqb x 0 (λ z. omega arith) in
      let held : in64 v ≡ true = lt-ltb v (2 ^ 64) m in
      let place : at + (i - at + 1) ≡ i + 1 = omega (arith, g.from) in
      sym (read_end (taken x 1) (left_last h (omega arith) ∙ rw e) ∙ rw (some, ← c, held, place))

  pub read_last : i < length s → 0 < get_or s i 0 → get_or s i 0 < 128 → (unit ≡ 2 ^ 63 → ⊥) → Some (value + unit * get_or s i 0, i + 1) ≡ Answer s at low
  read_last h p l n =
      let x = get_or s i 0 in
      counted x (value + unit * x) h refl p l refl (omega (arith, g.small, group_room x l n))

  pub read_tenth : i < length s → get_or s i 0 ≡ 1 → unit ≡ 2 ^ 63 → Some (value + 2 ^ 63, i + 1) ≡ Answer s at low
  read_tenth h e n = counted 1 (value + 2 ^ 63) h e (omega arith) (omega arith) (rw n) (omega (arith, g.small))

  -- above 64 bits: too much in the tenth group, or a group behind it
  too_much : i < length s → 1 < get_or s i 0 → get_or s i 0 < 128 → unit ≡ 2 ^ 63 → None ≡ Answer s at low
  too_much h p l n =
      let b = get_or s i 0 in
      let some : eqb b 0 ≡ false = ne_eqb b 0 (λ z. omega arith) in
      let beyond : in64 (value + unit * b) ≡ false = le-ltb (value + unit * b) (2 ^ 64) (rw n (omega arith)) in
      sym (read_end (taken b 1) (left_last h l) ∙ rw (some, beyond))

  too_long : i < length s → 128 ≤ get_or s i 0 → unit ≡ 2 ^ 63 → None ≡ Answer s at low
  too_long h l n =
      let all-ten = tenth (i - at) (sym g.unit_is ∙ n) in
      let over : 9 - (i - at) ≡ 0 = omega arith in
      sym (read_end none (left_more h l ∙ rw over))

  pub read_above : i < length s → (get_or s i 0 ≡ 1 → ⊥) → unit ≡ 2 ^ 63 → None ≡ Answer s at low
  read_above h m n = go (ltb (get_or s i 0) 128) (ltb 1 (get_or s i 0)) refl refl
    where
      go : (p q : Bool) → ltb (get_or s i 0) 128 ≡ p → ltb 1 (get_or s i 0) ≡ q → None ≡ Answer s at low
      go false q e f = too_long h (ltb-false (get_or s i 0) 128 e) n
      go true true e f = too_much h (ltb-true 1 (get_or s i 0) f) (ltb-true (get_or s i 0) 128 e) n
      go true false e f = let few = ltb-false 1 (get_or s i 0) f in read_padded h (omega (arith, m))
