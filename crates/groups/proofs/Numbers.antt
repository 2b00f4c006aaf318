-- A number in groups of seven bits: what is written is read back, what is read is written as the very bytes, and how many groups there are.
use Prim.Native.Nat.{ℕ, zero, suc, ◌+◌, ◌-◌, ◌*◌, ◌/◌, ◌%◌, ◌^◌, ◌≤◌, ◌<◌}
use native.Mathlib.Nat.{pow-suc}
use native.Mathlib.Omega.{arith}
use mathlib.Core.Path.{◌≡◌, refl, ap, ◌∙◌}
use mathlib.Core.Bool.{Bool, true, false, cond}
use mathlib.Core.List.{List, [], ◌∷◌, ◌++◌}
use borrow.Author.Tests.{ltb-true, ltb-false, lt-ltb, le-ltb, eqb-false, ne_eqb}
use lib.Dec.{ltb, eqb}
use lib.ListN.{length, drop}
use Rattle.run.proofs.Tests.{both}
use Rattle.run.specs.Runs.{all}
use Rattle.groups.specs.Taken.{Taken, none, taken, AreBytes, Exact}
use Rattle.groups.specs.Groups.{in64, most_groups, groups_of, number_bytes, above, groups_in, if_in64, number_in}
use Rattle.groups.proofs.Lists.{Inside}

-- ---- one group, the last or not

pub written_last : (k v : ℕ) → v < 128 → groups_of (suc k) v ≡ v ∷ []
written_last k v h = rw (lt-ltb v 128 h)

pub written_more : (k v : ℕ) → 128 ≤ v → groups_of (suc k) v ≡ (128 + v % 128) ∷ groups_of k (v / 128)
written_more k v h = rw (le-ltb v 128 h)

pub group_last : (k b : ℕ) (s : List ℕ) → b < 128 → groups_in (suc k) (b ∷ s) ≡ taken b 1
group_last k b s h = rw (lt-ltb b 128 h)

pub group_more : (k b : ℕ) (s : List ℕ) → 128 ≤ b → groups_in (suc k) (b ∷ s) ≡ above (b - 128) (groups_in k s)
group_more k b s h = rw (le-ltb b 128 h)

pub above_some : (g v w : ℕ) → 0 < v → above g (taken v w) ≡ taken (g + 128 * v) (1 + w)
above_some g v w h = cc (ne_eqb v 0 (λ z. omega arith))

-- ---- how many groups

pub some_group : (k x : ℕ) → 0 < x → x < 128 ^ k → 0 < k
some_group zero x h l = omega arith
some_group (suc k) x h l = omega arith

pub groups_most : (n k v : ℕ) → 0 < k → v < 128 ^ k → length (groups_of n v) ≤ k
groups_most zero k v h l = omega arith
groups_most (suc n) zero v h l = absurd (omega arith)
groups_most (suc n) (suc k) v h l = go (ltb v 128) refl (groups_most n k (v / 128))
  where
    go : (t : Bool) → ltb v 128 ≡ t → (0 < k → v / 128 < 128 ^ k → length (groups_of n (v / 128)) ≤ k) → length (groups_of (suc n) v) ≤ suc k
    go true q more = rw (written_last n v (ltb-true v 128 q)) (omega arith)
    go false q more =
        let big = ltb-false v 128 q in
        let less : v / 128 < 128 ^ k = omega (arith, pow-suc 128 k) in
        let rest = more (some_group k (v / 128) (omega arith) less) less in
        rw (written_more n v big) (omega arith)

groups_upto : (n v : ℕ) → length (groups_of n v) ≤ n
groups_upto zero v = omega arith
groups_upto (suc n) v = go (ltb v 128) refl (groups_upto n (v / 128))
  where
    go : (t : Bool) → ltb v 128 ≡ t → length (groups_of n (v / 128)) ≤ n → length (groups_of (suc n) v) ≤ suc n
    go true q more = rw (written_last n v (ltb-true v 128 q)) (omega arith)
    go false q more = rw (written_more n v (ltb-false v 128 q)) (omega arith)

pub groups_some : (n v : ℕ) → 1 ≤ length (groups_of (suc n) v)
groups_some n v = go (ltb v 128) refl
  where
    go : (t : Bool) → ltb v 128 ≡ t → 1 ≤ length (groups_of (suc n) v)
    go true q = rw (written_last n v (ltb-true v 128 q)) (omega arith)
    go false q = rw (written_more n v (ltb-false v 128 q)) (omega arith)

pub number_most : (k v : ℕ) → 0 < k → k ≤ 10 → v < 128 ^ k → length (number_bytes v) ≤ k
number_most k v h m l = groups_most most_groups k v h l

pub number_ten : (v : ℕ) → length (number_bytes v) ≤ 10
number_ten v = groups_upto most_groups v

pub number_some : (v : ℕ) → 1 ≤ length (number_bytes v)
number_some v = groups_some 9 v

-- ---- what is written is read back

groups_back : (k v : ℕ) (s : List ℕ) → 0 < k → v < 128 ^ k → groups_in k (groups_of k v ++ s) ≡ taken v (length (groups_of k v))
groups_back zero v s h l = absurd (omega arith)
groups_back (suc k) v s h l = go (ltb v 128) refl (groups_back k (v / 128) s)
  where
    go : (t : Bool) → ltb v 128 ≡ t → (0 < k → v / 128 < 128 ^ k → groups_in k (groups_of k (v / 128) ++ s) ≡ taken (v / 128) (length (groups_of k (v / 128))))
        → groups_in (suc k) (groups_of (suc k) v ++ s) ≡ taken v (length (groups_of (suc k) v))
    go true q more = let last = ltb-true v 128 q in rw (written_last k v last) (group_last k v s last)
    go false q more =
        let big = ltb-false v 128 q in
        let less : v / 128 < 128 ^ k = omega (arith, pow-suc 128 k) in
        let rest = more (some_group k (v / 128) (omega arith) less) less in
        let value : 128 + v % 128 - 128 + 128 * (v / 128) ≡ v = omega arith in
        let others = groups_of k (v / 128) in
        rw (written_more k v big)
        (group_more k (128 + v % 128) (others ++ s) (omega arith)
        ∙ rw rest (above_some (128 + v % 128 - 128) (v / 128) (length others) (omega arith) ∙ rw value (ap (taken v) (omega arith))))

number_back : (v : ℕ) (s : List ℕ) → in64 v ≡ true → number_in (number_bytes v ++ s) ≡ taken v (length (number_bytes v))
number_back v s e =
    let small = ltb-true v (2 ^ 64) e in
    ap if_in64 (groups_back most_groups v s (omega arith) (omega arith)) ∙ rw e

-- ---- what is read

-- what groups say is written as these groups, and they stand inside the bytes
record Written (k : ℕ) (s : List ℕ) (v w : ℕ) : Type 0 where
  wide : w ≡ length (groups_of k v)
  same : groups_of k v ++ drop w s ≡ s

groups_forth : (k : ℕ) (s : List ℕ) (v w : ℕ) → AreBytes s → groups_in k s ≡ taken v w → Written k s v w
groups_forth zero s v w a e = cc
groups_forth (suc k) [] v w a e = cc
groups_forth (suc k) (b ∷ s) v w a e = go (ltb b 128) (groups_in k s) refl refl (groups_forth k s) e
  where
    byte : b < 256
    byte = ltb-true b 256 (both (ltb b 256) (all (λ b. ltb b 256) s) a).0

    bytes : AreBytes s
    bytes = (both (ltb b 256) (all (λ b. ltb b 256) s) a).1

    last : (x u : ℕ) (t : Bool) → 128 ≤ b → eqb x 0 ≡ t → Written k s x u → cond t none (taken (b - 128 + 128 * x) (1 + u)) ≡ taken v w → Written (suc k) (b ∷ s) v w
    last x u true h z p r = cc
    last x u false h z p r =
        let some = eqb-false x 0 z in
        let value : v ≡ b - 128 + 128 * x = cc in
        let width : w ≡ suc u = let m : w ≡ 1 + u = cc in omega arith in
        let low : 128 + v % 128 ≡ b = omega (arith, byte) in
        let high : v / 128 ≡ x = omega (arith, byte) in
        let groups : groups_of (suc k) v ≡ b ∷ groups_of k x = written_more k v (omega arith) ∙ rw (low, high) in
        record { wide = rw (groups, width) (ap suc p.wide); same = rw (groups, width) (ap (λ (l : List ℕ). b ∷ l) p.same) }

    go : (t : Bool) (r : Taken ℕ) → ltb b 128 ≡ t → groups_in k s ≡ r → ((v w : ℕ) → AreBytes s → groups_in k s ≡ taken v w → Written k s v w)
        → cond t (taken b 1) (above (b - 128) r) ≡ taken v w → Written (suc k) (b ∷ s) v w
    go true r q p more d =
        let value : v ≡ b = cc in
        let width : w ≡ 1 = cc in
        let groups : groups_of (suc k) v ≡ b ∷ [] = rw value (written_last k b (ltb-true b 128 q)) in
        record { wide = rw (groups, width); same = rw (groups, width) }
    go false none q p more d = cc
    go false (taken x u) q p more d = last x u (eqb x 0) (ltb-false b 128 q) refl (more x u bytes p) d

groups_inside : (k : ℕ) → Inside (groups_in k)
groups_inside zero s v w e = cc
groups_inside (suc k) [] v w e = cc
groups_inside (suc k) (b ∷ s) v w e = go (ltb b 128) (groups_in k s) refl (groups_inside k s) e
  where
    last : (x u : ℕ) (t : Bool) → u ≤ length s → cond t none (taken (b - 128 + 128 * x) (1 + u)) ≡ taken v w → w ≤ suc (length s)
    last x u true h r = cc
    last x u false h r = let width : w ≡ 1 + u = cc in omega arith

    go : (t : Bool) (r : Taken ℕ) → groups_in k s ≡ r → ((v w : ℕ) → groups_in k s ≡ taken v w → w ≤ length s)
        → cond t (taken b 1) (above (b - 128) r) ≡ taken v w → w ≤ suc (length s)
    go true r p more d = let width : w ≡ 1 = cc in omega arith
    go false none p more d = cc
    go false (taken x u) p more d = last x u (eqb x 0) (more x u p) d

-- a number that is read is one that groups say, and 64 bits hold it
number_groups : (s : List ℕ) (v w : ℕ) → number_in s ≡ taken v w → (groups_in most_groups s ≡ taken v w) × (in64 v ≡ true)
number_groups s v w e = go (groups_in most_groups s) refl e
  where
    held : (x u : ℕ) (t : Bool) → in64 x ≡ t → groups_in most_groups s ≡ taken x u → cond t (taken x u) none ≡ taken v w → (groups_in most_groups s ≡ taken v w) × (in64 v ≡ true)
    held x u true q p d = let value : v ≡ x = cc in (p ∙ d, rw value q)
    held x u false q p d = cc

    go : (t : Taken ℕ) → groups_in most_groups s ≡ t → if_in64 t ≡ taken v w → (groups_in most_groups s ≡ taken v w) × (in64 v ≡ true)
    go none p d = cc
    go (taken x u) p d = held x u (in64 x) refl p d

pub number_inside : Inside number_in
number_inside s v w e = groups_inside most_groups s v w (number_groups s v w e).0

pub number_exact : Exact in64 number_in number_bytes
number_exact =
    record {
      back = number_back;
      sound = λ s v w a e. (number_groups s v w e).1;
      used = λ s v w a e. (groups_forth most_groups s v w a (number_groups s v w e).0).wide;
      forth = λ s v w a e. (groups_forth most_groups s v w a (number_groups s v w e).0).same;
    }
