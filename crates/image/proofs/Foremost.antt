-- The field that stands in the way of writing is the first that does not stand. The law behind it: the first field that fails one of two tests is the lesser of
-- the first that fails the one and the first that fails the other.
use Rattle.std.proofs.Common.{Option, Some, None, unwrap_or}
use Prim.Native.Nat.{ℕ, zero, suc, ◌≤◌, ◌<◌}
use native.Mathlib.Omega.{arith}
use mathlib.Core.Path.{◌≡◌, refl, sym, ap₂, ◌∙◌}
use mathlib.Core.Bool.{Bool, true, false, cond, not, ◌&&◌}
use mathlib.Core.List.{List}
use mathlib.Core.Logic.{◌⊎◌, inl, inr, ⊎_elim}
use borrow.Author.Tests.{ne_eqb, lt-ltb, le-ltb}
use lib.ListN.{length}
use Rattle.layout.specs.Demand2.{holds}
use Rattle.layout.specs.Line.{unlawful}
use Rattle.layout.specs.declared.Record.{Record}
use Rattle.image.specs.Images.{odd, record_in, sooner, stands, unmeant, unwritable}
use Rattle.message.proofs.First.{first_of}
use Rattle.image.proofs.Sooner.{in_the_way}

-- ---- the lesser of two fields, where one is known to be no later

sooner_left : (m n : ℕ) → 1 ≤ m → (n ≡ 0) ⊎ (m ≤ n) → sooner m n ≡ m
sooner_left m n h (inl z) = rw (ne_eqb m 0 (λ e. absurd (omega arith)), z)
sooner_left m n h (inr l) = rw (ne_eqb m 0 (λ e. absurd (omega arith)), ne_eqb n 0 (λ e. absurd (omega arith)), le-ltb n m l)

sooner_right : (m n : ℕ) → 1 ≤ n → (m ≡ 0) ⊎ (n < m) → sooner m n ≡ n
sooner_right m n h (inl z) = rw z
sooner_right m n h (inr l) = rw (ne_eqb m 0 (λ e. absurd (omega arith)), ne_eqb n 0 (λ e. absurd (omega arith)), lt-ltb n m l)

-- ---- the first field that fails one of two tests

-- of the fields from n on none is before n
from_there : (test : ℕ → Bool) (n k : ℕ) → (first_of test n k ≡ 0) ⊎ (n ≤ first_of test n k)
from_there test n zero = inl refl
from_there test n (suc k) = go (test n) (from_there test (suc n) k)
  where
    go : (t : Bool) {f : ℕ} → (f ≡ 0) ⊎ (suc n ≤ f) → (cond t f n ≡ 0) ⊎ (n ≤ cond t f n)
    go true (inl z) = inl z
    go true (inr l) = inr (omega arith)
    go false h = inr (omega arith)

both_first : (p q : ℕ → Bool) (n k : ℕ) → 1 ≤ n → first_of (λ m. p m && q m) n k ≡ sooner (first_of p n k) (first_of q n k)
both_first p q n zero h = refl
both_first p q n (suc k) h = go (p n) (q n) (both_first p q (suc n) k (omega arith)) (from_there p (suc n) k) (from_there q (suc n) k)
  where
    go : (s t : Bool) {f x y : ℕ} → f ≡ sooner x y → (x ≡ 0) ⊎ (n < x) → (y ≡ 0) ⊎ (n < y) → cond (s && t) f n ≡ sooner (cond s x n) (cond t y n)
    go true true e a b = e
    go true false {x = x} e a b = sym (sooner_right x n h a)
    go false true {y = y} e a b = sym (sooner_left n y h (⊎_elim inl (λ l. inr (omega arith)) b))
    go false false e a b = sym (sooner_left n n h (inr (omega arith)))

-- ---- the fields of a record

odd_first : (t : Bool) (n : ℕ) (x : ℕ) (y : Option ℕ) → x ≡ unwrap_or y 0 → cond (not t) x n ≡ unwrap_or (cond t (Some n) y) 0
odd_first true n x y e = refl
odd_first false n x y e = e

unmeant_first : (b : List ℕ) → first_of (λ n. not (odd b n)) 1 24 ≡ unwrap_or (unmeant b) 0
unfolding unmeant
unmeant_first b =
    odd_first (odd b 2) 2 _ _
    (odd_first (odd b 6) 6 _ _ (odd_first (odd b 22) 22 _ _ (odd_first (odd b 23) 23 _ _ (odd_first (odd b 24) 24 0 None refl))))

unlawful_first : (r : Record) → first_of (holds r) 1 24 ≡ unlawful r
unfolding unlawful
unlawful_first r = refl

pub stands_first : (b : List ℕ) → length b ≡ 138 → unwritable b ≡ first_of (stands b) 1 24
stands_first b h =
    sym (in_the_way b h) ∙ sym (ap₂ sooner (unmeant_first b) (unlawful_first (record_in b)))
    ∙ sym (both_first (λ n. not (odd b n)) (holds (record_in b)) 1 24 (omega arith))
