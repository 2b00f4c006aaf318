-- The first field of which a test fails: found by going through them in order; and what an answer by it says.
use Prim.Native.Nat.{ℕ, zero, suc, ◌+◌, ◌≤◌, ◌<◌}
use native.Mathlib.Nat.{eq-or-lt_of_le}
use native.Mathlib.Omega.{arith}
use mathlib.Core.Path.{◌≡◌, refl, sym, subst, ◌∙◌}
use mathlib.Core.Logic.{◌⊎◌, inl, inr, ◌↔◌}
use mathlib.Core.Bool.{Bool, true, false, cond, false≢true}
use borrow.Author.Tests.{ne_eqb}
use lib.Dec.{eqb}
use Rattle.refusal.specs.Answer.{Answer, value, refused}
use Rattle.message.specs.First.{Every, First}

-- of k fields from n on, the first of which the test fails, or 0
abbrev pub first_of : (ℕ → Bool) → ℕ → ℕ → ℕ
first_of test n zero = 0
first_of test n (suc k) = cond (test n) (first_of test (suc n) k) n

-- the test passes from n up to f
abbrev Passes : (ℕ → Bool) → ℕ → ℕ → Type 0
Passes test n f = (m : ℕ) → n ≤ m → m < f → test m ≡ true

data Looked (test : ℕ → Bool) (n k f : ℕ) : Type 0 where
  none : f ≡ 0 → Passes test n (n + k) → Looked test n k f
  found : n ≤ f → f < n + k → test f ≡ false → Passes test n f → Looked test n k f

passes_too : (test : ℕ → Bool) (n f : ℕ) → test n ≡ true → Passes test (suc n) f → Passes test n f
passes_too test n f e h m a b = go (eq-or-lt_of_le a)
  where
    go : (n ≡ m) ⊎ (n < m) → test m ≡ true
    go (inl q) = rw (← q) e
    go (inr l) = h m l b

looked : (test : ℕ → Bool) (n k : ℕ) → Looked test n k (first_of test n k)
looked test n zero = none refl (λ m a b. absurd (omega arith))
looked test n (suc k) = go (test n) refl (looked test (suc n) k)
  where
    later : {f : ℕ} → test n ≡ true → Looked test (suc n) k f → Looked test n (suc k) f
    later {f} e (none z h) = none z (λ m a b. passes_too test n (suc n + k) e h m a (omega arith))
    later {f} e (found a b c h) = found (omega arith) (omega arith) c (passes_too test n f e h)

    go : (t : Bool) → test n ≡ t → Looked test (suc n) k (first_of test (suc n) k) → Looked test n (suc k) (cond t (first_of test (suc n) k) n)
    go true e ih = later e ih
    go false e ih = found (omega arith) (omega arith) e (λ m a b. absurd (omega arith))

-- ---- so many fields

pub one_first : (count : ℕ) (test : ℕ → Bool) (n f : ℕ) → First count test n → First count test f → n ≡ f
one_first count test n f a b =
    let p : ¬ (n < f) = λ l. false≢true (sym a.fails ∙ b.before n a.least l) in
    let q : ¬ (f < n) = λ l. false≢true (sym b.fails ∙ a.before f b.least l) in
    omega arith

pub not_every : (count : ℕ) (test : ℕ → Bool) (n : ℕ) → First count test n → Every count test → ⊥
not_every count test n h k = false≢true (sym h.fails ∙ k n h.least h.most)

-- all pass, or one is the first to fail
pub data Checked (count : ℕ) (test : ℕ → Bool) : ℕ → Type 0 where
  passed : Every count test → Checked count test 0
  failed : {n : ℕ} → First count test n → Checked count test n

pub checked : (count : ℕ) (test : ℕ → Bool) → Checked count test (first_of test 1 count)
checked count test = go (looked test 1 count)
  where
    go : {f : ℕ} → Looked test 1 count f → Checked count test f
    go (none z h) = rw z (passed (λ n a b. h n a (omega arith)))
    go (found a b c h) = failed (record { least = a; most = omega arith; fails = c; before = h })

pub first_every : (count : ℕ) (test : ℕ → Bool) → first_of test 1 count ≡ 0 → Every count test
first_every count test z = go z (checked count test)
  where
    go : {f : ℕ} → f ≡ 0 → Checked count test f → Every count test
    go z (passed h) = h
    go z (failed h) = absurd (omega (arith, h.least))

pub every_first : (count : ℕ) (test : ℕ → Bool) → Every count test → first_of test 1 count ≡ 0
every_first count test h = go (checked count test)
  where
    go : {f : ℕ} → Checked count test f → f ≡ 0
    go (passed k) = refl
    go {f} (failed k) = absurd (not_every count test f k h)

pub first_first : (count : ℕ) (test : ℕ → Bool) (n : ℕ) → 1 ≤ n → (first_of test 1 count ≡ n) ↔ First count test n
first_first count test n p = (λ e. from e (checked count test), λ h. to h (checked count test))
  where
    from : {f : ℕ} → f ≡ n → Checked count test f → First count test n
    from e (passed h) = absurd (omega arith)
    from {f} e (failed h) = subst (First count test) e h

    to : {f : ℕ} → First count test n → Checked count test f → f ≡ n
    to h (passed k) = absurd (not_every count test n h k)
    to {f} h (failed k) = one_first count test f n k h

-- ---- an answer by the first field that fails

-- the answer x, unless field n fails
abbrev pub judged : {A : Type 0} → ℕ → A → Answer A
judged n x = cond (eqb n 0) (value x) (refused 3 n)

-- what such an answer says
abbrev pub Says : {A : Type 0} → ℕ → (ℕ → Bool) → A → Answer A → Type 0
Says count test x (value y) = Every count test × (x ≡ y)
Says count test x (refused m n) = (m ≡ 3) × First count test n

pub judged_says : {A : Type 0} (count : ℕ) (test : ℕ → Bool) (x : A) → Says count test x (judged (first_of test 1 count) x)
judged_says count test x = go (checked count test)
  where
    go : {f : ℕ} → Checked count test f → Says count test x (judged f x)
    go (passed h) = (h, refl)
    go {f} (failed h) = rw (ne_eqb f 0 (λ z. absurd (omega (arith, h.least)))) (refl, h)

pub every_judged : {A : Type 0} (count : ℕ) (test : ℕ → Bool) (x : A) → Every count test → judged (first_of test 1 count) x ≡ value x
every_judged count test x h = rw (every_first count test h)

pub first_judged : {A : Type 0} (count : ℕ) (test : ℕ → Bool) (x : A) (n : ℕ) → First count test n → judged (first_of test 1 count) x ≡ refused 3 n
first_judged count test x n h =
    rw ((first_first count test n h.least).1 h, ne_eqb n 0 (λ z. absurd (omega (arith, h.least))))
