-- A list of checks, each saying that a rule applies, answers by the first rule that applies.
use Prim.Native.Nat.{ℕ}
use native.Mathlib.Omega.{arith}
use mathlib.Core.Path.{◌≡◌, refl, sym, ap, subst, ◌∙◌}
use mathlib.Core.Logic.{inl, inr, ◌↔◌}
use mathlib.Core.Bool.{Bool, true, false, cond, not, false≢true}
use mathlib.Core.List.{List, [], ◌∷◌, map}
use borrow.Author.Tests.{not-true, eqb-false}
use lib.Dec.{eqb}
use Rattle.run.specs.Runs.{all}
use Rattle.refusal.specs.Answer.{Answer, value, refused}
use Rattle.layout.specs.Line.{Said}
use Rattle.day.specs.Machine.{Check, first_of}
use Rattle.day.specs.Refusals.{Rule, rule, NoneOf, FirstOf}
use Rattle.day.specs.Tables.{Table}
use Rattle.run.proofs.Tests.{both}

-- ---- an answer by the first rule that applies

abbrev pub Judged : List Rule → Answer (Unit {0}) → Type 0
Judged rs (value u) = NoneOf rs
Judged rs (refused n f) = FirstOf rs n

none_first : (rs : List Rule) (n : ℕ) → NoneOf rs → FirstOf rs n → ⊥
none_first [] n h k = k
none_first (r ∷ rs) n h (inl k) = h.0 k.0
none_first (r ∷ rs) n h (inr k) = none_first rs n h.1 k.1

one_first : (rs : List Rule) (n m : ℕ) → FirstOf rs n → FirstOf rs m → n ≡ m
one_first [] n m h k = absurd h
one_first (r ∷ rs) n m (inl h) (inl k) = h.1 ∙ sym k.1
one_first (r ∷ rs) n m (inl h) (inr k) = absurd (k.0 h.0)
one_first (r ∷ rs) n m (inr h) (inl k) = absurd (h.0 k.0)
one_first (r ∷ rs) n m (inr h) (inr k) = one_first rs n m h.1 k.1

pub judged_accepted : (rs : List Rule) (a : Answer (Unit {0})) → Judged rs a → (a ≡ value tt) ↔ NoneOf rs
judged_accepted rs a j = (λ e. subst (Judged rs) e j, go a j)
  where
    go : (a : Answer (Unit {0})) → Judged rs a → NoneOf rs → a ≡ value tt
    go (value u) j h = refl
    go (refused n f) j h = absurd (none_first rs n h j)

pub judged_refused : (rs : List Rule) (a : Answer (Unit {0})) (n : ℕ) → Judged rs a → ((f : ℕ) × (a ≡ refused n f)) ↔ FirstOf rs n
judged_refused rs a n j = (λ h. subst (Judged rs) h.1 j, go a j)
  where
    go : (a : Answer (Unit {0})) → Judged rs a → FirstOf rs n → (f : ℕ) × (a ≡ refused n f)
    go (value u) j h = absurd (none_first rs n j h)
    go (refused m f) j h = (f, ap (λ (k : ℕ). refused k f) (one_first rs m n j h))

-- the rule with a number
abbrev pub RuleOf : ℕ → List Rule → Type 0
RuleOf n [] = ⊥
RuleOf n (r ∷ rs) = cond (eqb r.number n) r.applies (RuleOf n rs)

pub none_of : (n : ℕ) (rs : List Rule) → NoneOf rs → RuleOf n rs → ⊥
none_of n [] h k = k
none_of n (r ∷ rs) h k = go (eqb r.number n) (none_of n rs h.1) k
  where
    go : (b : Bool) → (RuleOf n rs → ⊥) → cond b r.applies (RuleOf n rs) → ⊥
    go true others k = h.0 k
    go false others k = others k

-- a rule that does not apply changes nothing
pub skipped : (rs : List Rule) (n : ℕ) (P : Type 0) (a : Answer (Unit {0})) → (P → ⊥) → Judged rs a → Judged (rule n P ∷ rs) a
skipped rs n P (value u) x j = (x, j)
skipped rs n P (refused m f) x j = inr (x, j)

-- ---- tests in a chain

abbrev pub Says : Bool → Type 0 → Type 0
Says b P = (b ≡ true) ↔ P

module _ (t : Table) (x : Said) where
  -- check by check, the rule applies where the test refuses
  abbrev pub Agree : List Check → List Rule → Type 0
  Agree [] [] = Unit {0}
  Agree [] (r ∷ rs) = ⊥
  Agree (c ∷ cs) [] = ⊥
  Agree (c ∷ cs) (r ∷ rs) = Says (c.test t x) r.applies × Agree cs rs

  -- the test with a number
  abbrev pub test_of : ℕ → List Check → Bool
  test_of n [] = false
  test_of n (c ∷ cs) = cond (eqb c.number n) (c.test t x) (test_of n cs)

abbrev pub numbers_of : List Check → List ℕ
numbers_of cs = map (λ (c : Check). c.number) cs

abbrev pub rule_numbers : List Rule → List ℕ
rule_numbers [] = []
rule_numbers (r ∷ rs) = r.number ∷ rule_numbers rs

-- 0 is no refusal's number
abbrev pub numbered : List Check → Bool
numbered cs = all (λ n. not (eqb n 0)) (numbers_of cs)

abbrev pub answer_by : ℕ → Answer (Unit {0})
answer_by n = cond (eqb n 0) (value tt) (refused n 0)

pub refused_by : (n m f : ℕ) → answer_by n ≡ refused m f → (n ≡ m) × (f ≡ 0)
refused_by n m f e = go (eqb n 0) e
  where
    go : (b : Bool) → ◌≡◌ {A = Answer (Unit {0})} (cond b (value tt) (refused n 0)) (refused m f) → (n ≡ m) × (f ≡ 0)
    go true q = let z : ◌≡◌ {A = ℕ} 0 1 = cc in absurd (omega arith)
    go false q = (cc, cc)

module _ (t : Table) (x : Said) where
  -- what holds of 0 and of each number holds of the first
  pub first_number : (P : ℕ → Bool) (cs : List Check) → P 0 ≡ true → all P (numbers_of cs) ≡ true → P (first_of cs t x) ≡ true
  first_number P [] z h = z
  first_number P (c ∷ cs) z h =
      let (first, others) = both (P c.number) (all P (numbers_of cs)) h in
      go (c.test t x) first (first_number P cs z others)
    where
      go : (b : Bool) → P c.number ≡ true → P (first_of cs t x) ≡ true → P (cond b c.number (first_of cs t x)) ≡ true
      go true p q = p
      go false p q = q

  pub chain_judged : (cs : List Check) (rs : List Rule) → numbered cs ≡ true → numbers_of cs ≡ rule_numbers rs → Agree t x cs rs
      → Judged rs (answer_by (first_of cs t x))
  chain_judged [] [] h e a = tt
  chain_judged [] (r ∷ rs) h e a = absurd a
  chain_judged (c ∷ cs) [] h e a = absurd a
  chain_judged (c ∷ cs) (r ∷ rs) h e a =
      let (first, others) = both (not (eqb c.number 0)) (numbered cs) h in
      let rest : numbers_of cs ≡ rule_numbers rs = cc in
      go (c.test t x) a.0 (not-true (eqb c.number 0) first) (chain_judged cs rs others rest a.1)
    where
      go : (b : Bool) → Says b r.applies → eqb c.number 0 ≡ false → Judged rs (answer_by (first_of cs t x))
          → Judged (r ∷ rs) (answer_by (cond b c.number (first_of cs t x)))
      go true s z j = let same : c.number ≡ r.number = cc in rw z (inl (s.0 refl, same))
      go false s z j = skipped rs r.number r.applies (answer_by (first_of cs t x)) (λ k. false≢true (s.1 k)) j

  -- where none refuses, the test with whatever number does not
  pub passed : (n : ℕ) (cs : List Check) → numbered cs ≡ true → first_of cs t x ≡ 0 → test_of t x n cs ≡ false
  passed n [] h e = refl
  passed n (c ∷ cs) h e =
      let (first, others) = both (not (eqb c.number 0)) (numbered cs) h in
      go (c.test t x) (eqb-false c.number 0 (not-true (eqb c.number 0) first)) (passed n cs others) e
    where
      of_two : (b : Bool) {u v : Bool} → u ≡ false → v ≡ false → cond b u v ≡ false
      of_two true p q = p
      of_two false p q = q

      go : (b : Bool) → (c.number ≡ 0 → ⊥) → (first_of cs t x ≡ 0 → test_of t x n cs ≡ false) → cond b c.number (first_of cs t x) ≡ 0
          → cond (eqb c.number n) b (test_of t x n cs) ≡ false
      go true z ih e = absurd (z e)
      go false z ih e = of_two (eqb c.number n) refl (ih e)
