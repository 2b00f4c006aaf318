-- Each strike value has one form: the record of specs/Forms.antt.
use Prim.Native.Nat.{ℕ, ◌*◌, ◌/◌, ◌%◌, ◌≤◌, ◌<◌}
use native.Mathlib.Nat.{div-add-mod', mul-div_cancel, mul-mod_left}
use native.Mathlib.Omega.{arith}
use mathlib.Core.Path.{◌≡◌, refl, sym, ap, ◌∙◌}
use mathlib.Core.Logic.{◌⊎◌, inl, inr, ⊎_elim}
use mathlib.Core.Bool.{Bool, true, false, cond, ◌&&◌, ◌||◌, and-false, and-eq-true_iff, false≢true}
use borrow.Author.Tests.{eqb-true, lt-leb}
use lib.Dec.{eqb}
use Rattle.run.specs.Runs.{member}
use Rattle.field.proofs.Fill.{between, is_between}
use Rattle.refusal.specs.Answer.{Answer, value, refused}
use Rattle.layout.specs.Forms.{OneForm}
use Rattle.layout.specs.Layout.{denominators, least_strike}
use Rattle.layout.specs.Strikes.{unit, lawful_strike, strike_value, form_under, strike_form}
use Rattle.layout.specs.declared.Strike.{Strike}

pub no_value : {A : Type 0} {n f : ℕ} {x : A} → refused n f ≡ value x → ⊥
no_value e = let z : ◌≡◌ {A = ℕ} 0 1 = cc in omega arith

-- where a value came out, the test before it passed
passed : {A : Type 0} (t : Bool) (a : Answer A) (n f : ℕ) {x : A} → cond t a (refused n f) ≡ value x → (t ≡ true) × (a ≡ value x)
passed true a n f e = (refl, e)
passed false a n f e = absurd (no_value e)

either : (P : ℕ → Type 0) (d c : ℕ) {more : Bool} → P c → (more ≡ true → P d) → (eqb d c || more) ≡ true → P d
either P d c {more} first others = go (eqb d c) refl
  where
    go : (t : Bool) → eqb d c ≡ t → (t || more) ≡ true → P d
    go true e m = rw (eqb-true d c e) first
    go false e m = others m

-- what holds of the five codes holds of whatever is one of them
by_code : (P : ℕ → Type 0) → P 65 → P 66 → P 67 → P 68 → P 69 → (d : ℕ) → member d denominators ≡ true → P d
by_code P a b c d e x =
    either P x 65 a (either P x 66 b (either P x 67 c (either P x 68 d (either P x 69 e (λ m. absurd (false≢true m))))))

abbrev strike : ℕ → ℕ → Strike
strike d n = record { denominator = d; digits = n }

module _ (v : ℕ) where
  abbrev Has : Strike → Type 0
  Has x = strike_value x.denominator x.digits ≡ value v

  -- ---- the form that is made has the value

  -- an answer that is a strike of the value, or the refusal
  abbrev Made : Answer Strike → Type 0
  Made a = ((x : Strike) × (a ≡ value x) × Has x) ⊎ (a ≡ refused 3 21)

  -- the test of one code
  abbrev fits : ℕ → Bool
  fits d = eqb (v % unit d) 0 && lawful_strike d (v / unit d)

  under : (d : ℕ) {other : Answer Strike} → member d denominators ≡ true → Made other → Made (form_under d v other)
  unfolding strike_value
  under d {other} m made = go (fits d) refl
    where
      go : (t : Bool) → fits d ≡ t → Made (cond t (value (strike d (v / unit d))) other)
      go true e =
          let h = (and-eq-true_iff (eqb (v % unit d) 0) (lawful_strike d (v / unit d))).0 e in
          let whole : v % unit d ≡ 0 = eqb-true (v % unit d) 0 h.0 in
          inl (strike d (v / unit d), refl, rw (m, h.1) (ap value (omega (arith, div-add-mod' v (unit d)))))
      go false e = made

  made : Made (strike_form v)
  unfolding strike_form
  made = under 69 refl (under 68 refl (under 67 refl (under 66 refl (under 65 refl (inr refl)))))

  form_has : (x : Strike) → strike_form v ≡ value x → Has x
  form_has x e = ⊎_elim (λ m. let same : m.0 ≡ x = cc in rw same at m.2) (λ r. absurd (no_value (sym r ∙ e))) made

  -- ---- whatever has the value is the form that is made

  -- the codes are tried from the least unit, and a value is too large for each before its own
  past : (d : ℕ) {x : Strike} {other : Answer Strike} → 999999 < v / unit d → other ≡ value x → form_under d v other ≡ value x
  past d h e = rw (lt-leb (v / unit d) 999999 h, and-false, and-false) e

  found : (d n : ℕ) (other : Answer Strike) → 0 < unit d → n * unit d ≡ v → least_strike d ≤ n → n ≤ 999999 → form_under d v other ≡ value (strike d n)
  found d n other p e h k = rw (← e, mul-mod_left n (unit d), mul-div_cancel n p, is_between (least_strike d) 999999 n h k)

  abbrev FormOf : ℕ → Type 0
  FormOf d = (n : ℕ) → n * unit d ≡ v → least_strike d ≤ n → n ≤ 999999 → strike_form v ≡ value (strike d n)

  form_of : (d : ℕ) → member d denominators ≡ true → FormOf d
  unfolding strike_form
  form_of =
      by_code FormOf
      (λ n e h k. past 69 (omega arith) (past 68 (omega arith) (past 67 (omega arith) (past 66 (omega arith) (found 65 n _ (omega arith) e h k)))))
      (λ n e h k. past 69 (omega arith) (past 68 (omega arith) (past 67 (omega arith) (found 66 n _ (omega arith) e h k))))
      (λ n e h k. past 69 (omega arith) (past 68 (omega arith) (found 67 n _ (omega arith) e h k)))
      (λ n e h k. past 69 (omega arith) (found 68 n _ (omega arith) e h k))
      (λ n e h k. found 69 n _ (omega arith) e h k)

  has_form : (x : Strike) → Has x → strike_form v ≡ value x
  unfolding strike_value
  has_form x h =
      let d = x.denominator in
      let n = x.digits in
      let m = passed (member d denominators) _ 3 20 h in
      let l = passed (lawful_strike d n) (value (n * unit d)) 3 21 m.1 in
      let b = between (least_strike d) 999999 n l.0 in
      form_of d m.0 n (cc) b.0 b.1

pub one_form : OneForm
one_form =
    record {
      form = λ v x. (form_has v x, has_form v x);
      one = λ v x y p q. cc (has_form v x p, has_form v y q);
      none =
          λ v. (λ r x h. no_value (sym r ∙ has_form v x h), λ none. ⊎_elim (λ m. absurd (none m.0 m.2)) (λ r. r) (made v));
    }
