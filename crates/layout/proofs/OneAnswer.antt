-- What code answers is known by what it says in the paper's terms.
use mathlib.Core.Path.{◌≡◌, ap}
use Rattle.std.specs.Prelude.{Result, Ok, Err}
use Rattle.refusal.specs.Answer.{value, answer_of, answer_by}
use Rattle.refusal.specs.declared.Refusal.{Refusal}
use Rattle.refusal.proofs.OneNumber.{one_refusal}

module _ {A : Type 0} where
  same_value : (x y : A) → value x ≡ value y → x ≡ y
  same_value x y e = cc

  same_refusal : (x y : Refusal) → answer_of {A = A} (Err x) ≡ answer_of (Err y) → x ≡ y
  same_refusal x y e = one_refusal x y (cc) (cc)

  pub one_answer_by : {B : Type 0} (f : A → B) → ((x y : A) → f x ≡ f y → x ≡ y) → (x y : Result A Refusal) → answer_by f x ≡ answer_by f y → x ≡ y
  one_answer_by f one (Ok x) (Ok y) e = ap Ok (one x y (cc))
  one_answer_by f one (Ok x) (Err y) e = cc
  one_answer_by f one (Err x) (Ok y) e = cc
  one_answer_by f one (Err x) (Err y) e = ap Err (one_refusal x y (cc) (cc))

  pub one_answer : (x y : Result A Refusal) → answer_of x ≡ answer_of y → x ≡ y
  one_answer (Ok x) (Ok y) e = ap Ok (same_value x y e)
  one_answer (Ok x) (Err y) e = cc
  one_answer (Err x) (Ok y) e = cc
  one_answer (Err x) (Err y) e = ap Err (same_refusal x y e)
