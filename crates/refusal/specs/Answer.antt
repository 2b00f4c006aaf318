-- What every entry answers, in the paper's terms.
use Rattle.std.specs.Prelude.{ℕ, ◌+◌, ◌*◌, Result, Ok, Err}
use Rattle.refusal.specs.Numbers.{number_of, field_of}
use Rattle.refusal.specs.declared.Refusal.{Refusal}

-- 01, Refusals by number: a value, or the number of the refusal (a 3 also with its field, else 0) and no value
pub data Answer (A : Type 0) : Type 0 where
  value : A → Answer A
  refused : (number field : ℕ) → Answer A

abbrev pub refused_by : {A : Type 0} → Refusal → Answer A
refused_by r = refused (number_of r) (field_of r)

-- what code answers, in the paper's terms: its value as f says it, or its refusal
abbrev pub answer_by : {A B : Type 0} → (A → B) → Result A Refusal → Answer B
answer_by f (Ok x) = value (f x)
answer_by f (Err x) = refused_by x

abbrev pub answer_of : {A : Type 0} → Result A Refusal → Answer A
answer_of (Ok x) = value x
answer_of (Err x) = refused_by x

-- an answer as one number: 0, or the refusal's number plus 256 times its field
abbrev pub code_of : {A : Type 0} → Answer A → ℕ
code_of (value x) = 0
code_of (refused n f) = n + 256 * f

-- the one number that says a refusal
abbrev pub code_for : Refusal → ℕ
code_for x = code_of {A = Unit {0}} (refused_by x)
