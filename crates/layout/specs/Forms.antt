-- 01, The line, Strike: "So each value has one form." proofs/Forms.antt proves it.
use Rattle.std.specs.Prelude.{ℕ, ◌≡◌, ◌↔◌}
use Rattle.refusal.specs.Answer.{value, refused}
use Rattle.layout.specs.Strikes.{strike_value, strike_form}
use Rattle.layout.specs.declared.Strike.{Strike}

pub record OneForm : Type 0 where
  -- the form of a value has that value, and whatever has it is its form
  pub form : (v : ℕ) (x : Strike) → (strike_form v ≡ value x) ↔ (strike_value x.denominator x.digits ≡ value v)
  -- two strikes of one value are one
  pub one : (v : ℕ) (x y : Strike) → strike_value x.denominator x.digits ≡ value v → strike_value y.denominator y.digits ≡ value v → x ≡ y
  -- refused exactly when no code and digits have that value
  pub none : (v : ℕ) → (strike_form v ≡ refused 3 21) ↔ ((x : Strike) → strike_value x.denominator x.digits ≡ value v → ⊥)
