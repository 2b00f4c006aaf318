-- 01, The line, Strike: its value in hundred-thousandths of a dollar, and the form of a value.
use Rattle.std.specs.Prelude.{ℕ, ◌*◌, ◌/◌, ◌%◌, Bool, cond, ◌&&◌, eqb}
use Rattle.run.specs.Runs.{member}
use Rattle.refusal.specs.Answer.{Answer, value, refused}
use Rattle.layout.specs.Layout.{denominators, strike_under}
use Rattle.message.specs.Rule.{num, lawful}
use Rattle.layout.specs.declared.Strike.{Strike}

-- 10,000 (A), 1,000 (B), 100 (C), 10 (D) or 1 (E)
abbrev pub unit : ℕ → ℕ
unit d = cond (eqb d 65) 10000 (cond (eqb d 66) 1000 (cond (eqb d 67) 100 (cond (eqb d 68) 10 1)))

-- six digits, under A to D the first not 0, under E not all 0
abbrev pub lawful_strike : ℕ → ℕ → Bool
lawful_strike d n = lawful (strike_under d) 6 (num n)

-- the six digits as a number times the unit
unfoldable pub strike_value : ℕ → ℕ → Answer ℕ
strike_value d n = cond (member d denominators) (cond (lawful_strike d n) (value (n * unit d)) (refused 3 21)) (refused 3 20)

-- the form under one code, if it is one; else what the other codes give
abbrev pub form_under : ℕ → ℕ → Answer Strike → Answer Strike
form_under d v other = cond (eqb (v % unit d) 0 && lawful_strike d (v / unit d)) (value (record { denominator = d; digits = v / unit d })) other

-- refused exactly when no code and digits have that value
unfoldable pub strike_form : ℕ → Answer Strike
strike_form v = form_under 69 v (form_under 68 v (form_under 67 v (form_under 66 v (form_under 65 v (refused 3 21)))))
