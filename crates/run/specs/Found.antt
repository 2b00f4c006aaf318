-- A place that is counted from 1, or 0 where there is none.
use Rattle.std.specs.Prelude.{ℕ, zero, suc}

-- the first of two, and the second where the first is none
abbrev pub or_else : ℕ → ℕ → ℕ
or_else zero b = b
or_else (suc a) b = suc a

-- the place of one that has one more in front of it
abbrev pub one_more : ℕ → ℕ
one_more zero = zero
one_more (suc n) = suc (suc n)
