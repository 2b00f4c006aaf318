-- 01, Refusals by number: 3: a field that keeps its rule, or the refusal that names it.
use Rattle.std.specs.Prelude.{ℕ, Bool, cond, Result, Ok, Err}
use Rattle.refusal.specs.declared.Refusal.{Refusal}
use Rattle.refusal.specs.declared.Refusal.TheVariants.{Field}

abbrev pub kept : Bool → ℕ → Result (Unit {0}) Refusal
kept lawful n = cond lawful (Ok tt) (Err (Field n))
