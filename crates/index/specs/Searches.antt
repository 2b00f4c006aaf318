-- 01, Orders: a lookup by key means the earliest order with it. 02, ticket 7: a trio twice.
use Rattle.std.specs.Prelude.{ℕ, zero, suc, ◌+◌, Bool, true, cond, ◌&&◌, List, ◌==◌, Option, Some, None}
use Rattle.run.specs.Runs.{same}
use Rattle.run.specs.Found.{or_else}
use Rattle.section.specs.Sections.{record_of}
use Rattle.section.specs.declared.Section.{Section}

-- record i has the key
abbrev pub has_key : Section → List ℕ → List ℕ → ℕ → Bool
has_key keys s key i = same (record_of keys s i) key

-- one more than the first of the numbers below n that p holds of, or 0
abbrev pub first_of : (ℕ → Bool) → ℕ → ℕ
first_of p zero = 0
first_of p (suc n) = or_else (first_of p n) (cond (p n) (suc n) 0)

-- one more than the earliest of the first n records with the key, or 0
abbrev pub earliest : Section → List ℕ → ℕ → List ℕ → ℕ
earliest keys s n key = first_of (has_key keys s key) n

-- where code found one: one more than its place, or 0
abbrev pub place_no : Option ℕ → ℕ
place_no (Some i) = i + 1
place_no None = 0

-- no two of the first n records have one key
abbrev pub all_distinct : Section → List ℕ → ℕ → Bool
all_distinct keys s zero = true
all_distinct keys s (suc n) = all_distinct keys s n && earliest keys s n (record_of keys s n) == 0
