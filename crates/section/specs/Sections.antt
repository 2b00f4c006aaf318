-- docs/LAYOUT.md, The lent table: records of equal width at equal distances, where each stands, what it holds, and what all of them say.
use Rattle.std.specs.Prelude.{ℕ, zero, suc, ◌+◌, ◌*◌, ◌≤◌, ◌<◌, ◌≡◌, List, [], ◌∷◌, length}
use Rattle.run.specs.Runs.{part}
use Rattle.section.specs.declared.Section.{Section}

-- where record i begins
abbrev pub start_of : Section → ℕ → ℕ
start_of c i = c.first + c.step * i

abbrev pub record_of : Section → List ℕ → ℕ → List ℕ
record_of c s i = part s (start_of c i) c.width

-- what n records say, the first of them record i
abbrev pub records_in : {A : Type 0} → (List ℕ → A) → Section → List ℕ → ℕ → ℕ → List A
records_in read c s i zero = []
records_in read c s i (suc n) = read (record_of c s i) ∷ records_in read c s (i + 1) n

-- record i lies within the bytes
abbrev pub Inside : Section → List ℕ → ℕ → Type 0
Inside c s i = start_of c i + c.width ≤ length s

-- the first n records lie within the bytes, and no two overlap
pub record Holds (c : Section) (s : List ℕ) (n : ℕ) : Type 0 where
  pub apart : c.width ≤ c.step
  pub inside : (i : ℕ) → i < n → Inside c s i

-- each record of k stands in the record of c with its number: k is a key of the records c
pub record KeyOf (k c : Section) : Type 0 where
  pub steps : k.step ≡ c.step
  pub from : c.first ≤ k.first
  pub upto : k.first + k.width ≤ c.first + c.width
