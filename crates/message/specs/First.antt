-- Fields by number: each passes a test, or one is the first of which it fails.
use Rattle.std.specs.Prelude.{ℕ, ◌≤◌, ◌<◌, ◌≡◌, Bool, true, false}

-- each of so many fields passes the test
abbrev pub Every : ℕ → (ℕ → Bool) → Type 0
Every count test = (n : ℕ) → 1 ≤ n → n ≤ count → test n ≡ true

-- n is the first of so many fields of which the test fails
pub record First (count : ℕ) (test : ℕ → Bool) (n : ℕ) : Type 0 where
  pub least : 1 ≤ n
  pub most : n ≤ count
  pub fails : test n ≡ false
  pub before : (m : ℕ) → 1 ≤ m → m < n → test m ≡ true
