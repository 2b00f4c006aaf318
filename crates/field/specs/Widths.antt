-- 01, The line: Number, Price and the fields of digits alone: what reading and writing them say, over every width. proofs/Widths.antt proves it.
use Rattle.std.specs.Prelude.{ℕ, ◌^◌, ◌≤◌, ◌<◌, ◌≡◌, List, ◌++◌, ◌↔◌, length, replicate, Option, Some}
use Rattle.field.specs.Number.{digits_after, spaced, price, filled, price_text}

-- s is spaces on the left, then one or more digits that say v, and v has no room in fewer
pub record Justified (s : List ℕ) (v : ℕ) : Type 0 where
  pub spaces : ℕ
  pub digits : List ℕ
  pub bytes : s ≡ replicate spaces 32 ++ digits
  pub some : 0 < length digits
  pub says : digits_after 0 digits ≡ Some v
  pub fewest : (k : ℕ) → 0 < k → v < 10 ^ k → length digits ≤ k

-- numbers and their bytes are one to one, in every width from the least that holds one
pub record OneToOne (least : ℕ) (read : List ℕ → Option ℕ) (write : ℕ → ℕ → List ℕ) : Type 0 where
  -- a number is written in as many bytes as asked
  pub wide : (w v : ℕ) → least ≤ w → length (write w v) ≡ w
  -- one that is written reads back
  pub reads_back : (w v : ℕ) → least ≤ w → v < 10 ^ w → read (write w v) ≡ Some v
  -- what reads as v is what v writes, and v has room
  pub writes_back : (s : List ℕ) (v : ℕ) → read s ≡ Some v → (write (length s) v ≡ s) × (v < 10 ^ length s)

pub record Widths : Type 0 where
  -- "Number: fewest digits, right justified, spaces on the left; zero is one digit 0."
  pub number : (s : List ℕ) (v : ℕ) → (spaced s ≡ Some v) ↔ Justified s v
  pub numbers : OneToOne 1 spaced (filled 32)
  -- "two digits", "six digits": as many as the field is wide
  pub digits : OneToOne 0 (digits_after 0) (filled 48)
  -- "Price: a number in six bytes, then exactly four digits"
  pub prices : OneToOne 5 price price_text
