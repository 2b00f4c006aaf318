-- 02, ticket 11: lookups may go by a tag of the key, as long as the order found is still the earliest with that key.
use Rattle.std.specs.Prelude.{ℕ, ◌≤◌, ◌≡◌, List, length}
use Rattle.index.specs.Indexes.{Indexed}
use Rattle.index.specs.Tags.{bucket_of}
use Rattle.slot.specs.Places.{slot_keys}
use Rattle.table.specs.Tables.{count_in, limit_of}

-- the index of a table's keys in scratch beside it, with room for as many orders as the table may hold; without heads there is none
pub record Beside (s heads nexts : List ℕ) : Type 0 where
  pub room : 1 ≤ length heads → limit_of (length s) ≤ length nexts
  pub indexed : 1 ≤ length heads → Indexed slot_keys s (count_in s) heads nexts

-- b is the bucket of a key in the index, where there is one
abbrev pub Bucket : (heads key : List ℕ) → ℕ → Type 0
Bucket heads key b = 1 ≤ length heads → b ≡ bucket_of (length heads) key
