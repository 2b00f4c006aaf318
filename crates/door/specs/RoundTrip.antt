-- Reading and writing through the door undo each other. proofs/RoundTrip.antt proves it.
use Rattle.std.specs.Prelude.{ℕ, ◌≤◌, ◌≡◌, List, ◌++◌, length, take, drop}
use Rattle.image.specs.Images.{IsBytes}
use Rattle.door.specs.Promises.{Reads, Writes}

pub record RoundTrip : Type 0 where
  -- a piece was read as the bytes b of a record: they are written as that piece, whatever stood in the lent line
  pub line_back : (piece room : List ℕ) (kind : ℕ) (b : List ℕ) → length room ≡ 138 → Reads piece room kind 0 b 1
      → (before : List ℕ) → 140 ≤ length before → (k : ℕ) (after : List ℕ) → Writes b before k after
      → (k ≡ 0) × (after ≡ piece ++ drop 140 before)
  -- the bytes b of a record were written as a line: it is read as those bytes, whatever stood in the lent record
  pub record_back : (b before after : List ℕ) → IsBytes b → Writes b before 0 after
      → (room : List ℕ) → 138 ≤ length room → (kind k : ℕ) (out : List ℕ) (kind' : ℕ) → Reads (take 140 after) room kind k out kind'
      → (k ≡ 0) × (kind' ≡ 1) × (out ≡ b ++ drop 138 room)
