-- docs/LAYOUT.md, A record: writing names the first field that has a byte without meaning or breaks its rule. proofs/FirstField.antt proves it.
use Rattle.std.specs.Prelude.{ℕ, ◌≤◌, ◌<◌, ◌≡◌, true, List, ◌↔◌, length}
use Rattle.refusal.specs.Answer.{value, refused}
use Rattle.message.specs.First.{First}
use Rattle.image.specs.Images.{stands}
use Rattle.door.specs.Promises.{write_answer}

pub record FirstField : Type 0 where
  -- 01, Order of checks: writing a record: 4 first
  pub no_room : (b before : List ℕ) → (write_answer b before ≡ refused 4 0) ↔ (length before < 140)
  -- then 3, with the first field that does not stand
  pub named : (b before : List ℕ) (n : ℕ) → length b ≡ 138 → (write_answer b before ≡ refused 3 n) ↔ ((140 ≤ length before) × First 24 (stands b) n)
  -- 138 bytes are written exactly when every field stands
  pub written : (b before : List ℕ) → length b ≡ 138 → 140 ≤ length before
      → (write_answer b before ≡ value tt) ↔ ((n : ℕ) → 1 ≤ n → n ≤ 24 → stands b n ≡ true)
  -- bytes of another length count as 24, whatever they are
  pub other_length : (b before : List ℕ) → (length b ≡ 138 → ⊥) → 140 ≤ length before → write_answer b before ≡ refused 3 24
