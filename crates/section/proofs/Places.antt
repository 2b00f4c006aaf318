-- Where the records of a section stand: one behind the other, within the bytes; and where their keys do.
use Prim.Native.Nat.{ℕ, ◌+◌, ◌-◌, ◌*◌, ◌≤◌, ◌<◌}
use native.Mathlib.Nat.{mul-le-mul_left, mul-add}
use native.Mathlib.Omega.{arith}
use mathlib.Core.Path.{◌≡◌, sym, ap, ◌∙◌}
use mathlib.Core.List.{List}
use lib.ListN.{length}
use lib.Seq.{sets, length-sets}
use Rattle.run.specs.Runs.{part}
use Rattle.section.specs.Sections.{start_of, record_of, Inside, Holds, KeyOf}
use Rattle.section.specs.declared.Section.{Section}
use Rattle.run.proofs.Parts.{length_part, part_part}

module _ (c : Section) where
  pub start_next : (i : ℕ) → start_of c (i + 1) ≡ start_of c i + c.step
  start_next i = omega (arith, mul-add c.step i 1)

  pub start_most : (i j : ℕ) → i ≤ j → start_of c i ≤ start_of c j
  start_most i j h = let more = mul-le-mul_left {m = i} {n = j} c.step h in omega arith

  pub start_before : (i j : ℕ) → i < j → start_of c i + c.step ≤ start_of c j
  start_before i j h = omega (arith, start_next i, start_most (i + 1) j (omega arith))

  pub length_record : (s : List ℕ) (i : ℕ) → Inside c s i → length (record_of c s i) ≡ c.width
  length_record s i h = length_part s (start_of c i) c.width h

  pub holds_fewer : {s : List ℕ} {n : ℕ} → Holds c s n → (i : ℕ) → i ≤ n → Holds c s i
  holds_fewer h i l = record { apart = h.apart; inside = λ j k. h.inside j (omega arith) }

  -- a store changes no length
  pub holds_stored : {s : List ℕ} {n : ℕ} → Holds c s n → (at : ℕ) (xs : List ℕ) → Holds c (sets s at xs) n
  holds_stored {s} h at xs = record { apart = h.apart; inside = λ i k. rw (length-sets s at xs) (h.inside i k) }

-- ---- the keys of records

module _ {k c : Section} (key : KeyOf k c) where
  key_start : (i : ℕ) → start_of c i + (k.first - c.first) ≡ start_of k i
  key_start i = let even : k.step * i ≡ c.step * i = ap (λ n. n * i) key.steps in omega (arith, key.from)

  pub key_in_record : (s : List ℕ) (i : ℕ) → record_of k s i ≡ part (record_of c s i) (k.first - c.first) k.width
  key_in_record s i =
      sym (part_part s (start_of c i) c.width (k.first - c.first) k.width (omega (arith, key.from, key.upto)) ∙ ap (λ at. part s at k.width) (key_start i))

  pub holds_keys : {s : List ℕ} {n : ℕ} → Holds c s n → Holds k s n
  holds_keys h =
      record {
        apart = omega (arith, key.steps, key.from, key.upto, h.apart);
        inside = λ i l. omega (arith, key_start i, key.from, key.upto, h.inside i l);
      }
