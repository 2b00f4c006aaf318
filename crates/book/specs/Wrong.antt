-- Wrong bookings at the bytes of a lent table. proofs/Refuted.antt shows that none of them keeps the promise.
use Rattle.std.specs.Prelude.{ℕ, ◌≤◌, ◌≡◌, false, List, length, Result, Ok, Err}
use Rattle.refusal.specs.declared.Refusal.{Refusal}
use Rattle.table.specs.Tables.{limit_of, table_in, sound}
use Rattle.book.specs.Promises.{Books}

-- a booking: the table before and a piece give the answer and the table after
module _ (book : List ℕ → List ℕ → Result (Unit {0}) Refusal × List ℕ) where
  -- 01, Promises: the promise of `book::book`, "for any input"
  abbrev pub Keeps : Type 0
  Keeps = (before piece : List ℕ) → Books before piece (book before piece).0 (book before piece).1

  -- 01, Promises: "A booking that refuses everything": by whatever refusals, and whatever becomes of the table
  abbrev pub RefusesAll : Type 0
  RefusesAll = (before piece : List ℕ) → (x : Refusal) × ((book before piece).0 ≡ Err x)

  -- 01, Promises: "One that accepts and changes nothing": the table stays where it accepts, whatever else it does
  abbrev pub ChangesNothing : Type 0
  ChangesNothing = (before piece : List ℕ) → (book before piece).0 ≡ Ok tt → (book before piece).1 ≡ before

  -- 01, Promises: "or books the first line and merely nods at the rest": so where the table has an order already
  abbrev pub NodsAtRest : Type 0
  NodsAtRest = (before piece : List ℕ) → 1 ≤ length (table_in before).orders → (book before piece).0 ≡ Ok tt → (book before piece).1 ≡ before

  -- ours, from 00, demand 1: somewhere it refuses and the table is another, be it by one byte
  abbrev pub ChangesRefusing : Type 0
  ChangesRefusing =
      (before : List ℕ) × (piece : List ℕ) × (x : Refusal) × ((book before piece).0 ≡ Err x) × ((book before piece).1 ≡ before → ⊥)

  -- ours, from 01, Refusals by number, 5: somewhere it accepts in a damaged table
  abbrev pub BooksDamaged : Type 0
  BooksDamaged = (before : List ℕ) × (piece : List ℕ) × (sound before ≡ false) × ((book before piece).0 ≡ Ok tt)

  -- or in one of a length that has no meaning
  abbrev pub BooksOtherLength : Type 0
  BooksOtherLength = (before : List ℕ) × (piece : List ℕ) × (limit_of (length before) ≡ 0) × ((book before piece).0 ≡ Ok tt)
