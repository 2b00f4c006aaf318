-- The tender's demand 1, said of the promises of the door's fourteen entries, in the order of its sentences. proofs/Demand1.antt proves it.
use Rattle.std.specs.Prelude.{ℕ, ◌+◌, ◌*◌, ◌≤◌, ◌<◌, ◌≡◌, List, ◌⊎◌, get_or}
use Rattle.refusal.specs.Numbers.{number_of, field_of}
use Rattle.refusal.specs.declared.Refusal.{Refusal}
use Rattle.door.specs.Promises.{Reads, Writes, StrikeValues, StrikeForms, Clocks, Empties, Checks, Finds, OrdersAt, QuotesAt, BooksIn, BooksAllIn, SheetsIn, NextPieces}

-- one of the numbered refusals: a 3 names one of the 24 fields
abbrev pub Numbered : ℕ → Type 0
Numbered r = (x : Refusal) × (r ≡ number_of x + 256 * field_of x) × (number_of x ≡ 3 → (1 ≤ field_of x) × (field_of x ≤ 24))

-- a value, or one of the numbered refusals
abbrev pub Answers : ℕ → Type 0
Answers r = (r ≡ 0) ⊎ Numbered r

-- no value
abbrev pub Refuses : ℕ → Type 0
Refuses r = r ≡ 0 → ⊥

pub record Demand1 : Type 0 where
  -- "Each way in checks what it is given, ends, and answers with a value or one of the numbered refusals in the build paper."
  pub read_answers : (piece before : List ℕ) (kind r : ℕ) (after : List ℕ) (kind' : ℕ) → Reads piece before kind r after kind' → Answers r
  pub write_answers : (b before : List ℕ) (r : ℕ) (after : List ℕ) → Writes b before r after → Answers r
  pub strike_value_answers : (d n v r v' : ℕ) → StrikeValues d n v r v' → Answers r
  pub strike_form_answers : (v d n r d' n' : ℕ) → StrikeForms v d n r d' n' → Answers r
  pub clock_answers : (ms h m s t r h' m' s' t' : ℕ) → Clocks ms h m s t r h' m' s' t' → Answers r
  pub empty_table_answers : (before : List ℕ) (r : ℕ) (after : List ℕ) → Empties before r after → Answers r
  pub check_table_answers : (table : List ℕ) (r : ℕ) → Checks table r → Answers r
  pub find_order_answers : (table key : List ℕ) (p r p' : ℕ) → Finds table key p r p' → Answers r
  pub order_at_answers : (table : List ℕ) (i : ℕ) (before : List ℕ) (r : ℕ) (after : List ℕ) → OrdersAt table i before r after → Answers r
  pub quote_at_answers : (table : List ℕ) (i : ℕ) (before : List ℕ) (r : ℕ) (after : List ℕ) → QuotesAt table i before r after → Answers r
  pub book_answers : (before piece : List ℕ) (r : ℕ) (after : List ℕ) → BooksIn before piece r after → Answers r
  -- so is each answer that it gives, one for each piece
  pub book_all_answers : (table text answers : List ℕ) (used booked r : ℕ) (after given : List ℕ) (used' booked' : ℕ)
      → BooksAllIn table text answers used booked r after given used' booked' → Answers r × (r ≡ 0 → (i : ℕ) → i < booked' → Answers (get_or given i 0))
  pub sheet_answers : (table before : List ℕ) (n r : ℕ) (after : List ℕ) (n' : ℕ) → SheetsIn table before n r after n' → Answers r
  -- it never refuses
  pub next_piece_answers : (text : List ℕ) (at r e' : ℕ) → NextPieces text at r e' → r ≡ 0
  -- "A refusal changes neither the table nor one byte of the caller's buffer.": nor a lent number. To check a table lends nothing to change
  pub read_stays : (piece before : List ℕ) (kind r : ℕ) (after : List ℕ) (kind' : ℕ)
      → Reads piece before kind r after kind' → Refuses r → (after ≡ before) × (kind' ≡ kind)
  pub write_stays : (b before : List ℕ) (r : ℕ) (after : List ℕ) → Writes b before r after → Refuses r → after ≡ before
  pub strike_value_stays : (d n v r v' : ℕ) → StrikeValues d n v r v' → Refuses r → v' ≡ v
  pub strike_form_stays : (v d n r d' n' : ℕ) → StrikeForms v d n r d' n' → Refuses r → (d' ≡ d) × (n' ≡ n)
  pub clock_stays : (ms h m s t r h' m' s' t' : ℕ)
      → Clocks ms h m s t r h' m' s' t' → Refuses r → (h' ≡ h) × (m' ≡ m) × (s' ≡ s) × (t' ≡ t)
  pub empty_table_stays : (before : List ℕ) (r : ℕ) (after : List ℕ) → Empties before r after → Refuses r → after ≡ before
  pub find_order_stays : (table key : List ℕ) (p r p' : ℕ) → Finds table key p r p' → Refuses r → p' ≡ p
  pub order_at_stays : (table : List ℕ) (i : ℕ) (before : List ℕ) (r : ℕ) (after : List ℕ)
      → OrdersAt table i before r after → Refuses r → after ≡ before
  pub quote_at_stays : (table : List ℕ) (i : ℕ) (before : List ℕ) (r : ℕ) (after : List ℕ)
      → QuotesAt table i before r after → Refuses r → after ≡ before
  pub book_stays : (before piece : List ℕ) (r : ℕ) (after : List ℕ) → BooksIn before piece r after → Refuses r → after ≡ before
  pub book_all_stays : (table text answers : List ℕ) (used booked r : ℕ) (after given : List ℕ) (used' booked' : ℕ)
      → BooksAllIn table text answers used booked r after given used' booked' → Refuses r
      → (after ≡ table) × (given ≡ answers) × (used' ≡ used) × (booked' ≡ booked)
  pub sheet_stays : (table before : List ℕ) (n r : ℕ) (after : List ℕ) (n' : ℕ)
      → SheetsIn table before n r after n' → Refuses r → (after ≡ before) × (n' ≡ n)
