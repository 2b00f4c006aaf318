-- Demand 3 leaves nothing open: any two bookings and sheets that meet it give, after any pieces, the same answers, the same table, the same sheet.
-- proofs/Settled.antt proves it.
use Rattle.std.specs.Prelude.{ℕ, ◌≡◌, List}
use Rattle.day.specs.Demand3.{Demand3, table_after, answer_to}
use Rattle.day.specs.Listing.{Sheet}
use Rattle.day.specs.Tables.{Table, Booked}

pub record Same (book book' : Table → List ℕ → Booked) (sheet sheet' : Table → Sheet) : Type 0 where
  pub answers : (ps : List (List ℕ)) (p : List ℕ) → answer_to book ps p ≡ answer_to book' ps p
  pub tables : (ps : List (List ℕ)) → table_after book ps ≡ table_after book' ps
  pub sheets : (ps : List (List ℕ)) → sheet (table_after book ps) ≡ sheet' (table_after book' ps)

abbrev pub Settled : Type 0
Settled =
    (limit : ℕ) (book book' : Table → List ℕ → Booked) (sheet sheet' : Table → Sheet)
    → Demand3 limit book sheet → Demand3 limit book' sheet' → Same book book' sheet sheet'
