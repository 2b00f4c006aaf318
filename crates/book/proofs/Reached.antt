-- Every table reached in a lent buffer: it is sound, it says what the state machine says at its limit, and it answers so.
use Prim.Native.Nat.{ℕ, ◌<◌}
use mathlib.Core.Path.{◌≡◌, ap, ap₂, ◌∙◌}
use mathlib.Core.Bool.{true}
use mathlib.Core.List.{List, [], ◌∷◌}
use lib.ListN.{length}
use Rattle.refusal.specs.Answer.{Answer}
use Rattle.day.specs.Demand3.{table_after, answer_to}
use Rattle.day.specs.Tables.{Table}
use Rattle.day.specs.Machine.{book as book_day}
use Rattle.table.specs.Tables.{limit_of, table_in, sound}
use Rattle.table.proofs.Making.{empty_holds, empty_sound}
use Rattle.book.specs.Bytes.{book_bytes, book_answer, bytes_after}
use Rattle.book.proofs.Lengths.{booked_length, day_length}
use Rattle.book.proofs.Machine.{booked_table, booked_answer, booked_sound}

-- bytes that say the table of a day: nothing is asked of how they came about
pub record Reached (limit : ℕ) (ps : List (List ℕ)) (s : List ℕ) : Type 0 where
  pub good : sound s ≡ true
  pub meant : limit_of (length s) ≡ limit
  pub says : table_in s ≡ table_after (book_day limit) ps

pub reached_empty : (before : List ℕ) → 0 < limit_of (length before) → Reached (limit_of (length before)) [] (bytes_after before [])
reached_empty before meant =
    record { good = empty_sound before meant; meant = ap limit_of (day_length before []); says = (empty_holds before meant).says }

module _ {limit : ℕ} {ps : List (List ℕ)} {s : List ℕ} (r : Reached limit ps s) (p : List ℕ) where
  pub reached_next : Reached limit (p ∷ ps) (book_bytes s p)
  reached_next =
      record {
        good = booked_sound s p r.good;
        meant = ap limit_of (booked_length s p) ∙ r.meant;
        says = booked_table s p r.good ∙ ap₂ {C = Table} (λ (n : ℕ) (t : Table). (book_day n t p).table) r.meant r.says;
      }

  pub reached_answer : book_answer s p ≡ answer_to (book_day limit) ps p
  reached_answer = booked_answer s p r.good ∙ ap₂ {C = Answer (Unit {0})} (λ (n : ℕ) (t : Table). (book_day n t p).answer) r.meant r.says

pub reached_bytes : (before : List ℕ) → 0 < limit_of (length before) → (ps : List (List ℕ)) → Reached (limit_of (length before)) ps (bytes_after before ps)
reached_bytes before meant [] = reached_empty before meant
reached_bytes before meant (p ∷ ps) = reached_next (reached_bytes before meant ps) p
