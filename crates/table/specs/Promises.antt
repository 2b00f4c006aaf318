-- What each public entry of this crate promises: its answer in the paper's numbers and values, and each lent byte.
use Rattle.std.specs.Prelude.{ℕ, ◌≡◌, List, Result}
use Rattle.refusal.specs.Answer.{answer_of}
use Rattle.refusal.specs.declared.Refusal.{Refusal}
use Rattle.section.specs.declared.Section.{Section}
use Rattle.slot.specs.Places.{slots}
use Rattle.quote_slot.specs.QuoteSlots.{rows}
use Rattle.table.specs.Entries.{look_up_answer, copy_answer, copied_from}
use Rattle.table.specs.Tables.{count_in, row_count_in, base_in, make_answer, made_from}

-- `table::make_empty`: `after` is the lent buffer when it returns
pub record Makes (before : List ℕ) (x : Result (Unit {0}) Refusal) (after : List ℕ) : Type 0 where
  pub said : answer_of x ≡ make_answer before
  pub out : after ≡ made_from (make_answer before) before

-- `table::look_up`
pub record LooksUp (table key : List ℕ) (x : Result ℕ Refusal) : Type 0 where
  pub said : answer_of x ≡ look_up_answer table key

-- record i of the n that a section of a table has: `after` is the lent buffer when it returns
pub record CopiesOf (c : Section) (n : ℕ) (table : List ℕ) (i : ℕ) (before : List ℕ) (x : Result (Unit {0}) Refusal) (after : List ℕ) : Type 0 where
  pub said : answer_of x ≡ copy_answer c n table i before
  pub out : after ≡ copied_from (copy_answer c n table i before) c table i before

-- `table::copy_order`
abbrev pub Copies : (table : List ℕ) (i : ℕ) (before : List ℕ) (x : Result (Unit {0}) Refusal) (after : List ℕ) → Type 0
Copies table = CopiesOf slots (count_in table) table

-- `table::copy_row`
abbrev pub CopiesRow : (table : List ℕ) (i : ℕ) (before : List ℕ) (x : Result (Unit {0}) Refusal) (after : List ℕ) → Type 0
CopiesRow table = CopiesOf (rows (base_in table)) (row_count_in table) table
