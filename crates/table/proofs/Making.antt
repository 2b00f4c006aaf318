-- Making the empty table: each answer keeps the promise, and the table made is sound and empty.
use Prim.Native.Nat.{ℕ, ◌<◌, ◌≤◌}
use native.Mathlib.Nat.{zero-add}
use native.Mathlib.Omega.{arith}
use mathlib.Core.Path.{◌≡◌, refl, sym, ap, ◌∙◌}
use mathlib.Core.Bool.{true}
use mathlib.Core.List.{List}
use lib.Dec.{eqb}
use borrow.Author.Tests.{lt-ltb, le-ltb, le-leb}
use lib.ListN.{length, get_or, replicate, length-replicate}
use lib.Seq.{sets, length-sets}
use Rattle.std.specs.Prelude.{Ok, Err}
use Rattle.refusal.specs.Answer.{value}
use Rattle.refusal.specs.declared.Refusal.TheVariants.{NoRoom, Damaged}
use Rattle.cell.specs.Cells.{le}
use Rattle.day.specs.Tables.{empty}
use Rattle.run.proofs.Parts.{get_d_part, part_whole, part_inside}
use Rattle.day.proofs.Tables.{table_eq}
use Rattle.table.specs.Promises.{Makes}
use Rattle.slot.specs.Places.{orders_in}
use Rattle.quote.specs.Quotes.{most_rows}
use Rattle.quote_slot.specs.QuoteSlots.{rows_in}
use Rattle.table.specs.Tables.{table_length, least_limit, limit_of, count_in, row_count_in, base_in, sound, make_answer, made_from}
use Rattle.table.proofs.Holding.{Holds}
use Rattle.table.proofs.Limits.{limit_is, limit_least, slots_inside}
use Rattle.table.proofs.Sound.{holds_sound}

-- ---- the three answers

pub too_short : (s : List ℕ) → length s < table_length least_limit → Makes s (Err NoRoom) s
too_short s h = let short = lt-ltb (length s) (table_length least_limit) h in record { said = rw short; out = rw short }

pub no_meaning : (s : List ℕ) → table_length least_limit ≤ length s → limit_of (length s) ≡ 0 → Makes s (Err Damaged) s
no_meaning s h z = let long = le-ltb (length s) (table_length least_limit) h in record { said = rw (long, z); out = rw (long, z) }

-- a buffer whose length has a meaning is never refused
pub taken : (s : List ℕ) → 0 < limit_of (length s) → make_answer s ≡ value tt
taken s h = rw (le-ltb (length s) (table_length least_limit) (limit_least (length s) h), lt-ltb 0 (limit_of (length s)) h)

pub made : (s after : List ℕ) → 0 < limit_of (length s) → after ≡ sets s 0 (replicate 8 0) → Makes s (Ok tt) after
made s after h e = let answer = taken s h in record { said = sym answer; out = e ∙ ap (λ a. made_from a s) (sym answer) }

-- ---- the table made

-- its bytes hold the empty table
module _ (before : List ℕ) (h : 0 < limit_of (length before)) where
  abbrev zeros : List ℕ
  zeros = replicate 8 0

  abbrev s : List ℕ
  s = sets before 0 zeros

  pub empty_holds : Holds s empty
  empty_holds =
      let room = slots_inside (length before) 0 h (omega arith) in
      let inside = part_inside before zeros 0 in
      let count : count_in s ≡ 0 = ap le (inside 0 4 (omega arith) (omega arith) (omega arith)) in
      let zero_at : (i : ℕ) → i < 8 → get_or s i 0 ≡ get_or zeros i 0 =
      λ i l. rw (zero-add i) at (sym (get_d_part s 0 8 i l) ∙ ap (λ l. get_or l i 0) (part_whole before zeros 0 8 (omega arith) refl)) in
      let mark : get_or s 4 0 ≡ 0 = zero_at 4 (omega arith) in
      let no_rows : row_count_in s ≡ 0 = zero_at 5 (omega arith) in
      record {
        meant = rw (length-sets before 0 zeros) h;
        few = rw count (omega arith);
        few_rows = rw no_rows (omega arith);
        mark = omega arith;
        spare = rw (inside 6 2 (omega arith) (omega arith) (omega arith));
        tails = λ k l. absurd (omega arith);
        says = table_eq (ap (λ n. orders_in 0 n s) count) (ap (λ n. rows_in (base_in s) n s) no_rows) (ap (λ b. eqb b 1) mark);
      }

  pub empty_sound : sound s ≡ true
  empty_sound = holds_sound empty_holds (rw (le-leb 0 (limit_of (length s)) (omega arith), le-leb 0 most_rows (omega arith)))

-- ---- a buffer to make it in

-- shut, so that its bytes are never computed
pub blank : List ℕ
blank = replicate (table_length least_limit) 0

pub blank_limit : limit_of (length blank) ≡ least_limit
unfolding blank
blank_limit = sym (limit_is (length blank) (length-replicate {A = ℕ} (table_length least_limit) 0))

pub blank_meant : 0 < limit_of (length blank)
blank_meant = rw blank_limit (omega arith)
