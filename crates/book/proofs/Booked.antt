-- The ways out of booking a piece, each as the promise says it.
use Prim.Native.Nat.{ℕ, ◌+◌, ◌<◌}
use native.Mathlib.Omega.{arith}
use mathlib.Core.Path.{◌≡◌, refl, ap, ap₂, ◌∙◌}
use mathlib.Core.Bool.{Bool, true, false, cond}
use mathlib.Core.List.{List, [], ◌∷◌}
use lib.Dec.{eqb}
use lib.ListN.{length}
use lib.Seq.{sets, length-sets}
use Rattle.std.specs.Prelude.{Result, Ok, Err}
use Rattle.refusal.specs.Answer.{value, refused_by}
use Rattle.refusal.specs.declared.Refusal.{Refusal}
use Rattle.refusal.specs.declared.Refusal.TheVariants.{Damaged, DayOver}
use Rattle.run.specs.Runs.{part}
use Rattle.run.proofs.Parts.{part_part}
use Rattle.layout.proofs.Names.{source_said, token_said, said_length}
use Rattle.layout.specs.Line.{Said, line, end_of_day, read}
use Rattle.layout.specs.declared.Record.{Record}
use Rattle.order.specs.Names.{key_of}
use Rattle.order.specs.declared.Figures.{Figures}
use Rattle.order.specs.declared.Order.{Order}
use Rattle.quote.specs.declared.QuoteRow.{QuoteRow}
use Rattle.day.specs.Machine.{place, refusal_of, with_figures, with_price, new_order}
use Rattle.slot.specs.Slots.{key_in, order_in, slot_bytes}
use Rattle.slot.specs.Places.{slot, slot_at, SlotInside}
use Rattle.quote_slot.specs.QuoteSlots.{row_at, row_in, row_bytes}
use Rattle.table.specs.Changes.{changed_at, appended, row_of, row_appended}
use Rattle.table.specs.Tables.{count_in, limit_of, base_in, sound, table_in}
use Rattle.lookup.specs.Beside.{Beside}
use Rattle.lookup.proofs.Beside.{over_beside, changed_beside, row_changed_beside, row_appended_beside}
use Rattle.table.proofs.Holding.{count_kept}
use Rattle.table.proofs.Sound.{sound_apart}
use Rattle.book.specs.Bytes.{book_bytes, book_answer}
use Rattle.book.specs.Plans.{refigured, resummed, Plans, BooksSaid, after_plan}
use Rattle.book.specs.Promises.{Books}
use Rattle.book.specs.declared.Plan.{Plan}
use Rattle.book.specs.declared.Plan.TheVariants.{Replace}

-- ---- the line of a record

-- its key stands where the lookup is lent it: 01, The line: 10, 11
pub own_place : (s : List ℕ) (r : Record) (os : List Order) (n : ℕ) → read s ≡ value (line r) → (length s ≡ 140 → n ≡ place (key_in (part s 30 26)) os)
    → n ≡ place (key_of r) os
own_place s r os n e h =
    let source : part (part s 30 26) 0 6 ≡ r.source = part_part s 30 26 0 6 (omega arith) ∙ source_said s r e in
    let token : part (part s 30 26) 6 20 ≡ r.token = part_part s 30 26 6 20 (omega arith) ∙ token_said s r e in
    h (said_length s r e) ∙ ap₂ (λ (x y : List ℕ). place (record { source = x; token = y }) os) source token

-- ---- what is stored

-- a changed order leaves the free slot where it was, and the index beside the table
module _ (s u : List ℕ) (i : ℕ) where
  pub free_kept : (f : Figures) → u ≡ refigured i f s → count_in s < limit_of (length s) → count_in u < limit_of (length u)
  free_kept f e h =
      let b = slot_bytes (with_figures (λ (old : Figures). f) (order_in (slot s i))) in
      rw (e, count_kept s b (slot_at i) (omega arith), length-sets s (slot_at i) b) h

  module _ {heads nexts : List ℕ} (h : SlotInside i s) (x : Beside s heads nexts) where
    pub refigured_beside : (f : Figures) → u ≡ refigured i f s → Beside u heads nexts
    refigured_beside f e = rw e (changed_beside x i (with_figures (λ (old : Figures). f)) h refl refl)

    pub repriced_beside : (p : ℕ) → u ≡ changed_at i (with_price p) s → Beside u heads nexts
    repriced_beside p e = rw e (changed_beside x i (with_price p) h refl refl)

-- 02, 1: a quote row stored with other sums, its quote as it was read
pub resummed_by : (s u : List ℕ) (i executed broken : ℕ) (w : QuoteRow) → w ≡ row_in (row_of s i)
    → u ≡ sets s (row_at (base_in s) i) (row_bytes (record { quote = w.quote; executed = executed; broken = broken })) → u ≡ resummed i executed broken s
resummed_by s u i executed broken w e f =
    f ∙ ap (λ (v : QuoteRow). sets s (row_at (base_in s) i) (row_bytes (record { quote = v.quote; executed = executed; broken = broken }))) e

-- and its stores leave the index beside a sound table
module _ {s heads nexts : List ℕ} (good : sound s ≡ true) (x : Beside s heads nexts) (u : List ℕ) where
  pub resummed_beside : (i executed broken : ℕ) → u ≡ resummed i executed broken s → Beside u heads nexts
  resummed_beside i executed broken e =
      rw e (row_changed_beside x (sound_apart s good).bytes.few i (λ (old : QuoteRow). record { quote = old.quote; executed = executed; broken = broken }))

  pub made_beside : (w : QuoteRow) → u ≡ row_appended w s → Beside u heads nexts
  made_beside w e = rw e (row_appended_beside x (sound_apart s good).bytes.few w)

-- what carrying out a plan cites of them
pub ruleset kept_beside = (free_kept, refigured_beside, repriced_beside, made_beside)

-- the elder's figures, then the order that names it
pub one_replaced : (s u v : List ℕ) (i : ℕ) (f : Figures) (r : Record) (o : Order) → u ≡ refigured i f s → o ≡ new_order r r.contracts (i + 1) → v ≡ appended o u
    → v ≡ after_plan (Replace i f) r s
one_replaced s u v i f r o e k g = g ∙ ap₂ appended k e

-- ---- a plan is carried out

pub planned : {s : List ℕ} {r : Record} {p : Plan} {after : List ℕ} → Plans s r (Ok p) → after ≡ after_plan p r s → BooksSaid s (line r) (Ok tt) after
planned plan e = record { said = plan.said; out = e ∙ plan.out }

pub unplanned : {s : List ℕ} {r : Record} {x : Refusal} → Plans s r (Err x) → BooksSaid s (line r) (Err x) s
unplanned plan = record { said = plan.said; out = plan.out }

-- ---- end of day

pub over_before : (s : List ℕ) → (table_in s).over ≡ true → BooksSaid s end_of_day (Err DayOver) s
over_before s e = record { said = rw e; out = rw e }

pub over_now : (s after : List ℕ) → (table_in s).over ≡ false → after ≡ sets s 4 (1 ∷ []) → BooksSaid s end_of_day (Ok tt) after
over_now s after e f = record { said = rw e; out = rw e f }

pub end_beside : {s : List ℕ} {b : Result (Unit {0}) Refusal} {after heads nexts : List ℕ} → BooksSaid s end_of_day b after → Beside s heads nexts → Beside after heads nexts
end_beside {s} {heads = heads} {nexts = nexts} k x = rw k.out (go (eqb (refusal_of (limit_of (length s)) (table_in s) end_of_day) 0))
  where
    go : (t : Bool) → Beside (cond t (sets s 4 (1 ∷ [])) s) heads nexts
    go true = over_beside x
    go false = x

-- ---- a piece

pub damaged : (s piece : List ℕ) → sound s ≡ false → Books s piece (Err Damaged) s
unfolding book_bytes book_answer
damaged s piece e = record { said = rw e; out = rw e }

module _ (s piece : List ℕ) (e : sound s ≡ true) where
  pub unread : (x : Refusal) → refused_by x ≡ read piece → Books s piece (Err x) s
  unfolding book_bytes book_answer
  unread x f = record { said = rw (e, ← f); out = rw (e, ← f) }

  pub read_as : (x : Said) (b : Result (Unit {0}) Refusal) (after : List ℕ) → value x ≡ read piece → BooksSaid s x b after → Books s piece b after
  unfolding book_bytes book_answer
  read_as x b after f k = record { said = rw (e, ← f) k.said; out = rw (e, ← f) k.out }
