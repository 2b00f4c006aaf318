-- Soundness taken apart and put together: bytes are sound exactly where they hold a table that is undamaged.
use Prim.Native.Nat.{ℕ, zero, suc, ◌+◌, ◌≤◌, ◌<◌}
use native.Mathlib.Omega.{arith}
use mathlib.Core.Path.{◌≡◌, refl, ap, ◌∙◌}
use mathlib.Core.Bool.{Bool, true, false}
use mathlib.Core.List.{List}
use borrow.Author.Tests.{ltb-true, leb-true, lt-ltb, le-leb, eqb-true, eqb-false}
use lib.Dec.{ltb, leb, eqb}
use lib.ListN.{length, get_or}
use Rattle.run.specs.Runs.{all, is_zero}
use Rattle.day.specs.Damage.{orders_undamaged, undamaged}
use Rattle.day.proofs.QuoteRows.{rows_apart}
use Rattle.day.specs.Tables.{Table}
use Rattle.slot.specs.Places.{slot_at}
use Rattle.quote_slot.specs.QuoteSlots.{row_at}
use Rattle.quote_slot.proofs.Laws.{length_rows}
use Rattle.table.specs.Tables.{limit_of, count_in, row_count_in, base_in, spare_in, table_in, tail_zero, tails_zero, header_sound, slots_sound, rows_sound, sound}
use Rattle.run.proofs.Tests.{both}
use Rattle.table.proofs.Holding.{TailZero, Holds}
use Rattle.table.proofs.Limits.{slots_inside, rows_inside}

-- ---- tails, all and each

pub tails_each : (i n : ℕ) (s : List ℕ) → tails_zero i n s ≡ true → (k : ℕ) → i ≤ k → k < i + n → TailZero s k
tails_each i zero s z k h l = absurd (omega arith)
tails_each i (suc n) s z k h l =
    let b = both (tail_zero s i) (tails_zero (i + 1) n s) z in
    go (eqb k i) refl b.0 (tails_each (i + 1) n s b.1 k)
  where
    go : (t : Bool) → eqb k i ≡ t → TailZero s i → (i + 1 ≤ k → k < i + 1 + n → TailZero s k) → TailZero s k
    go true q first rest = rw (eqb-true k i q) first
    go false q first rest = rest (omega (arith, eqb-false k i q)) (omega arith)

each_tails : (i n : ℕ) (s : List ℕ) → ((k : ℕ) → i ≤ k → k < i + n → TailZero s k) → tails_zero i n s ≡ true
each_tails i zero s h = refl
each_tails i (suc n) s h = rw (h i (omega arith) (omega arith)) (each_tails (i + 1) n s (λ k a b. h k (omega arith) (omega arith)))

-- ---- sound

-- a sound table: its bytes hold it, and its orders and quote rows are undamaged
pub record Sound (s : List ℕ) : Type 0 where
  pub bytes : Holds s (table_in s)
  pub orders : undamaged (limit_of (length s)) (table_in s) ≡ true

pub sound_apart : (s : List ℕ) → sound s ≡ true → Sound s
unfolding sound
sound_apart s e =
    let limit = limit_of (length s) in
    let whole = both _ (rows_sound s) e in
    let parts = both _ (slots_sound s) whole.0 in
    let slots = both (tails_zero 0 (count_in s) s) (orders_undamaged limit (table_in s).orders) parts.1 in
    let front = both _ (header_sound s) parts.0 in
    let fits = (rows_apart (table_in s).quotes whole.1).fits in
    let header = both (leb (get_or s 4 0) 1) (all is_zero (spare_in s)) front.1 in
    let count = both (ltb 0 limit) (leb (count_in s) limit) front.0 in
    let bytes : Holds s (table_in s) =
    record {
      meant = ltb-true 0 limit count.0;
      few = leb-true (count_in s) limit count.1;
      few_rows = omega (arith, fits, length_rows (base_in s) (row_count_in s) s);
      mark = leb-true (get_or s 4 0) 1 header.0;
      spare = header.1;
      tails = λ k l. tails_each 0 (count_in s) s slots.0 k (omega arith) (omega arith);
      says = refl;
    } in
    record { bytes = bytes; orders = rw (slots.1, whole.1) }

pub holds_sound : {s : List ℕ} {t : Table} → Holds s t → undamaged (limit_of (length s)) t ≡ true → sound s ≡ true
unfolding sound
holds_sound {s} h u =
    rw (
      lt-ltb 0 (limit_of (length s)) h.meant,
      le-leb (count_in s) (limit_of (length s)) h.few,
      le-leb (get_or s 4 0) 1 h.mark,
      h.spare,
      each_tails 0 (count_in s) s (λ k a b. h.tails k (omega arith)),
    )
    (ap (undamaged (limit_of (length s))) h.says ∙ u)

-- ---- what is inside

pub header_there : (s : List ℕ) → sound s ≡ true → 8 ≤ length s
header_there s e = omega (arith, slots_inside (length s) 0 (sound_apart s e).bytes.meant (omega arith))

pub slots_there : (s : List ℕ) → sound s ≡ true → slot_at (count_in s) ≤ length s
slots_there s e = let b = (sound_apart s e).bytes in slots_inside (length s) (count_in s) b.meant b.few

pub rows_there : (s : List ℕ) → sound s ≡ true → row_at (base_in s) (row_count_in s) ≤ length s
rows_there s e = let b = (sound_apart s e).bytes in rows_inside (length s) (row_count_in s) b.meant b.few_rows
