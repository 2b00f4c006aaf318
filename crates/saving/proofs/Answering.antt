-- Each answer of saving keeps the promise.
use Prim.Native.Nat.{ℕ}
use native.Mathlib.Nat.{zero-add}
use mathlib.Core.Path.{◌≡◌, refl, sym, ap, ◌∙◌}
use mathlib.Core.Bool.{true, false}
use mathlib.Core.List.{List}
use borrow.Author.Tests.{leb-true, leb-false, le-ltb, lt-ltb}
use lib.Dec.{leb}
use lib.ListN.{length}
use Rattle.std.specs.Prelude.{Result, Ok, Err}
use Rattle.refusal.specs.Answer.{Answer, value, refused, answer_of}
use Rattle.refusal.specs.declared.Refusal.{Refusal}
use Rattle.refusal.specs.declared.Refusal.TheVariants.{NoRoom, Damaged}
use Rattle.groups.specs.Groups.{Puts}
use Rattle.table.specs.Tables.{sound}
use Rattle.saving.specs.Promises.{day_of, save_answer, save_from, Saves}

module _ (s before : List ℕ) where
  answered : {after : List ℕ} {x : Result ℕ Refusal} (answer : Answer ℕ) → save_answer s before ≡ answer → answer_of x ≡ answer → after ≡ save_from answer s before
      → Saves s before x after
  answered answer e p q = record { said = p ∙ sym e; out = q ∙ ap (λ (a : Answer ℕ). save_from a s before) (sym e) }

  -- 5
  unsound : sound s ≡ false → save_answer s before ≡ refused 5 0
  unfolding save_answer
  unsound e = rw e

  pub damaged : sound s ≡ false → Saves s before (Err Damaged) before
  damaged e = answered (refused 5 0) (unsound e) refl refl

  module _ (good : sound s ≡ true) where
    -- 4
    short : leb (length (day_of s)) (length before) ≡ false → save_answer s before ≡ refused 4 0
    unfolding save_answer
    short e = rw (good, lt-ltb (length before) (length (day_of s)) (leb-false (length (day_of s)) (length before) e))

    pub no_room : leb (length (day_of s)) (length before) ≡ false → Saves s before (Err NoRoom) before
    no_room e = answered (refused 4 0) (short e) refl refl

    -- the bytes
    pub roomy : leb (length (day_of s)) (length before) ≡ true → save_answer s before ≡ value (length (day_of s))
    unfolding save_answer
    roomy e = rw (good, le-ltb (length before) (length (day_of s)) (leb-true (length (day_of s)) (length before) e))

    pub done : {after : List ℕ} {n : ℕ} → leb (length (day_of s)) (length before) ≡ true → Puts (day_of s) 0 before n after → Saves s before (Ok n) after
    done e p = answered (value (length (day_of s))) (roomy e) (ap value (p.next ∙ zero-add (length (day_of s)))) p.stored
