-- What a turn of `sheet_run::take` keeps: the calls that go on with what is left of the chunk are calls with all of it.
use Prim.Native.Nat.{ℕ, ◌+◌, ◌-◌, ◌≤◌, ◌<◌}
use native.Mathlib.Omega.{arith}
use mathlib.Core.Path.{◌≡◌, ap, subst, ◌∙◌}
use mathlib.Core.Bool.{true}
use mathlib.Core.List.{List, ◌++◌, append_assoc}
use lib.ListN.{length, take, drop, length-drop, drop_of_length-le}
use lib.Seq.{take_all, drop-drop}
use Rattle.table.specs.Tables.{sound}
use Rattle.feed.specs.Steps.{Between, between_of, Held, longest, Step, used_of, text_in, kept_in, step_from, Fits}
use Rattle.feed.specs.Whole.{Calls}
use Rattle.feed.specs.Whole.Calls.{call}
use Rattle.feed.specs.declared.Fed.{Fed}
use Rattle.feed.proofs.Advancing.{Took, took}
use Rattle.sheet_run.specs.Promises.{Leads}

-- x is the state before the chunk, `first` and `before` the table and the output buffer as they were; the others are as they are at a turn
pub record Turn (x : Between) (chunk first before t : List ℕ) (hold : Held) (out : List ℕ) (used : ℕ) : Type 0 where
  pub said : List ℕ
  pub onward : (rest : List ℕ) {z : Between} {last : List ℕ} → Calls (between_of hold t) (drop used chunk ++ rest) z last
      → Calls x (chunk ++ rest) z (said ++ last)
  pub inside : used ≤ length chunk
  pub same : length out ≡ length before
  pub good : sound t ≡ true
  pub table : length t ≡ length first

-- the chunk is used up
pub all_taken : {x : Between} {chunk first before t : List ℕ} {hold : Held} {out : List ℕ} {used : ℕ} → Turn x chunk first before t hold out used → length chunk ≤ used
    → Leads x chunk (between_of hold t)
all_taken {chunk} turn h = record { said = turn.said; onward = λ {z} {rest} c. turn.onward rest (rw (drop_of_length-le chunk h) c) }

-- ---- the next step, over what is left of the chunk

module _ {x : Between} {chunk first before t : List ℕ} {hold : Held} {out : List ℕ} {used : ℕ} (turn : Turn x chunk first before t hold out used)
    (more : used < length chunk) (room : longest ≤ length before)
    {r : Fed} {t₁ : List ℕ} {hold₁ : Held} {out₁ : List ℕ}
    (f : Fits (step_from (length out) (between_of hold t) (take (length chunk - used) (drop used chunk))) out r t₁ hold₁ out₁) where
  pub one_step : Took chunk used out r out₁
  one_step = took chunk used (between_of hold t) out more (omega (arith, turn.same)) f

  abbrev left : List ℕ
  left = take (length chunk - used) (drop used chunk)

  abbrev y : Between
  y = between_of hold t

  abbrev step : Step
  step = step_from (length out) y left

  all_left : left ≡ drop used chunk
  all_left = take_all (length chunk - used) (drop used chunk) (rw length-drop (omega arith))

  left_over : drop (used_of step) left ≡ drop (used + r.used) chunk
  left_over = rw (← f.used) (ap (drop r.used) all_left ∙ drop-drop r.used used chunk)

  goes_on : (rest : List ℕ) {z : Between} {last : List ℕ} → Calls (between_of hold₁ t₁) (drop (used + r.used) chunk ++ rest) z last
      → Calls y (drop used chunk ++ rest) z (text_in step ++ last)
  goes_on rest {z} {last} c =
      let here : Calls (kept_in step) (drop (used_of step) left ++ rest) z last = rw (left_over, ← f.kept) c in
      subst (λ l. Calls y (l ++ rest) z (text_in step ++ last)) all_left (call left rest (length out) here)

  pub next_turn : sound t₁ ≡ true → length t₁ ≡ length t → Turn x chunk first before t₁ hold₁ out₁ (used + r.used)
  next_turn good same =
      record {
        said = turn.said ++ text_in step;
        onward = λ rest {z} {last} c. rw (append_assoc turn.said (text_in step) last) (turn.onward rest (goes_on rest c));
        inside = one_step.inside;
        same = one_step.same ∙ turn.same;
        good = good;
        table = same ∙ turn.table;
      }
