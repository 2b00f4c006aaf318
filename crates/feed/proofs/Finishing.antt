-- The end of the text: a buffer with room for the longest sheet is never too short for it, and with a refusal line more not for the last piece.
use Prim.Native.Nat.{ℕ, ◌+◌, ◌-◌, ◌≤◌, ◌<◌}
use native.Mathlib.Omega.{arith}
use mathlib.Core.Path.{◌≡◌, refl, sym, ap, subst, ◌∙◌}
use mathlib.Core.Bool.{true}
use mathlib.Core.List.{List, [], ◌∷◌}
use borrow.Author.Tests.{le-ltb}
use lib.ListN.{length, drop, length-append, length-take, length-drop}
use lib.Seq.{length-sets}
use Rattle.std.specs.Prelude.{Result, Ok, Err, IsOk}
use Rattle.refusal.specs.Answer.{Answer, value, answer_of}
use Rattle.refusal.specs.declared.Refusal.{Refusal}
use Rattle.table.specs.Tables.{table_length, least_limit, limit_of, sound}
use Rattle.table.proofs.Limits.{limit_is}
use Rattle.book.proofs.Lengths.{booked_length}
use Rattle.book.proofs.Machine.{booked_sound}
use Rattle.row.specs.Writes.{Wrote}
use Rattle.sheet.specs.Promises.{text_of, sheet_answer, sheet_from, Sheets}
use Rattle.sheet.specs.Texts.{longest_sheet}
use Rattle.sheet.proofs.Bound.{sheet_bound, least_sheet}
use Rattle.sheet.proofs.Joining.{lent, back, one_text}
use Rattle.feed.specs.Steps.{Between, between, longest, last_said, last_table, finished, room_at_end}
use Rattle.feed.proofs.Longest.{said_most}

-- ---- the sheet

module _ (s before : List ℕ) (e : sound s ≡ true) (h : longest_sheet (limit_of (length s)) ≤ length before) where
  sheet_done : sheet_answer s before ≡ value (length (text_of s))
  unfolding sheet_answer
  sheet_done = rw (e, le-ltb (length before) (length (text_of s)) (omega (arith, sheet_bound s e)))

  pub never_refused : (x : Result ℕ Refusal) {after : List ℕ} → Sheets s before x after → IsOk x
  never_refused (Ok n) w = refl
  never_refused (Err y) w = let none = w.said ∙ sheet_done in cc

  pub sheet_written : {x : Result ℕ Refusal} {n : ℕ} {after : List ℕ} → x ≡ Ok n → Sheets s before x after → Wrote (text_of s) before after n
  sheet_written {x} {n} q w =
      let said : value n ≡ value (length (text_of s)) = ap answer_of (sym q) ∙ w.said ∙ sheet_done in
      record { long = cc; out = w.out ∙ ap (λ (a : Answer ℕ). sheet_from a s before) sheet_done }

-- ---- the last piece, and the sheet behind it

last_most : (x : Between) → length (last_said x) ≤ longest
last_most (between [] l t) = omega arith
last_most (between (b ∷ p) l t) = said_most l t (b ∷ p)

last_sound : (held : List ℕ) (l : ℕ) (t : List ℕ) → sound t ≡ true → sound (last_table (between held l t)) ≡ true
last_sound [] l t e = e
last_sound (b ∷ p) l t e = booked_sound t (b ∷ p) e

last_limit : (held : List ℕ) (l : ℕ) (t : List ℕ) → limit_of (length (last_table (between held l t))) ≡ limit_of (length t)
last_limit [] l t = refl
last_limit (b ∷ p) l t = ap limit_of (booked_length t (b ∷ p))

last_bound : (held : List ℕ) (l : ℕ) (t : List ℕ) → sound t ≡ true → length (text_of (last_table (between held l t))) ≤ longest_sheet (limit_of (length t))
last_bound held l t e =
    let last = last_table (between held l t) in
    subst (λ (limit : ℕ). length (text_of last) ≤ longest_sheet limit) (last_limit held l t) (sheet_bound last (last_sound held l t e))

pub finished_most : (held : List ℕ) (l : ℕ) (t : List ℕ) → sound t ≡ true → length (finished (between held l t)) ≤ room_at_end (limit_of (length t))
finished_most held l t e =
    let x = between held l t in
    omega (arith, length-append (last_said x) (text_of (last_table x)), last_most x, last_bound held l t e)

module _ (held : List ℕ) (l : ℕ) (t : List ℕ) {t₁ : List ℕ} (e : t₁ ≡ last_table (between held l t)) where
  pub table_sound : sound t ≡ true → sound t₁ ≡ true
  table_sound h = ap sound e ∙ last_sound held l t h

  module _ {before mid : List ℕ} {w : ℕ} (a : Wrote (last_said (between held l t)) before mid w) where
    pub behind_last : room_at_end (limit_of (length t)) ≤ length before → (w ≤ length mid) × (longest_sheet (limit_of (length t₁)) ≤ length (lent w mid))
    behind_last h =
        let limit : limit_of (length t₁) ≡ limit_of (length t) = ap (λ (s : List ℕ). limit_of (length s)) e ∙ last_limit held l t in
        let few = last_most (between held l t) in
        let same : length mid ≡ length before = ap length a.out ∙ length-sets before 0 (last_said (between held l t)) in
        (omega (arith, a.long), rw limit (omega (arith, a.long, length-take (length mid - w) (drop w mid), length-drop w mid)))

    module _ {last : List ℕ} {r : ℕ} (b : Wrote (text_of t₁) (lent w mid) last r) where
      pub all_room : sound t ≡ true → w + r ≤ room_at_end (limit_of (length t))
      all_room h = omega (arith, a.long, b.long, last_most (between held l t), ap (λ (s : List ℕ). length (text_of s)) e, last_bound held l t h)

      pub all_written : Wrote (finished (between held l t)) before (back w mid last) (w + r)
      all_written = one_text a (subst (λ (s : List ℕ). Wrote (text_of s) (lent w mid) last r) e b)

-- ---- a table of the least limit, as the sheet program has it

pub least_room : (t : List ℕ) → length t ≡ table_length least_limit → (0 < limit_of (length t)) × (room_at_end (limit_of (length t)) ≡ 46662)
least_room t e =
    let limit = limit_is (length t) e in
    (omega (arith, limit), ap room_at_end (sym limit) ∙ omega (arith, least_sheet))
