-- What is written for a piece, and the table that it leaves: the piece booked in place, from the hold, or at the end of the text.
use Prim.Native.Nat.{ℕ}
use native.Mathlib.Omega.{arith}
use mathlib.Core.Path.{◌≡◌, refl, ◌∙◌}
use mathlib.Core.List.{List, [], ◌∷◌, ◌++◌}
use lib.ListN.{length}
use Rattle.std.specs.Prelude.{Result, Ok, Err}
use Rattle.refusal.specs.Numbers.{number_of, field_of}
use Rattle.refusal.specs.declared.Refusal.{Refusal}
use Rattle.book.specs.Bytes.{book_answer, book_bytes}
use Rattle.book.specs.Promises.{Books}
use Rattle.row.specs.Writes.{Wrote}
use Rattle.feed.specs.Printed.{refusal_line, report}
use Rattle.feed.specs.Steps.{between, kept_of, last_said, last_table}
use Rattle.feed.proofs.Enough.{verbatim_answer, kept_bytes}

-- r bytes are written for the piece p, and the table is then `after`
abbrev pub Says : (line : ℕ) (t p before out : List ℕ) (r : ℕ) (after : List ℕ) → Type 0
Says line t p before out r after = Wrote (report line (book_answer t p)) before out r × (after ≡ book_bytes t p)

pub booked_says : (line : ℕ) (t p : List ℕ) {before after : List ℕ} (x : Result (Unit {0}) Refusal) → x ≡ Ok tt → Books t p x after
    → Says line t p before before 0 after
booked_says line t p x e b = (rw (← b.said, e) (record { long = refl; out = refl }), b.out)

module _ (line : ℕ) (t : List ℕ) {before out : List ℕ} {r : ℕ} {after : List ℕ} where
  pub refused_says : (p : List ℕ) (x : Result (Unit {0}) Refusal) (y : Refusal) → x ≡ Err y → Books t p x after
      → Wrote (refusal_line line (number_of y) (field_of y)) before out r → Says line t p before out r after
  refused_says p x y e b w = (rw (← b.said, e) w, b.out)

  -- where nothing is held the part is the piece
  pub part_says : (held part : List ℕ) → length held ≡ 0 → Says line t part before out r after → Says line t (held ++ part) before out r after
  part_says [] part e s = s
  part_says (b ∷ held) part e s = absurd (omega arith)

  -- what is kept of a piece says what the piece says
  pub verbatim_says : (kept p : List ℕ) → kept ≡ kept_of p → Says line t kept before out r after → Says line t p before out r after
  verbatim_says kept p e s = (rw (← verbatim_answer t p, ← e) s.0, s.1 ∙ rw e (kept_bytes t p))

  pub last_says : (held : List ℕ) → (length held ≡ 0 → ⊥) → Says line t held before out r after
      → Wrote (last_said (between held line t)) before out r × (after ≡ last_table (between held line t))
  last_says [] some s = absurd (some refl)
  last_says (b ∷ held) some s = s

pub none_says : (held : List ℕ) (line : ℕ) (t before : List ℕ) → length held ≡ 0
    → Wrote (last_said (between held line t)) before before 0 × (t ≡ last_table (between held line t))
none_says [] line t before e = (record { long = refl; out = refl }, refl)
none_says (b ∷ held) line t before e = absurd (omega arith)
