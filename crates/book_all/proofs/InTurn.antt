-- One call says what a call for each piece says, answer by answer and byte by byte.
use Prim.Native.Nat.{ℕ}
use mathlib.Core.Path.{◌≡◌, refl, sym, ap, ap₂, ◌∙◌}
use mathlib.Core.Bool.{Bool, true, false, cond}
use mathlib.Core.List.{List, ◌∷◌}
use lib.ListN.{length}
use lib.Seq.{sets}
use Rattle.std.specs.Prelude.{Ok}
use Rattle.refusal.specs.Answer.{Answer, value, refused, code_of}
use Rattle.layout.proofs.Forms.{no_value}
use Rattle.table.specs.Tables.{sound}
use Rattle.book_all.specs.InTurn.{answers_to, table_after, first_pieces, Calls}
use Rattle.book_all.specs.InTurn.Calls.{none, next}
use Rattle.book_all.specs.Promises.{used_of, table_from, answers_from, BooksAll}
use Rattle.book_all.specs.declared.Used.{Used}
use Rattle.book_all.proofs.Given.{answers_long}

in_turn : {table last : List ℕ} {ps : List (List ℕ)} {answers : List ℕ} → Calls table ps answers last
    → (answers ≡ answers_to table ps) × (last ≡ table_after table ps)
in_turn none = (refl, refl)
in_turn (next {ps = ps} b c) =
    let (said, out) = in_turn c in
    (ap₂ (λ (x : ℕ) (xs : List ℕ). x ∷ xs) (ap code_of b.said) (said ∙ ap (λ s. answers_to s ps) b.out), out ∙ ap (λ s. table_after s ps) b.out)

-- with one answer for each of the calls, and the table that they leave
pub as_in_turn : (table text answers : List ℕ) (u : Used) (after given : List ℕ) → BooksAll table text answers (Ok u) after given
    → (said last : List ℕ) → Calls table (first_pieces (length answers) text) said last
    → (u.pieces ≡ length said) × (given ≡ sets answers 0 said) × (after ≡ last)
as_in_turn table text answers u after given h said last calls = go (sound table) h.said h.out h.told
  where
    ps : List (List ℕ)
    ps = first_pieces (length answers) text

    answer : Bool → Answer Used
    answer b = cond b (value (used_of (length answers) text)) (refused 5 0)

    both : (said ≡ answers_to table ps) × (last ≡ table_after table ps)
    both = in_turn calls

    go : (b : Bool) → value u ≡ answer b → after ≡ table_from (answer b) table text answers → given ≡ answers_from (answer b) table text answers
        → (u.pieces ≡ length said) × (given ≡ sets answers 0 said) × (after ≡ last)
    go true e t g =
        let used : u ≡ used_of (length answers) text = cc in (
          ap (λ (v : Used). v.pieces) used ∙ sym (ap length both.0 ∙ answers_long table ps),
          g ∙ ap (sets answers 0) (sym both.0),
          t ∙ sym both.1,
        )
    go false e t g = absurd (no_value (sym e))
