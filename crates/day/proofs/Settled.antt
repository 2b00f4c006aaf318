-- Demand 3 leaves nothing open: answers, tables and sheets follow from it.
use Prim.Native.Nat.{ℕ}
use mathlib.Core.Path.{◌≡◌, refl, sym, ap, ap₂, subst, ◌∙◌}
use mathlib.Core.Bool.{Bool, true, false}
use mathlib.Core.List.{List, [], ◌∷◌}
use borrow.Author.Tests.{eqb-true, eqb-false}
use lib.Dec.{eqb}
use Rattle.refusal.specs.Answer.{Answer, value, refused}
use Rattle.layout.specs.Line.{read}
use Rattle.day.specs.Demand3.{IsAnswer, IsSheet, Demand3, joined, table_after, answer_to, history_after}
use Rattle.day.specs.History.{History, orders_of, is_over}
use Rattle.day.specs.Listing.{Sheet}
use Rattle.day.specs.Quotes.{quote_rows_of}
use Rattle.day.specs.Settled.{Settled}
use Rattle.day.specs.Tables.{Table, Booked}
use Rattle.day.proofs.Tables.{table_eq}

-- one answer to a piece after the same accepted lines
pub one_answer : (limit : ℕ) (h : History) (p : List ℕ) (a b : Answer (Unit {0})) → IsAnswer limit h p a → IsAnswer limit h p b → a ≡ b
one_answer limit h p (value u) b x y = sym (y.accepted.1 (x.accepted.0 refl))
one_answer limit h p (refused n f) b x y =
    let (g, e) = (y.refused_first n).1 ((x.refused_first n).0 (f, refl)) in
    go (eqb n 3) refl g e
  where
    go : (t : Bool) → eqb n 3 ≡ t → (g : ℕ) → b ≡ refused n g → refused n f ≡ b
    go true q g e =
        let three : n ≡ 3 = eqb-true n 3 q in
        let field = (y.refused_field f).1 ((x.refused_field f).0 (ap (λ m. refused m f) three)) in
        ap (λ m. refused m f) three ∙ sym field
    go false q g e =
        let other = eqb-false n 3 q in
        let none = x.refused_plain n f refl other ∙ sym (y.refused_plain n g e other) in
        ap (refused n) none ∙ sym e

module _ (limit : ℕ) (book book' : Table → List ℕ → Booked) (sheet sheet' : Table → Sheet) (d : Demand3 limit book sheet) (d' : Demand3 limit book' sheet') where
  same_answer : (ps : List (List ℕ)) (p : List ℕ) → history_after book ps ≡ history_after book' ps → answer_to book ps p ≡ answer_to book' ps p
  same_answer ps p e =
      let theirs = subst (λ (h : History). IsAnswer limit h p (answer_to book' ps p)) (sym e) (d'.answers ps p) in
      one_answer limit (history_after book ps) p (answer_to book ps p) (answer_to book' ps p) (d.answers ps p) theirs

  same_history : (ps : List (List ℕ)) → history_after book ps ≡ history_after book' ps
  same_history [] = refl
  same_history (p ∷ ps) =
      let e = same_history ps in
      ap₂ (λ (a : Answer (Unit {0})) (h : History). joined a (read p) h) (same_answer ps p e) e

  same_table : (ps : List (List ℕ)) → table_after book ps ≡ table_after book' ps
  same_table ps =
      let e = same_history ps in
      let orders = d.orders ps ∙ ap orders_of e ∙ sym (d'.orders ps) in
      let mark = d.mark ps ∙ ap is_over e ∙ sym (d'.mark ps) in
      let quotes = d.quotes ps ∙ ap quote_rows_of e ∙ sym (d'.quotes ps) in
      table_eq orders quotes mark

  same_sheet : (ps : List (List ℕ)) → sheet (table_after book ps) ≡ sheet' (table_after book' ps)
  same_sheet ps =
      let s = sheet' (table_after book' ps) in
      sym (d.only_so ps s (subst (λ (h : History). IsSheet h s) (sym (same_history ps)) (d'.sheet_so ps)))

pub settled : Settled
settled limit book book' sheet sheet' d d' =
    record {
      answers = λ ps p. same_answer limit book book' sheet sheet' d d' ps p (same_history limit book book' sheet sheet' d d' ps);
      tables = same_table limit book book' sheet sheet' d d';
      sheets = same_sheet limit book book' sheet sheet' d d';
    }
