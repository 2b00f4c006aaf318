-- The ways out of writing the bytes of a record as a line, each as the promise says it.
use Rattle.std.proofs.Common.{ℕ, ◌+◌, ◌*◌, ◌≤◌, ◌≡◌, ◌∙◌, sym, ap, Some, None, Result, false, List, length, arith}
use borrow.Author.Tests.{le-ltb, ne_eqb}
use lib.Dec.{ltb}
use Rattle.refusal.specs.Answer.{answer_of, code_of}
use Rattle.refusal.specs.declared.Refusal.{Refusal}
use Rattle.layout.specs.Line.{unlawful, write}
use Rattle.layout.specs.declared.Record.{Record}
use Rattle.writing.specs.Promises.{Write}
use Rattle.image.specs.Images.{record_in, sooner, unmeant, unwritable}
use Rattle.door.specs.Promises.{write_answer, Writes}
use Rattle.image.proofs.Sooner.{other_length, odd_in_the_way, rule_in_the_way}

module _ (b before : List ℕ) (room : 140 ≤ length before) where
  long : ltb (length before) 140 ≡ false
  long = le-ltb (length before) 140 room

  in_way : (f k : ℕ) → f ≡ unwritable b → (unwritable b ≡ 0 → ⊥) → k ≡ 3 + 256 * f → Writes b before k before
  in_way f k e h c = let some = ne_eqb (unwritable b) 0 h in record { said = rw (long, some) (c ∙ rw e); out = rw (long, some) }

  pub no_record : (length b ≡ 138 → ⊥) → {k : ℕ} → k ≡ 3 + 256 * 24 → Writes b before k before
  no_record h {k} c = let e = other_length b h in in_way 24 k e (λ z. absurd (omega arith)) c

  module _ (whole : length b ≡ 138) where
    pub odd_byte : {odd f k : ℕ} → unmeant b ≡ Some odd → f ≡ sooner odd (unlawful (record_in b)) → k ≡ 3 + 256 * f → Writes b before k before
    odd_byte {odd} {f} {k} q e c = let way = odd_in_the_way b whole odd q in in_way f k (e ∙ way.0) way.1 c

    pub written : unmeant b ≡ None → {r : Record} {x : Result (Unit {0}) Refusal} {after : List ℕ} {k : ℕ} → r ≡ record_in b → Write r before x after
        → k ≡ code_of (answer_of x) → Writes b before k after
    written none {r} e h c =
        let answered : write_answer b before ≡ write r before = rw (long, ← rule_in_the_way b whole none, e) in
        record { said = c ∙ ap code_of (h.said ∙ sym answered); out = h.out ∙ rw (answered, e) }
