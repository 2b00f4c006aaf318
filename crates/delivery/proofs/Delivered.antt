-- A day by the promises reaches the bytes of demand 3: its answers, its sheet, and what the program prints.
use Prim.Native.Nat.{ℕ, ◌+◌, ◌≤◌, ◌<◌}
use native.Mathlib.Omega.{arith}
use mathlib.Core.Path.{◌≡◌, refl, sym, ap, ap₂, subst, subst₂, ◌∙◌}
use mathlib.Core.Bool.{true, false}
use mathlib.Core.List.{List, [], ◌∷◌, ◌++◌, append_assoc, append-nil}
use borrow.Author.Tests.{le-ltb}
use lib.ListN.{length, drop}
use Rattle.run.proofs.Stores.{sets_start}
use Rattle.std.specs.Prelude.{Result}
use Rattle.refusal.specs.Answer.{Answer, value, answer_of}
use Rattle.refusal.specs.declared.Refusal.{Refusal}
use Rattle.layout.specs.Line.{read}
use Rattle.quote.specs.declared.Quote.{Quote}
use Rattle.day.specs.Demand3.{IsAnswer, IsSheet, AddsUp, joined, table_after, answer_to, history_after}
use Rattle.day.specs.History.{History, orders_of}
use Rattle.day.specs.Listing.{members_of, Each, shown, shown_quote}
use Rattle.day.specs.Machine.{book}
use Rattle.day.specs.Quotes.{has_row}
use Rattle.day.specs.Tables.{Table, empty}
use Rattle.day.specs.Walk.{sheet_of}
use Rattle.day.proofs.Demand3.{demand3}
use Rattle.table.specs.Tables.{limit_of, table_in, sound, made_from}
use Rattle.table.proofs.Limits.{limit_is, limit_none, least_length}
use Rattle.table.proofs.Making.{taken}
use Rattle.book.specs.Promises.{Books}
use Rattle.book.proofs.Reached.{Reached, reached_empty, reached_next, reached_answer}
use Rattle.sheet.specs.Promises.{Sheets, sheet_answer, sheet_from, text_of}
use Rattle.sheet.specs.Texts.{sheet_text, longest_sheet}
use Rattle.sheet.proofs.Bound.{least_sheet, sheet_bound}
use Rattle.feed.specs.Printed.{report, printed_from}
use Rattle.delivery.specs.Delivered.{Call, Day, begun, booked, accepted_in, in_order, refusal_lines, Shows, Delivered, Delivery}

-- the pieces, latest first
abbrev pieces_in : List Call → List (List ℕ)
pieces_in [] = []
pieces_in (c ∷ calls) = c.piece ∷ pieces_in calls

-- ---- the sheet of a sound table

module _ (s : List ℕ) (good : sound s ≡ true) (out : List ℕ) (room : length (text_of s) ≤ length out) where
  answer : sheet_answer s out ≡ value (length (text_of s))
  unfolding sheet_answer
  answer = rw (good, le-ltb (length out) (length (text_of s)) room)

  sheet_written : {x : Result ℕ Refusal} {after : List ℕ} → Sheets s out x after
      → (answer_of x ≡ value (length (text_of s))) × (after ≡ text_of s ++ drop (length (text_of s)) out)
  sheet_written p = (
    p.said ∙ answer,
    p.out ∙ ap (λ (a : Answer ℕ). sheet_from a s out) answer ∙ sets_start out (text_of s) room,
  )

module _ (before : List ℕ) (meant : 0 < limit_of (length before)) where
  abbrev limit : ℕ
  limit = limit_of (length before)

  abbrev day : List Call → Table
  day calls = table_after (book limit) (pieces_in calls)

  -- ---- the bytes, the answers and the accepted lines of a day

  reached : {calls : List Call} {table : List ℕ} → Day before calls table → Reached limit (pieces_in calls) table
  reached (begun m) =
      subst (Reached limit []) (sym (m.out ∙ ap (λ (a : Answer (Unit {0})). made_from a before) (taken before meant))) (reached_empty before meant)
  reached (booked {calls = calls} c d b) = subst (Reached limit (pieces_in (c ∷ calls))) (sym b.out) (reached_next (reached d) c.piece)

  same_answer : {calls : List Call} {table : List ℕ} → Day before calls table → (p : List ℕ) (x : Result (Unit {0}) Refusal) (after : List ℕ) → Books table p x after
      → answer_of x ≡ answer_to (book limit) (pieces_in calls) p
  same_answer d p x after b = b.said ∙ reached_answer (reached d) p

  same_history : {calls : List Call} {table : List ℕ} → Day before calls table → accepted_in calls ≡ history_after (book limit) (pieces_in calls)
  same_history (begun m) = refl
  same_history (booked {after = after} c d b) =
      ap₂ (λ (a : Answer (Unit {0})) (h : History). joined a (read c.piece) h) (same_answer d c.piece c.answer after b) (same_history d)

  -- ---- what the program prints

  printed_so : {calls : List Call} {table : List ℕ} → Day before calls table → (rest : List (List ℕ))
      → printed_from limit 1 empty (in_order calls ++ rest) ≡ refusal_lines calls ++ printed_from limit (length calls + 1) (day calls) rest
  printed_so (begun m) rest = refl
  printed_so (booked {calls = calls} {after = after} c d b) rest =
      let n = length calls in
      let said = refusal_lines calls in
      let more = printed_from limit (n + 1 + 1) (day (c ∷ calls)) rest in
      let number : n + 1 + 1 ≡ length (c ∷ calls) + 1 = omega arith in
      ap (printed_from limit 1 empty) (append_assoc (in_order calls) (c.piece ∷ []) rest)
      ∙ printed_so d (c.piece ∷ rest)
      ∙ ap (λ (a : Answer (Unit {0})). said ++ (report (n + 1) a ++ more)) (sym (same_answer d c.piece c.answer after b))
      ∙ sym (append_assoc said (report (n + 1) (answer_of c.answer)) more)
      ∙ ap (λ (k : ℕ). (said ++ report (n + 1) (answer_of c.answer)) ++ printed_from limit k (day (c ∷ calls)) rest) number

  -- ---- the sheet

  shows : {calls : List Call} {table : List ℕ} → Day before calls table → Shows limit (accepted_in calls) table
  shows {calls} {table} d =
      let ps = pieces_in calls in
      let h = same_history d in
      let r = reached d in
      let t = r.says in
      record {
        sheet = sheet_of (table_in table);
        so = subst₂ (λ (a : History) (u : Table). IsSheet a (sheet_of u)) (sym h) (sym t) ((demand3 limit).sheet_so ps);
        only_so = λ s x. (demand3 limit).only_so ps s (subst (λ (a : History). IsSheet a s) h x) ∙ ap sheet_of (sym t);
        each_once = subst₂ (λ (a : History) (u : Table). (i : ℕ) → i < length (orders_of a) → shown i (members_of (sheet_of u).rows) ≡ 1) (sym h) (sym t) ((demand3 limit).each_once ps);
        no_other = subst₂ (λ (a : History) (u : Table). (i : ℕ) → length (orders_of a) ≤ i → shown i (members_of (sheet_of u).rows) ≡ 0) (sym h) (sym t) ((demand3 limit).no_other ps);
        quote_once = subst₂ (λ (a : History) (u : Table). (q : Quote) → has_row q a ≡ true → shown_quote q (sheet_of u).quotes ≡ 1) (sym h) (sym t) ((demand3 limit).quote_once ps);
        no_other_quote = subst₂ (λ (a : History) (u : Table). (q : Quote) → has_row q a ≡ false → shown_quote q (sheet_of u).quotes ≡ 0) (sym h) (sym t) ((demand3 limit).no_other_quote ps);
        adds_up = subst (λ (u : Table). Each AddsUp (sheet_of u).rows) (sym t) ((demand3 limit).adds_up ps);
        written = λ out x after p room. sheet_written table r.good out room p;
        room = subst (λ (k : ℕ). length (text_of table) ≤ longest_sheet k) r.meant (sheet_bound table r.good);
      }

delivered : (before : List ℕ) → 0 < limit_of (length before) → Delivered before
unfolding shows
delivered before meant =
    record {
      answers = λ {calls} d p x after b.
          subst₂ (λ (h : History) (a : Answer (Unit {0})). IsAnswer (limit_of (length before)) h p a) (sym (same_history before meant d)) (sym (same_answer before meant d p x after b))
          ((demand3 (limit_of (length before))).answers (pieces_in calls) p);
      shows = shows before meant;
      prints = λ {calls} d text e.
          ap (printed_from (limit_of (length before)) 1 empty) (sym (append-nil (in_order calls) ∙ e))
          ∙ printed_so before meant d []
          ∙ ap (λ (t : Table). refusal_lines calls ++ sheet_text t) (sym (reached before meant d).says);
    }

pub delivery : Delivery
delivery =
    record {
      limit = sym (limit_is 47240 (sym least_length));
      no_other = λ n h. sym (limit_none n (λ e. h (e ∙ least_length)));
      longest = least_sheet;
      delivered = delivered;
    }
