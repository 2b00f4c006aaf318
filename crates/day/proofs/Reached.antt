-- Every table reached from empty is the one that its history declares, and every line is judged by that history.
use Prim.Native.Nat.{ℕ}
use mathlib.Core.Path.{◌≡◌, refl, sym, ap, subst, ◌∙◌}
use mathlib.Core.Logic.{◌⊎◌, inl, inr, ◌↔◌}
use mathlib.Core.Bool.{Bool, true, false, cond, not, and-true}
use mathlib.Core.List.{List, [], ◌∷◌}
use Rattle.refusal.specs.Answer.{Answer, value, refused}
use Rattle.layout.proofs.Demand2.{demand2}
use Rattle.layout.specs.Line.{Said, line, read}
use Rattle.layout.specs.declared.Event.TheVariants.{Replaced}
use Rattle.layout.specs.declared.Record.{Record}
use Rattle.order.specs.Names.{key_of}
use Rattle.order.specs.declared.Key.{Key}
use Rattle.day.specs.Demand3.{IsAnswer, table_after, answer_to, joined, history_after}
use Rattle.day.specs.History.{History, is_new, is_maker, is_replace, orders_of, known, is_over}
use Rattle.day.specs.Quotes.{is_fill, quote_rows_of}
use Rattle.day.specs.Machine.{refusal_of, book_read, book}
use Rattle.day.specs.Tables.{Table}
use Rattle.day.specs.Refusals.{subject, rules, NoneOf, FirstOf}
use Rattle.day.proofs.Chain.{Judged, judged_accepted, judged_refused, answer_by, refused_by}
use Rattle.day.proofs.Checks.{said_after}
use Rattle.day.proofs.Legal.{Legal}
use Rattle.day.proofs.Lookup.{day_of, is_known}
use Rattle.day.proofs.Verdict.{said_answer, verdict, next}

-- ---- the table

pub reached : (limit : ℕ) (ps : List (List ℕ)) → let h = history_after (book limit) ps in Legal h × (table_after (book limit) ps ≡ day_of h)
reached limit [] = (tt, refl)
reached limit (p ∷ ps) =
    let h = history_after (book limit) ps in
    let after : Table → History = λ t. joined (book limit t p).answer (read p) h in
    let before = reached limit ps in
    subst (λ (t : Table). Legal (after t) × ((book limit t p).table ≡ day_of (after t))) (sym before.1) (next limit h before.0 p)

pub orders_told : (limit : ℕ) (ps : List (List ℕ)) → (table_after (book limit) ps).orders ≡ orders_of (history_after (book limit) ps)
orders_told limit ps = ap (λ (t : Table). t.orders) (reached limit ps).1

pub quotes_told : (limit : ℕ) (ps : List (List ℕ)) → (table_after (book limit) ps).quotes ≡ quote_rows_of (history_after (book limit) ps)
quotes_told limit ps = ap (λ (t : Table). t.quotes) (reached limit ps).1

pub mark : (limit : ℕ) (ps : List (List ℕ)) → (table_after (book limit) ps).over ≡ is_over (history_after (book limit) ps)
mark limit ps = ap (λ (t : Table). t.over) (reached limit ps).1

-- ---- the answer

answer_reached : (limit : ℕ) (ps : List (List ℕ)) (p : List ℕ)
    → answer_to (book limit) ps p ≡ (book limit (day_of (history_after (book limit) ps)) p).answer
answer_reached limit ps p = ap (λ (t : Table). (book limit t p).answer) (reached limit ps).1

judged : (limit : ℕ) (ps : List (List ℕ)) (p : List ℕ) → Judged (rules limit (history_after (book limit) ps) p) (answer_to (book limit) ps p)
judged limit ps p =
    let h = history_after (book limit) ps in
    subst (Judged (rules limit h p)) (sym (answer_reached limit ps p)) (verdict limit h (reached limit ps).0 p)

accepted : (limit : ℕ) (ps : List (List ℕ)) (p : List ℕ)
    → (answer_to (book limit) ps p ≡ value tt) ↔ NoneOf (rules limit (history_after (book limit) ps) p)
accepted limit ps p = judged_accepted (rules limit (history_after (book limit) ps) p) _ (judged limit ps p)

refused_first : (limit : ℕ) (ps : List (List ℕ)) (p : List ℕ) (n : ℕ)
    → ((f : ℕ) × (answer_to (book limit) ps p ≡ refused n f)) ↔ FirstOf (rules limit (history_after (book limit) ps) p) n
refused_first limit ps p n = judged_refused (rules limit (history_after (book limit) ps) p) _ n (judged limit ps p)

refused_field : (limit : ℕ) (ps : List (List ℕ)) (p : List ℕ) (f : ℕ) → (answer_to (book limit) ps p ≡ refused 3 f) ↔ (read p ≡ refused 3 f)
refused_field limit ps p f = (
  λ q. go (read p) refl (sym (answer_reached limit ps p) ∙ q),
  λ e. ap (λ (a : Answer Said). (book_read limit (table_after (book limit) ps) a).answer) e,
)
  where
    go : (a : Answer Said) → read p ≡ a → (book_read limit (day_of (history_after (book limit) ps)) a).answer ≡ refused 3 f → read p ≡ refused 3 f
    go (value x) e q =
        let h = history_after (book limit) ps in
        let n = refusal_of limit (day_of h) x in
        absurd (said_after limit h (reached limit ps).0 p x e (refused_by n 3 f (sym (said_answer limit (day_of h) x) ∙ q)).0)
    go (refused n g) e q = cc

refused_plain : (limit : ℕ) (ps : List (List ℕ)) (p : List ℕ) (n f : ℕ) → answer_to (book limit) ps p ≡ refused n f → (n ≡ 3 → ⊥) → f ≡ 0
refused_plain limit ps p n f q other = go (read p) refl q
  where
    read_plain : (m g : ℕ) → ◌≡◌ {A = Answer (Unit {0})} (refused m g) (refused n f) → ((m ≡ 1) × (g ≡ 0)) ⊎ ((m ≡ 2) × (g ≡ 0)) ⊎ (m ≡ 3) → f ≡ 0
    read_plain m g q (inl e) = let z = e.1 in cc
    read_plain m g q (inr (inl e)) = let z = e.1 in cc
    read_plain m g q (inr (inr e)) = absurd (other (cc))

    go : (a : Answer Said) → read p ≡ a → (book_read limit (table_after (book limit) ps) a).answer ≡ refused n f → f ≡ 0
    go (value x) e q =
        let t = table_after (book limit) ps in
        (refused_by (refusal_of limit t x) n f (sym (said_answer limit t x) ∙ q)).1
    go (refused m g) e q = read_plain m g q (demand2.other_reads p m g e)

pub answers : (limit : ℕ) (ps : List (List ℕ)) (p : List ℕ) → IsAnswer limit (history_after (book limit) ps) p (answer_to (book limit) ps p)
answers limit ps p =
    record {
      accepted = accepted limit ps p;
      refused_first = refused_first limit ps p;
      refused_field = refused_field limit ps p;
      refused_plain = refused_plain limit ps p;
    }

-- ---- "An order replaced itself."

self_answer : (over is : Bool) (n : ℕ)
    → answer_by (cond over 6 (cond is 7 (cond (not is) 8 n))) ≡ cond over (refused 6 0) (cond is (refused 7 0) (refused 8 0))
self_answer true is n = refl
self_answer false true n = refl
self_answer false false n = refl

pub story : (limit : ℕ) (ps : List (List ℕ)) (p : List ℕ) (r : Record) → read p ≡ value (line r) → r.event ≡ Replaced → r.token ≡ r.replaced
    → let h = history_after (book limit) ps in
    answer_to (book limit) ps p ≡ cond (is_over h) (refused 6 0) (cond (known (key_of r) h) (refused 7 0) (refused 8 0))
story limit ps p r e q same =
    let h = history_after (book limit) ps in
    let l = (reached limit ps).0 in
    let own : subject r ≡ key_of r = rw (ap is_replace q) (λ i. record { source = r.source; token = sym same i }) in
    let is = is_known (subject r) r h l ∙ ap (λ (k : Key). known k h) own in
    answer_reached limit ps p
    ∙ ap (λ (a : Answer Said). (book_read limit (day_of h) a).answer) e
    ∙ said_answer limit (day_of h) (line r)
    ∙ rw (ap is_maker q, ap is_new q, ap is_fill q, is_known (key_of r) r h l, is, and-true (not (known (key_of r) h))) (self_answer (is_over h) (known (key_of r) h) _)
