-- Booking on the table that a legal history declares: the answer is by the first refusal that applies, and what is accepted may follow.
use Prim.Native.Nat.{ℕ}
use native.Mathlib.Omega.{arith}
use mathlib.Core.Path.{◌≡◌, refl, sym, ap, ap₂, subst, ◌∙◌}
use mathlib.Core.Logic.{◌⊎◌, inl, inr}
use mathlib.Core.Bool.{Bool, true, false, cond, not, ◌&&◌, not-eq-not}
use mathlib.Core.List.{List, ◌∷◌}
use borrow.Author.Tests.{not-true}
use lib.Dec.{eqb}
use Rattle.refusal.specs.Answer.{Answer, value, refused}
use Rattle.layout.proofs.Demand2.{demand2}
use Rattle.layout.specs.Line.{Said, end_of_day, line, read}
use Rattle.layout.specs.declared.Record.{Record}
use Rattle.order.specs.Names.{key_of}
use Rattle.order.specs.declared.Key.{Key}
use Rattle.order.specs.declared.Order.{Order}
use Rattle.quote.specs.Quotes.{names_quote}
use Rattle.quote.specs.declared.QuoteRow.{QuoteRow}
use Rattle.day.specs.Demand3.{joined}
use Rattle.day.specs.History.{History, known}
use Rattle.day.specs.Quotes.{is_fill}
use Rattle.day.specs.Machine.{refusal_of, accept, book_said, book_read, book}
use Rattle.day.specs.Tables.{Table, with_orders, with_quotes, Booked}
use Rattle.day.specs.Refusals.{rules, NoneOf, FirstOf}
use Rattle.day.proofs.Chain.{Judged, none_of, answer_by}
use Rattle.day.proofs.Checks.{said_judged}
use Rattle.run.proofs.Tests.{both}
use Rattle.day.proofs.Legal.{Follows, Legal}
use Rattle.day.proofs.Lookup.{day_of}
use Rattle.day.proofs.Letters.{fill_old}
use Rattle.day.proofs.Quotes.{fill_subject, filled}
use Rattle.day.proofs.Steps.{booked}

-- booking what a piece says, by whether no test refuses it
abbrev book_if : Bool → ℕ → Table → Said → Booked
book_if b n t x = cond b (record { table = accept x t; answer = value tt }) (record { table = t; answer = refused n 0 })

pub said_answer : (limit : ℕ) (t : Table) (x : Said) → (book_said limit t x).answer ≡ answer_by (refusal_of limit t x)
said_answer limit t x = go (refusal_of limit t x) (eqb (refusal_of limit t x) 0)
  where
    go : (n : ℕ) (b : Bool) → (book_if b n t x).answer ≡ cond b (value tt) (refused n 0)
    go n true = refl
    go n false = refl

module _ (limit : ℕ) (h : History) (l : Legal h) (p : List ℕ) where
  refused_judged : (n f : ℕ) → read p ≡ refused n f → FirstOf (rules limit h p) n
  refused_judged n f e = go (demand2.other_reads p n f e)
    where
      by : (m g : ℕ) → n ≡ m → f ≡ g → read p ≡ refused m g
      by m g a b = cc

      other : (m g : ℕ) → ¬ (n ≡ m) → read p ≡ refused m g → ⊥
      other m g d w = d (cc)

      go : ((n ≡ 1) × (f ≡ 0)) ⊎ ((n ≡ 2) × (f ≡ 0)) ⊎ (n ≡ 3) → FirstOf (rules limit h p) n
      go (inl q) = inl (by 1 0 q.0 q.1, q.0)
      go (inr (inl q)) = inr (other 1 0 (omega arith), inl (by 2 0 q.0 q.1, q.0))
      go (inr (inr q)) = inr (other 1 0 (omega arith), inr (other 2 0 (omega arith), inl ((f, by 3 f q refl), q)))

  pub verdict : Judged (rules limit h p) (book limit (day_of h) p).answer
  verdict = go (read p) refl
    where
      go : (a : Answer Said) → read p ≡ a → Judged (rules limit h p) (book_read limit (day_of h) a).answer
      go (value x) e = subst (Judged (rules limit h p)) (sym (said_answer limit (day_of h) x)) (said_judged limit h l p x e)
      go (refused n f) e = refused_judged n f e

  follows : (r : Record) → read p ≡ value (line r) → NoneOf (rules limit h p) → Follows h r
  follows r e n =
      record {
        fresh = λ q. (not-eq-not {b = false}).0 (λ k. none_of 7 (rules limit h p) n (line r, e, (q, k)));
        named = λ q b. (not-eq-not {b = true}).0 (λ k. none_of 8 (rules limit h p) n (line r, e, (q, k, rw b)));
        rowed =
            λ b x.
            let (fill, others) = both (is_fill r.event) (not (known (key_of r) h)) (both (is_fill r.event && not (known (key_of r) h)) (names_quote r.token) b).0 in
            let unknown = ap (λ (k : Key). known k h) (fill_subject r fill) ∙ not-true (known (key_of r) h) others in
            (not-eq-not {b = true}).0 (λ k. none_of 8 (rules limit h p) n (line r, e, (fill_old r.event fill, unknown, rw (k, b, x))));
      }

  -- what is accepted joins the history
  pub next : let b = book limit (day_of h) p in let k = joined b.answer (read p) h in Legal k × (b.table ≡ day_of k)
  next = go (read p) refl
    where
      accepted : (x : Said) → read p ≡ value x → NoneOf (rules limit h p) → Legal (x ∷ h) × (accept x (day_of h) ≡ day_of (x ∷ h))
      accepted end_of_day e n = (l, refl)
      accepted (line r) e n =
          let f = follows r e n in (
            (f, l),
            ap₂ (λ (os : List Order) (ws : List QuoteRow). with_quotes ws (with_orders os (day_of h))) (booked h r l f) (filled h r l f),
          )

      said : (x : Said) → read p ≡ value x → (t : Bool) → eqb (refusal_of limit (day_of h) x) 0 ≡ t
          → let b = book_if t (refusal_of limit (day_of h) x) (day_of h) x in
          let k = joined b.answer (value x) h in
          Legal k × (b.table ≡ day_of k)
      said x e true q = accepted x e (rw q at (said_judged limit h l p x e))
      said x e false q = (l, refl)

      go : (a : Answer Said) → read p ≡ a
          → let b = book_read limit (day_of h) a in let k = joined b.answer a h in Legal k × (b.table ≡ day_of k)
      go (value x) e = said x e (eqb (refusal_of limit (day_of h) x) 0) refl
      go (refused n f) e = (l, refl)
