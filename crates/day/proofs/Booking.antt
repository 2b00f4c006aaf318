-- What booking a piece comes to: it is accepted, or the table stays as it was. So refused lines count for nothing.
use Prim.Native.Nat.{ℕ}
use mathlib.Core.Path.{◌≡◌, refl, sym, ap, ◌∙◌}
use mathlib.Core.Bool.{Bool, true, false, cond}
use mathlib.Core.List.{List, [], ◌∷◌}
use borrow.Author.Tests.{eqb-true}
use lib.Dec.{eqb}
use Rattle.refusal.specs.Answer.{Answer, value, refused}
use Rattle.layout.specs.Line.{Said, read}
use Rattle.layout.proofs.Forms.{no_value}
use Rattle.day.specs.Demand3.{table_after, answer_to, if_accepted, accepted_of}
use Rattle.day.specs.Machine.{refusal_of, accept, book_read, book}
use Rattle.day.specs.Tables.{Table, Booked}

-- ---- one piece

data Outcome (limit : ℕ) (t : Table) (p : List ℕ) : Booked → Type 0 where
  taken : (x : Said) → read p ≡ value x → refusal_of limit t x ≡ 0 → Outcome limit t p (record { table = accept x t; answer = value tt })
  left : (n f : ℕ) → Outcome limit t p (record { table = t; answer = refused n f })

outcome : (limit : ℕ) (t : Table) (p : List ℕ) → Outcome limit t p (book limit t p)
outcome limit t p = on_read (read p) refl
  where
    on_said : (x : Said) → read p ≡ value x → (b : Bool) → eqb (refusal_of limit t x) 0 ≡ b
        → Outcome limit t p
        (cond b (record { table = accept x t; answer = value tt }) (record { table = t; answer = refused (refusal_of limit t x) 0 }))
    on_said x e true z = taken x e (eqb-true (refusal_of limit t x) 0 z)
    on_said x e false z = left (refusal_of limit t x) 0

    on_read : (said : Answer Said) → read p ≡ said → Outcome limit t p (book_read limit t said)
    on_read (value x) e = on_said x e (eqb (refusal_of limit t x) 0) refl
    on_read (refused n f) e = left n f

-- what every accepted line keeps, booking keeps
pub book_keeps : (limit : ℕ) (P : Table → Type 0) (t : Table) (p : List ℕ)
    → ((x : Said) → read p ≡ value x → refusal_of limit t x ≡ 0 → P (accept x t)) → P t → P (book limit t p).table
book_keeps limit P t p keeps h = go (outcome limit t p)
  where
    go : {b : Booked} → Outcome limit t p b → P b.table
    go (taken x e z) = keeps x e z
    go (left n f) = h

pub refused_keeps : (limit : ℕ) (t : Table) (p : List ℕ) (n f : ℕ) → (book limit t p).answer ≡ refused n f → (book limit t p).table ≡ t
refused_keeps limit t p n f e = go (outcome limit t p) e
  where
    go : {b : Booked} → Outcome limit t p b → b.answer ≡ refused n f → b.table ≡ t
    go (taken x e z) r = absurd (no_value (sym r))
    go (left m g) r = refl

-- ---- all of them

module _ (limit : ℕ) where
  abbrev after : List (List ℕ) → Table
  after ps = table_after (book limit) ps

  abbrev accepted : List (List ℕ) → List (List ℕ)
  accepted ps = accepted_of (book limit) ps

  pub same_table : (ps : List (List ℕ)) → table_after (book limit) (accepted_of (book limit) ps) ≡ table_after (book limit) ps
  same_table [] = refl
  same_table (p ∷ ps) = go (answer_to (book limit) ps p) refl (same_table ps)
    where
      go : (a : Answer (Unit {0})) → answer_to (book limit) ps p ≡ a → after (accepted ps) ≡ after ps
          → after (if_accepted a p (accepted ps)) ≡ (book limit (after ps) p).table
      go (value u) e ih = ap (λ (t : Table). (book limit t p).table) ih
      go (refused n f) e ih = ih ∙ sym (refused_keeps limit (after ps) p n f e)

  pub all_again : (ps : List (List ℕ)) → accepted_of (book limit) (accepted_of (book limit) ps) ≡ accepted_of (book limit) ps
  all_again [] = refl
  all_again (p ∷ ps) = go (answer_to (book limit) ps p) refl (all_again ps)
    where
      go : (a : Answer (Unit {0})) → answer_to (book limit) ps p ≡ a → accepted (accepted ps) ≡ accepted ps
          → accepted (if_accepted a p (accepted ps)) ≡ if_accepted a p (accepted ps)
      go (value u) e ih =
          let again : answer_to (book limit) (accepted ps) p ≡ value u = ap (λ (t : Table). (book limit t p).answer) (same_table ps) ∙ e in
          rw (again, ih)
      go (refused n f) e ih = ih
