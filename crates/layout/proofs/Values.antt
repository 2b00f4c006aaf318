-- A record and the 24 values of its line are one to one, for values that are lawful in their own layout.
use Prim.Native.Nat.{ℕ}
use mathlib.Core.Path.{◌≡◌, refl, sym, ap, subst, ◌∙◌}
use mathlib.Core.Bool.{true, false≢true}
use mathlib.Core.List.{List, [], ◌∷◌}
use borrow.Author.Tests.{eqb-true}
use lib.Dec.{eqb}
use lib.ListN.{get_or, set}
use Rattle.run.specs.Runs.{member}
use Rattle.message.specs.Rule.{Value}
use Rattle.message.specs.Values.{one, num_of, run_of, byte_at}
use Rattle.layout.specs.Layout.{layout, types}
use Rattle.layout.specs.Records.{type_of, event_of, liquidity_of, match_of, cross_of, fields_of, record_of}
use Rattle.layout.specs.declared.Event.{Event}
use Rattle.layout.specs.declared.Event.TheVariants.{Accepted, Executed, Cancelled, Broken, Replaced, Repriced}
use Rattle.layout.specs.declared.Record.{Record}
use Rattle.run.proofs.Tests.{either}
use Rattle.message.proofs.Fields.{LawfulFrom}
use Rattle.message.proofs.Shapes.{shape, lawful_shape}

-- ---- from a record and back

same_event : (e : Event)
    → event_of (type_of e) (record { liquidity = get_or (run_of (liquidity_of e)) 0 0; match_id = num_of (match_of e); cross_id = num_of (cross_of e) }) ≡ e
same_event Accepted = refl
same_event (Executed t) = refl
same_event Cancelled = refl
same_event (Broken t) = refl
same_event Replaced = refl
same_event Repriced = refl

pub record_fields : (r : Record) → record_of (fields_of r) ≡ r
record_fields r = rw (same_event r.event)

-- ---- from values and back

-- what holds of each code of a list holds of every member
abbrev Each : (ℕ → Type 0) → List ℕ → Type 0
Each P [] = Unit {0}
Each P (c ∷ codes) = P c × Each P codes

each_member : (P : ℕ → Type 0) (codes : List ℕ) → Each P codes → (b : ℕ) → member b codes ≡ true → P b
each_member P [] h b e = absurd (false≢true e)
each_member P (c ∷ codes) h b e = either (eqb b c) (member b codes) (λ q. rw (eqb-true b c q) h.0) (each_member P codes h.1 b) e

-- the same for a line of type t
abbrev shape_of : ℕ → ℕ → List Value → List Value
shape_of t d vs = set (shape (layout t d) vs) 1 (one t)

pub fields_record : (t d : ℕ) (vs : List Value) → member t types ≡ true → byte_at vs 1 ≡ t → LawfulFrom 0 (layout t d) vs → fields_of (record_of vs) ≡ vs
fields_record t d vs m e h = subst (λ (us : List Value). fields_of (record_of us) ≡ us) shaped (each_member Shaped types known t m)
  where
    Shaped : ℕ → Type 0
    Shaped c = fields_of (record_of (shape_of c d vs)) ≡ shape_of c d vs

    -- one for each of the six types, by computation
    known : Each Shaped types
    known = (refl, (refl, (refl, (refl, (refl, (refl, tt))))))

    shaped : shape_of t d vs ≡ vs
    shaped =
        let s = lawful_shape h in
        let q : byte_at (shape (layout t d) vs) 1 ≡ t = ap (λ (us : List Value). byte_at us 1) s ∙ e in
        ap (λ (b : ℕ). set (shape (layout t d) vs) 1 (one b)) (sym q) ∙ s
