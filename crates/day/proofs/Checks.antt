-- Tests 6 to 13 of booking, on the table that a legal history declares, say what refusals 6 to 13 say of the history.
use Prim.Native.Nat.{ℕ, ◌+◌, ◌-◌, ◌≤◌, ◌<◌}
use native.Mathlib.Omega.{arith}
use mathlib.Core.Path.{◌≡◌, refl, sym, ap, subst, ◌∙◌}
use mathlib.Core.Logic.Iff
use mathlib.Core.Logic.{◌⊎◌, inl, inr}
use mathlib.Core.Bool.{Bool, true, false, cond, not, ◌&&◌, ◌||◌, false≢true}
use mathlib.Core.List.{List, [], ◌∷◌}
use borrow.Author.Tests.{not-true, ltb-true, lt-ltb, leb-true, le-leb, eqb-true, eq-eqb}
use lib.Dec.{ltb, leb, eqb}
use lib.ListN.{length, length-map}
use Rattle.refusal.specs.Answer.{value, refused}
use Rattle.layout.specs.Line.{Said, end_of_day, line, read}
use Rattle.layout.specs.declared.Record.{Record}
use Rattle.order.proofs.Sameness.{series_same}
use Rattle.order.specs.Names.{key_of, series_of, same_series}
use Rattle.order.specs.declared.Key.{Key}
use Rattle.order.specs.declared.Order.{Order}
use Rattle.quote.specs.Quotes.{most_rows, most_executed, quote_of}
use Rattle.quote.specs.declared.QuoteRow.{QuoteRow}
use Rattle.day.specs.History.{History, is_new, is_execution, is_break, is_cancel, is_replace, is_reprice, is_maker}
use Rattle.day.specs.History.{executed_of, broken_of, open_of, lines_that_make, order_of, orders_of, known, line_that_made}
use Rattle.day.specs.Quotes.{belongs, filled_of, has_row, quotes_of, quote_row_of}
use Rattle.day.specs.Machine.{Found, nobody, found, find, differs, not_open, not_executed, Seen, none, seen, row_not_executed, row_full, checks, refusal_of}
use Rattle.day.specs.Refusals.{subject, OfOrder, finds, DayOver, KnownKey, UnknownKey, OtherSeries, NotOpen, NotExecuted, Full, RowFull}
use Rattle.day.specs.Refusals.{Reads, Rule, rule, rules}
use Rattle.day.proofs.Chain.{Judged, skipped, Says, test_of, answer_by, chain_judged, first_number}
use Rattle.day.proofs.Legal.{Legal}
use Rattle.day.proofs.Lookup.{made_key, day_of, find_order, is_known}
use Rattle.day.proofs.Quotes.{found_row, seen_row, to_quote_lem}

-- ---- what a test says

and_says : {P Q : Type 0} (a b : Bool) → Says a P → Says b Q → Says (a && b) (P × Q)
and_says true b p q = (λ e. (p.0 refl, q.0 e), λ h. q.1 h.1)
and_says false b p q = (λ e. absurd (false≢true e), λ h. absurd (false≢true (p.1 h.0)))

three_say : {P Q R : Type 0} (a b c : Bool) → Says a P → Says b Q → Says c R → Says (a && b && c) (P × Q × R)
three_say true true c p q r = (λ e. (p.0 refl, q.0 refl, r.0 e), λ h. r.1 h.2)
three_say true false c p q r = (λ e. absurd (false≢true e), λ h. absurd (false≢true (q.1 h.1)))
three_say false b c p q r = (λ e. absurd (false≢true e), λ h. absurd (false≢true (p.1 h.0)))

or_says : {P Q : Type 0} (a b : Bool) → Says a P → Says b Q → Says (a || b) (P ⊎ Q)
or_says true b p q = (λ e. inl (p.0 refl), λ h. refl)
or_says {P} {Q} false b p q = (λ e. inr (q.0 e), go)
  where
    go : P ⊎ Q → b ≡ true
    go (inl h) = absurd (false≢true (p.1 h))
    go (inr h) = q.1 h

not_says : (a : Bool) → Says (not a) (a ≡ false)
not_says a = (not-true a, λ e. rw e)

not_so : {P : Type 0} {a : Bool} → Says a P → Says (not a) (P → ⊥)
not_so {P} {a} s = (λ e h. false≢true (sym (not-true a e) ∙ s.1 h), λ n. go a s n)
  where
    go : (a : Bool) → Says a P → (P → ⊥) → not a ≡ true
    go true s n = absurd (n (s.0 refl))
    go false s n = refl

ltb_says : (a b : ℕ) → Says (ltb a b) (a < b)
ltb_says a b = (ltb-true a b, lt-ltb a b)

leb_says : (a b : ℕ) → Says (leb a b) (a ≤ b)
leb_says a b = (leb-true a b, le-leb a b)

eqb_says : (a b : ℕ) → Says (eqb a b) (a ≡ b)
eqb_says a b = (eqb-true a b, eq-eqb a b)

-- a test of the order found, if one is found, says P of it
of_order : {P : Type 0} (new is : Bool) (o : Order) (test : Found → Bool) → test nobody ≡ false → (is ≡ true → Says (test (found o)) P)
    → Says (not new && test (cond is (found o) nobody)) ((new ≡ false) × (is ≡ true) × P)
of_order true is o test n s = (λ e. absurd (false≢true e), λ h. absurd (false≢true (sym h.0)))
of_order false true o test n s = (λ e. (refl, refl, (s refl).0 e), λ h. (s refl).1 h.2)
of_order false false o test n s = (λ e. absurd (false≢true (sym n ∙ e)), λ h. absurd (false≢true h.1))

-- a test of the row of a line that belongs to one says Q where there is none, and P of the one that is seen
of_row : {P Q : Type 0} (b is : Bool) (w : QuoteRow) (test : Seen → Bool) → Says (test none) Q → Says (test (seen w)) P
    → Says (b && test (cond is (seen w) none)) (((b ≡ true) × (is ≡ false) × Q) ⊎ ((b ≡ true) × (is ≡ true) × P))
of_row {P} {Q} true true w test q p = (λ e. inr (refl, refl, p.0 e), go)
  where
    go : ((true ≡ true) × (true ≡ false) × Q) ⊎ ((true ≡ true) × (true ≡ true) × P) → test (seen w) ≡ true
    go (inl h) = absurd (false≢true (sym h.1))
    go (inr h) = p.1 h.2
of_row {P} {Q} true false w test q p = (λ e. inl (refl, refl, q.0 e), go)
  where
    go : ((true ≡ true) × (false ≡ false) × Q) ⊎ ((true ≡ true) × (false ≡ true) × P) → test none ≡ true
    go (inl h) = q.1 h.2
    go (inr h) = absurd (false≢true h.1)
of_row {P} {Q} false is w test q p = (λ e. absurd (false≢true e), go)
  where
    go : ((false ≡ true) × (is ≡ false) × Q) ⊎ ((false ≡ true) × (is ≡ true) × P) → false ≡ true
    go (inl h) = h.0
    go (inr h) = h.0

-- ---- each test says what the refusal with its number says

never : Says false ⊥
never = (λ e. absurd (false≢true e), λ h. absurd h)

-- where a test says nothing of a row that is not there
only_there : {b : Bool} {A B P : Type 0} → Says b ((A × B × ⊥) ⊎ P) → Says b P
only_there {b} {A} {B} {P} s = (λ e. go (s.0 e), λ p. s.1 (inr p))
  where
    go : (A × B × ⊥) ⊎ P → P
    go (inl h) = absurd h.2
    go (inr p) = p

module _ (limit : ℕ) (h : History) (l : Legal h) where
  -- the test numbered n on the table of the history, and P of the history
  abbrev Law : ℕ → (Said → Type 0) → Type 0
  Law n P = (x : Said) → Says (test_of (day_of h) x n (checks limit)) (P x)

  -- a test of the order that the line speaks of, as the lookup finds it
  of_theirs : (r : Record) {P : Type 0} (test : Found → Bool) → test nobody ≡ false
      → (known (subject r) h ≡ true → Says (test (found (order_of h (line_that_made (subject r) h r)))) P)
      → Says (not (is_new r.event) && test (find (subject r) (orders_of h))) (OfOrder h r P)
  of_theirs r test n s =
      rw (find_order (subject r) r h l) (of_order (is_new r.event) (known (subject r) h) (order_of h (line_that_made (subject r) h r)) test n s)

  day_over : Law 6 (DayOver h)
  day_over x = Iff.rfl

  known_key : Law 7 (KnownKey h)
  known_key end_of_day = never
  known_key (line r) = rw (is_known (key_of r) r h l) (and_says (is_maker r.event) (known (key_of r) h) Iff.rfl Iff.rfl)

  unknown_key : Law 8 (UnknownKey h)
  unknown_key end_of_day = never
  unknown_key (line r) =
      rw (to_quote_lem h r l, is_known (subject r) r h l, seen_row (quote_of r) h)
      (three_say (not (is_new r.event)) (not (known (subject r) h)) (not (finds h r)) (not_says (is_new r.event)) (not_says (known (subject r) h)) (not_says (finds h r)))

  other_series : Law 9 (OtherSeries h)
  other_series end_of_day = never
  other_series (line r) =
      let m = line_that_made (subject r) h r in
      of_theirs r (differs r) refl
      (λ k. not_so (and_says (eqb m.side r.side) (same_series (series_of m) (series_of r)) (eqb_says m.side r.side) (series_same (series_of m) (series_of r))))

  not_open_lem : Law 10 (NotOpen h)
  not_open_lem end_of_day = never
  not_open_lem (line r) =
      let e = r.event in
      let o = open_of (subject r) h in
      let n = r.contracts in
      let few = and_says (is_execution e || is_cancel e) (ltb o n) Iff.rfl (ltb_says o n) in
      let none = and_says (is_replace e || is_reprice e) (eqb o 0) Iff.rfl (eqb_says o 0) in
      of_theirs r (not_open r) refl
      (λ k. rw (ap (λ (a : Key). open_of a h) (made_key (subject r) r h k))
      (or_says ((is_execution e || is_cancel e) && ltb o n) ((is_replace e || is_reprice e) && eqb o 0) few none))

  not_executed_lem : Law 11 (NotExecuted h)
  not_executed_lem end_of_day = never
  not_executed_lem (line r) =
      let whole : Key → ℕ = λ a. executed_of a h - broken_of a h in
      let e = r.event in
      let q = quote_of r in
      let n = r.contracts in
      let unbroken = filled_of is_execution q h - filled_of is_break q h in
      or_says _ _
      (of_theirs r (not_executed r) refl
      (λ k. rw (ap whole (made_key (subject r) r h k)) (and_says (is_break e) (ltb (whole (subject r)) n) Iff.rfl (ltb_says (whole (subject r)) n))))
      (rw (to_quote_lem h r l, found_row q h)
      (only_there (of_row (belongs h r) (has_row q h) (quote_row_of h q) (row_not_executed r (length (day_of h).quotes)) never (and_says (is_break e) (ltb unbroken n) Iff.rfl (ltb_says unbroken n)))))

  full : Law 12 (Full limit h)
  full end_of_day = never
  full (line r) =
      rw (length-map (lines_that_make h) (order_of h))
      (and_says (is_maker r.event) (leb limit (length (lines_that_make h))) Iff.rfl (leb_says limit (length (lines_that_make h))))

  row_full_lem : Law 13 (RowFull h)
  row_full_lem end_of_day = never
  row_full_lem (line r) =
      let e = is_execution r.event in
      let q = quote_of r in
      let many = length (quotes_of h) in
      let sum = filled_of is_execution q h + r.contracts in
      rw (to_quote_lem h r l, found_row q h, length-map (quotes_of h) (quote_row_of h))
      (of_row (belongs h r) (has_row q h) (quote_row_of h q) (row_full r many) (and_says e (leb most_rows many) Iff.rfl (leb_says most_rows many))
      (and_says e (ltb most_executed sum) Iff.rfl (ltb_says most_executed sum)))

  -- ---- so booking refuses what a piece says by the first that applies, and never by 3

  module _ (p : List ℕ) (x : Said) (e : read p ≡ value x) where
    unrefused : (n f : ℕ) → read p ≡ refused n f → ⊥
    unrefused n f q = let z : ◌≡◌ {A = ℕ} 0 1 = cc in omega arith

    infixr 3 ◌and◌
    -- a law in front of others
    ◌and◌ : {b : Bool} {P : Said → Type 0} {A : Type 0} → Says b (P x) → A → Says b (Reads p P) × A
    ◌and◌ {P = P} s others = ((λ t. (x, e, s.0 t), λ w. s.1 (subst P (cc w.1) w.2)), others)

    -- the rules that speak of what the piece reads as
    abbrev said_rules : List Rule
    said_rules =
        rule 6 (Reads p (DayOver h))
        ∷ rule 7 (Reads p (KnownKey h))
        ∷ rule 8 (Reads p (UnknownKey h))
        ∷ rule 9 (Reads p (OtherSeries h))
        ∷ rule 10 (Reads p (NotOpen h))
        ∷ rule 11 (Reads p (NotExecuted h))
        ∷ rule 12 (Reads p (Full limit h))
        ∷ rule 13 (Reads p (RowFull h))
        ∷ []

    pub said_judged : Judged (rules limit h p) (answer_by (refusal_of limit (day_of h) x))
    said_judged =
        let a = answer_by (refusal_of limit (day_of h) x) in
        let third = rule 3 ((f : ℕ) × (read p ≡ refused 3 f)) in
        skipped (rule 2 (read p ≡ refused 2 0) ∷ third ∷ said_rules) 1 (read p ≡ refused 1 0) a (unrefused 1 0)
        (skipped (third ∷ said_rules) 2 (read p ≡ refused 2 0) a (unrefused 2 0)
        (skipped said_rules 3 third.applies a (λ (q : (f : ℕ) × (read p ≡ refused 3 f)). unrefused 3 q.0 q.1)
        (chain_judged (day_of h) x (checks limit) said_rules refl refl
        (day_over x and known_key x and unknown_key x and other_series x and not_open_lem x and not_executed_lem x and full x and row_full_lem x and tt))))

    pub said_after : refusal_of limit (day_of h) x ≡ 3 → ⊥
    said_after e = false≢true (sym (ap (λ n. not (eqb n 3)) e) ∙ first_number (day_of h) x (λ n. not (eqb n 3)) (checks limit) refl refl)
