-- 01, Promises and Errors a quick hand would make: each wrong booking and each wrong sheet breaks demand 3, by a witness.
use Prim.Native.Nat.{ℕ, ◌≤◌}
use native.Mathlib.Omega.{arith}
use mathlib.Core.Path.{◌≡◌, refl, sym, ap, ◌∙◌}
use mathlib.Core.List.{List, [], ◌∷◌, map}
use borrow.Author.Tests.{lt-leb}
use lib.ListN.{length}
use Rattle.refusal.specs.Answer.{Answer, value, refused}
use Rattle.layout.proofs.Forms.{no_value}
use Rattle.layout.specs.Examples.{spaces}
use Rattle.layout.specs.Line.{Said, end_of_day, line, read, line_of}
use Rattle.layout.specs.declared.Event.{Event}
use Rattle.layout.specs.declared.Event.TheVariants.{Accepted, Executed, Broken}
use Rattle.layout.specs.declared.Record.{Record}
use Rattle.order.specs.Names.{key_of}
use Rattle.order.specs.declared.Figures.{Figures}
use Rattle.quote.specs.Quotes.{names_quote}
use Rattle.day.specs.Case.{sample, host, token, fill, naming, replacing}
use Rattle.day.specs.Damage.{open_at}
use Rattle.day.specs.Demand3.{Demand3, table_after, answer_to, history_after}
use Rattle.day.specs.History.{orders_of, is_over, figures_of}
use Rattle.day.specs.Listing.{Row, Sheet, members_of, Each, shown}
use Rattle.day.specs.Quotes.{quote_rows_of}
use Rattle.day.specs.Machine.{Lookup, own_key, subject_key, book_event, book_read, book}
use Rattle.day.specs.Tables.{Table, empty, Booked}
use Rattle.day.specs.Refusals.{subject, rules, NoneOf}
use Rattle.day.specs.Walk.{sheet_of}
use Rattle.day.specs.Wrong.{RefusesAll, ChangesNothing, NodsAtRest, InventsOrders, InventsFamilies, ShowsNothing, ShowsNoOpen, exchanged, exchanging, book_read_with, book_with, Effect, Returns, breaking_by, by_token, own_open}
use Rattle.day.proofs.Chain.{none_of}
use Rattle.day.proofs.Demand3.{demand3}
use Rattle.day.proofs.Lookup.{day_of}
use Rattle.day.proofs.Settled.{settled}
use Rattle.day.proofs.Tables.{table_eq}

-- with our own parts the machine of specs/Wrong.antt is our booking
pub ours_is_one : book_with own_key subject_key book_event ≡ book
ours_is_one = λ i limit t p. same limit t (read p) i
  where
    same : (limit : ℕ) (t : Table) (a : Answer Said) → book_read_with own_key subject_key book_event limit t a ≡ book_read limit t a
    same limit t (value end_of_day) = refl
    same limit t (value (line r)) = refl
    same limit t (refused n f) = refl

-- after the lines rs, latest first, r reads and no refusal applies to it
abbrev Fits : ℕ → List Record → Record → Type 0
Fits limit rs r = (read (line_of r) ≡ value (line r)) × NoneOf (rules limit (map line rs) (line_of r))

-- the table after them, as the demand has it
abbrev table_of : List Record → Table
table_of rs = day_of (map line rs)

-- the witnesses: A T1 30; E T1 30; C T1 30
abbrev order : Record
order = naming Accepted 1 30

abbrev trade : Record
trade = naming (Executed fill) 1 30

abbrev break : Record
break = naming (Broken fill) 1 30

-- T1 30 of ABCD02
abbrev elsewhere : Event → Record
elsewhere event = sample event (host 2) (token 1) (spaces 20) 30

-- ---- 01, Promises of reader, table and sheet: what meets the demand is none of these

module _ {limit : ℕ} {book : Table → List ℕ → Booked} {sheet : Table → Sheet} (demand : Demand3 limit book sheet) where
  -- each of the lines is accepted
  abbrev Taken : List Record → Type 0
  Taken rs = history_after book (map line_of rs) ≡ map line rs

  held : (rs : List Record) → Taken rs → table_after book (map line_of rs) ≡ table_of rs
  held rs all =
      let ps = map line_of rs in
      table_eq (demand.orders ps ∙ ap orders_of all) (demand.quotes ps ∙ ap quote_rows_of all) (demand.mark ps ∙ ap is_over all)

  none_applies : (rs : List Record) (r : Record) → Taken rs
      → (book (table_of rs) (line_of r)).answer ≡ value tt
      → NoneOf (rules limit (map line rs) (line_of r))
  none_applies rs r all e = rw all at ((demand.answers (map line_of rs) (line_of r)).accepted.0 (rw (held rs all, answer_to) e))

  answered : (rs : List Record) (r : Record) → Taken rs → Fits limit rs r → (book (table_of rs) (line_of r)).answer ≡ value tt
  answered rs r all fits = rw (held rs all, answer_to) at ((demand.answers (map line_of rs) (line_of r)).accepted.1 (rw all fits.1))

  next : (rs : List Record) (r : Record) → Taken rs → Fits limit rs r → Taken (r ∷ rs)
  next rs r all fits = rw (held rs all, answer_to, answered rs r all fits, fits.0, all)

  booked : (rs : List Record) (r : Record) → Taken rs → Fits limit rs r
      → (book (table_of rs) (line_of r)).table.orders ≡ orders_of (map line (r ∷ rs))
  booked rs r all fits = ap (λ t. t.orders) (rw (held rs all) at (held (r ∷ rs) (next rs r all fits)))

-- our booking takes the witnesses, so no refusal applies to them
module _ (limit : ℕ) where
  fits : (rs : List Record) (r : Record) → Taken (demand3 limit) rs → read (line_of r) ≡ value (line r)
      → (book limit (table_of rs) (line_of r)).answer ≡ value tt
      → Fits limit rs r
  fits rs r all reads e = (reads, none_applies (demand3 limit) rs r all e)

  module _ (room : 1 ≤ limit) where
    order_fits : Fits limit [] order
    unfolding read line_of
    order_fits = fits [] order refl refl (rw (lt-leb limit 0))

    trade_fits : Fits limit (order ∷ []) trade
    unfolding read line_of
    trade_fits = fits (order ∷ []) trade (next (demand3 limit) [] order refl order_fits) refl refl

module _ {limit : ℕ} {book : Table → List ℕ → Booked} {sheet : Table → Sheet} (demand : Demand3 limit book sheet) where
  module _ (room : 1 ≤ limit) where
    one : Taken demand (order ∷ [])
    one = next demand [] order refl (order_fits limit room)

    two : Taken demand (trade ∷ order ∷ [])
    two = next demand (order ∷ []) trade one (trade_fits limit room)

    pub refuses_all : RefusesAll book → ⊥
    refuses_all refuses = no_value (sym (refuses empty (line_of order)).2 ∙ answered demand [] order refl (order_fits limit room))

    pub changes_nothing : ChangesNothing book → ⊥
    changes_nothing same = omega (arith, ap length (sym (same empty (line_of order)) ∙ booked demand [] order refl (order_fits limit room)))

    pub nods_at_rest : NodsAtRest book → ⊥
    nods_at_rest same =
        let nod = same (table_of (order ∷ [])) (line_of trade) (omega arith) in
        omega (arith, ap (λ os. open_at os 0) (sym nod ∙ booked demand (order ∷ []) trade one (trade_fits limit room)))

    pub invents_orders : InventsOrders sheet → ⊥
    invents_orders same =
        let first = (demand.sheet_so (line_of order ∷ [])).orders in
        omega (arith, same empty (table_of (order ∷ [])), (demand.sheet_so []).orders, rw (held demand (order ∷ []) one, one) at first)

    pub invents_families : InventsFamilies sheet → ⊥
    invents_families same =
        let first = (demand.sheet_so (line_of order ∷ [])).families in
        omega (arith, same empty (table_of (order ∷ [])), (demand.sheet_so []).families, rw (held demand (order ∷ []) one, one) at first)

    pub shows_nothing : ShowsNothing sheet → ⊥
    shows_nothing none =
        let once = demand.each_once (line_of order ∷ []) 0 (rw one (omega arith)) in
        omega (arith, ap (λ rows. shown 0 (members_of rows)) (none (table_after book (line_of order ∷ []))), once)

-- ---- ours: a sheet whose figures are not those of its orders

-- what the first row shows as open
first_open : List Row → ℕ
first_open [] = 0
first_open (q ∷ rows) = q.figures.«open»

none_open : (rows : List Row) → Each (λ q. q.figures.«open» ≡ 0) rows → first_open rows ≡ 0
unfolding first_open
none_open [] h = refl
none_open (q ∷ rows) h = h.0

module _ {limit : ℕ} {book : Table → List ℕ → Booked} {sheet : Table → Sheet} (demand : Demand3 limit book sheet) where
  -- whatever meets the demand shows what ours shows
  shows_ours : (rs : List Record) → Taken demand rs → Taken (demand3 limit) rs → sheet (table_after book (map line_of rs)) ≡ sheet_of (table_of rs)
  shows_ours rs all ours =
      (settled limit book _ sheet sheet_of demand (demand3 limit)).sheets (map line_of rs) ∙ ap sheet_of (held (demand3 limit) rs ours)

  -- A T1 30: 30 are open
  pub shows_no_open : 1 ≤ limit → ShowsNoOpen sheet → ⊥
  unfolding first_open
  shows_no_open room none =
      let same = shows_ours (order ∷ []) (one demand room) (one (demand3 limit) room) in
      let t = table_after book (line_of order ∷ []) in
      omega (arith, none_open (sheet t).rows (none t), ap (λ (s : Sheet). first_open s.rows) same)

  -- A T1 30; A T9 5: 30 and 5 are open
  pub exchanges_figures : 2 ≤ limit → Demand3 limit book (exchanging sheet) → ⊥
  unfolding first_open read line_of
  exchanges_figures room other =
      let rs = naming Accepted 9 5 ∷ order ∷ [] in
      let few : 1 ≤ limit = omega arith in
      let second = fits limit (order ∷ []) (naming Accepted 9 5) (one (demand3 limit) few) refl (rw (lt-leb limit 1)) in
      let all = next demand (order ∷ []) (naming Accepted 9 5) (one demand few) second in
      let ours = next (demand3 limit) (order ∷ []) (naming Accepted 9 5) (one (demand3 limit) few) second in
      let same = shows_ours rs all ours in
      let again = (settled limit book book sheet (exchanging sheet) demand other).sheets (map line_of rs) in
      omega (arith, ap (λ (s : Sheet). first_open s.rows) (sym same ∙ again), ap (λ (s : Sheet). first_open (exchanged s.rows)) same)

-- ---- 01, Errors a quick hand would make: none of them meets the demand

module _ {limit : ℕ} (room : 2 ≤ limit) {sheet : Table → Sheet} where
  -- A T1 30; E T1 30; C T1 30: open stays 0
  pub returns_broken : (broken : Figures → ℕ → Figures) → Returns broken
      → Demand3 limit (book_with own_key subject_key (breaking_by broken) limit) sheet
      → ⊥
  unfolding read line_of
  returns_broken broken returns demand =
      let third = fits limit (trade ∷ order ∷ []) break (two (demand3 limit) (omega arith)) refl refl in
      let os = booked demand (trade ∷ order ∷ []) break (two demand (omega arith)) third in
      omega (arith, ap (λ os. open_at os 0) os, returns (figures_of (key_of order) (line trade ∷ line order ∷ [])) 30)

  -- "Looking up a U's elder by the line's own token": A T1 30; U T2 for T1, 60: not refused 8
  pub elder_by_own_token : (effect : Effect) → Demand3 limit (book_with own_key own_key effect limit) sheet → ⊥
  unfolding read line_of
  elder_by_own_token effect demand =
      let second = fits limit (order ∷ []) (replacing 2 1 60) (one (demand3 limit) (omega arith)) refl (rw (lt-leb limit 1)) in
      no_value {n = 8} (answered demand (order ∷ []) (replacing 2 1 60) (one demand (omega arith)) second)

  -- A T1 30; A T1 30 of ABCD02: not refused 7
  pub own_key_by_token : (theirs : Lookup) (effect : Effect)
      → Demand3 limit (book_with (λ r. by_token (key_of r)) theirs effect limit) sheet
      → ⊥
  unfolding read line_of
  own_key_by_token theirs effect demand =
      let second = fits limit (order ∷ []) (elsewhere Accepted) (one (demand3 limit) (omega arith)) refl (rw (lt-leb limit 1)) in
      no_value {n = 7} (answered demand (order ∷ []) (elsewhere Accepted) (one demand (omega arith)) second)

  -- A T1 30; E T1 30 of ABCD02: refused 8
  pub subject_by_token : (own : Lookup) (effect : Effect)
      → Demand3 limit (book_with own (λ r. by_token (subject r)) effect limit) sheet
      → ⊥
  unfolding read line_of names_quote
  subject_by_token own effect demand =
      let none = none_applies demand (order ∷ []) (elsewhere (Executed fill)) (one demand (omega arith)) refl in
      none_of 8 (rules limit (line order ∷ []) (line_of (elsewhere (Executed fill)))) none (line (elsewhere (Executed fill)), refl, (refl, refl, refl))

  -- A T1 30; E T1 30; A T1 30: refused 7
  pub frees_key : (theirs : Lookup) (effect : Effect) → Demand3 limit (book_with own_open theirs effect limit) sheet → ⊥
  unfolding read line_of
  frees_key theirs effect demand =
      let none = none_applies demand (trade ∷ order ∷ []) order (two demand (omega arith)) (rw (lt-leb limit 1)) in
      none_of 7 (rules limit (line trade ∷ line order ∷ []) (line_of order)) none (line order, refl, (refl, refl))
