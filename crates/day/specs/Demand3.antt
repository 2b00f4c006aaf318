-- The tender's demand 3, in the order of its sentences, of any booking and any way to make the sheet. proofs/Demand3.antt proves it of ours.
use Rattle.std.specs.Prelude.{ℕ, ◌+◌, ◌≤◌, ◌<◌, ◌≡◌, true, false, cond, List, [], ◌∷◌, ◌↔◌, length, get_or}
use Rattle.refusal.specs.Answer.{Answer, value, refused}
use Rattle.layout.specs.Line.{Said, line, read}
use Rattle.layout.specs.declared.Event.TheVariants.{Replaced}
use Rattle.layout.specs.declared.Record.{Record}
use Rattle.order.specs.Names.{key_of, same_key}
use Rattle.order.specs.declared.Order.{Order}
use Rattle.quote.specs.declared.Quote.{Quote}
use Rattle.day.specs.Damage.{undamaged, elders_of}
use Rattle.day.specs.History.{History, figures_of, orders_of, is_over, known, count_of, is_new, is_maker}
use Rattle.day.specs.Quotes.{has_row, quote_rows_of}
use Rattle.day.specs.Listing.{Row, Sheet, members_of, Each, Listed, shown, shown_quote, elder_at}
use Rattle.day.specs.Refusals.{rules, NoneOf, FirstOf}
use Rattle.day.specs.Tables.{Table, empty, Booked}

-- ---- "Start from an empty table and feed it lines, good or bad, in any sequence." The pieces stand latest first

-- a line that was accepted joins the history
abbrev pub joined : Answer (Unit {0}) → Answer Said → History → History
joined (value u) (value x) h = x ∷ h
joined (value u) (refused n f) h = h
joined (refused n f) said h = h

-- a piece that was accepted joins those before it
abbrev pub if_accepted : Answer (Unit {0}) → List ℕ → List (List ℕ) → List (List ℕ)
if_accepted (value u) p ps = p ∷ ps
if_accepted (refused n f) p ps = ps

module _ (book : Table → List ℕ → Booked) where
  abbrev pub table_after : List (List ℕ) → Table
  table_after [] = empty
  table_after (p ∷ ps) = (book (table_after ps) p).table

  abbrev pub answer_to : List (List ℕ) → List ℕ → Answer (Unit {0})
  answer_to ps p = (book (table_after ps) p).answer

  -- the accepted lines
  abbrev pub history_after : List (List ℕ) → History
  history_after [] = []
  history_after (p ∷ ps) = joined (answer_to ps p) (read p) (history_after ps)

  -- the accepted ones alone
  abbrev pub accepted_of : List (List ℕ) → List (List ℕ)
  accepted_of [] = []
  accepted_of (p ∷ ps) = if_accepted (answer_to ps p) p (accepted_of ps)

-- an order's elder, its elder's elder, and so on
pub data Ancestor (es : List ℕ) : ℕ → ℕ → Type 0 where
  elder : {i j : ℕ} → i < length es → elder_at es i ≡ j + 1 → Ancestor es j i
  older : {i j k : ℕ} → Ancestor es k j → i < length es → elder_at es i ≡ j + 1 → Ancestor es k i

-- a line of replacements is a descent: every order has at most one elder, an earlier one; nobody is their own ancestor; each person once
pub record Descent (os : List Order) : Type 0 where
  pub earlier : (i : ℕ) → i < length os → elder_at (elders_of os) i ≤ i
  pub unshared : (i j : ℕ) → i < length os → j < length os → 1 ≤ elder_at (elders_of os) i → elder_at (elders_of os) i ≡ elder_at (elders_of os) j → i ≡ j
  pub acyclic : (i : ℕ) → Ancestor (elders_of os) i i → ⊥
  pub one_key : (none : Order) (i j : ℕ) → i < length os → j < length os
      → same_key (get_or os i none).key (get_or os j none).key ≡ true → i ≡ j

-- what is answered to a piece after the accepted lines h
pub record IsAnswer (limit : ℕ) (h : History) (p : List ℕ) (a : Answer (Unit {0})) : Type 0 where
  -- accepted exactly when no refusal applies
  pub accepted : (a ≡ value tt) ↔ NoneOf (rules limit h p)
  -- else refused by the first that applies, and with a 3 by the first field
  pub refused_first : (n : ℕ) → ((f : ℕ) × (a ≡ refused n f)) ↔ FirstOf (rules limit h p) n
  pub refused_field : (f : ℕ) → (a ≡ refused 3 f) ↔ (read p ≡ refused 3 f)
  -- 01: "Each answers its number (3 also the field) and no value": any other comes with no field
  pub refused_plain : (n f : ℕ) → a ≡ refused n f → (n ≡ 3 → ⊥) → f ≡ 0

-- a row shows the order at its place: its key, and of that key what the accepted lines say
pub record Tells (h : History) (q : Row) : Type 0 where
  pub key : (none : Order) → q.key ≡ (get_or (orders_of h) q.member.at none).key
  pub figures : q.figures ≡ figures_of q.key h

-- size equals executed plus cancelled plus passed on plus open
abbrev pub AddsUp : Row → Type 0
AddsUp q = let f = q.figures in f.size ≡ f.executed + f.cancelled + f.passed + f.«open»

-- the sheet that a history asks for: N counts accepted A and U, F accepted A; families by the acceptance of their first order, each from
-- eldest to youngest; each row as the lines say; 02, 1: below them the quote rows, "by first E, with sums from its own accepted lines"
pub record IsSheet (h : History) (s : Sheet) : Type 0 where
  pub orders : s.orders ≡ count_of is_maker h
  pub families : s.families ≡ count_of is_new h
  pub listed : Listed (elders_of (orders_of h)) (members_of s.rows)
  pub told : Each (Tells h) s.rows
  pub quotes : s.quotes ≡ quote_rows_of h

pub record Demand3 (limit : ℕ) (book : Table → List ℕ → Booked) (sheet : Table → Sheet) : Type 0 where
  -- "A line is accepted exactly when no refusal of the build paper applies to it after the lines accepted before it."
  pub answers : (ps : List (List ℕ)) (p : List ℕ) → IsAnswer limit (history_after book ps) p (answer_to book ps p)
  -- "the sheet shows every accepted order once and no other"
  pub each_once : (ps : List (List ℕ)) (i : ℕ) → i < length (orders_of (history_after book ps))
      → shown i (members_of (sheet (table_after book ps)).rows) ≡ 1
  pub no_other : (ps : List (List ℕ)) (i : ℕ) → length (orders_of (history_after book ps)) ≤ i
      → shown i (members_of (sheet (table_after book ps)).rows) ≡ 0
  -- 02, 1: "each quote row also appears once", and no other: an accepted E made it
  pub quote_once : (ps : List (List ℕ)) (q : Quote) → has_row q (history_after book ps) ≡ true
      → shown_quote q (sheet (table_after book ps)).quotes ≡ 1
  pub no_other_quote : (ps : List (List ℕ)) (q : Quote) → has_row q (history_after book ps) ≡ false
      → shown_quote q (sheet (table_after book ps)).quotes ≡ 0
  -- "families by the acceptance of their first order, each from eldest to youngest", N and F counted; "Every figure equals what the accepted lines naming
  -- that order say": row by row, key and six figures
  pub sheet_so : (ps : List (List ℕ)) → IsSheet (history_after book ps) (sheet (table_after book ps))
  -- and no other sheet is so
  pub only_so : (ps : List (List ℕ)) (s : Sheet) → IsSheet (history_after book ps) s → s ≡ sheet (table_after book ps)
  -- "and size equals executed plus cancelled plus passed on plus open"
  pub adds_up : (ps : List (List ℕ)) → Each AddsUp (sheet (table_after book ps)).rows
  -- the table too holds the orders and the quote rows that the accepted lines say, and whether the day is over
  pub orders : (ps : List (List ℕ)) → (table_after book ps).orders ≡ orders_of (history_after book ps)
  pub quotes : (ps : List (List ℕ)) → (table_after book ps).quotes ≡ quote_rows_of (history_after book ps)
  pub mark : (ps : List (List ℕ)) → (table_after book ps).over ≡ is_over (history_after book ps)
  -- 01: "Every table reached from empty is undamaged."
  pub sound : (ps : List (List ℕ)) → undamaged limit (table_after book ps) ≡ true
  pub descent : (ps : List (List ℕ)) → Descent (table_after book ps).orders
  -- "Refused lines count for nothing.": the accepted ones alone reach the same table, and all of them are accepted again
  pub same_table : (ps : List (List ℕ)) → table_after book (accepted_of book ps) ≡ table_after book ps
  pub all_again : (ps : List (List ℕ)) → accepted_of book (accepted_of book ps) ≡ accepted_of book ps
  -- "An order replaced itself.": one token as both the new order and the old one
  pub story : (ps : List (List ℕ)) (p : List ℕ) (r : Record) → read p ≡ value (line r) → r.event ≡ Replaced → r.token ≡ r.replaced
      → let h = history_after book ps in
      answer_to book ps p ≡ cond (is_over h) (refused 6 0) (cond (known (key_of r) h) (refused 7 0) (refused 8 0))
