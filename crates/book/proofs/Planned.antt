-- The ways out of planning a line, each as the promise says it.
use Prim.Native.Nat.{ℕ, ◌+◌, ◌-◌}
use native.Mathlib.Omega.{arith}
use mathlib.Core.Path.{◌≡◌, refl, sym, ap, ap₂, ◌∙◌}
use mathlib.Core.Bool.{Bool, true, false, cond, ◌&&◌, false≢true, and-true, and-false, or-true}
use mathlib.Core.List.{List}
use lib.Dec.{eqb, leb}
use lib.ListN.{length}
use Rattle.std.specs.Prelude.{Result, Ok, Err}
use Rattle.refusal.specs.Numbers.{number_of, field_of}
use Rattle.refusal.specs.declared.Refusal.{Refusal}
use Rattle.refusal.specs.declared.Refusal.TheVariants.{DayOver, KnownKey, UnknownKey, OtherSeries, NotOpen, NotExecuted, Full, RowFull}
use Rattle.layout.specs.Line.{line}
use Rattle.layout.specs.declared.Event.{Event}
use Rattle.layout.specs.declared.Event.TheVariants.{Accepted, Executed, Cancelled, Broken, Replaced, Repriced}
use Rattle.layout.specs.declared.Record.{Record}
use Rattle.order.specs.Figure.{executed_by, broken_by, cancelled_by, passed_on}
use Rattle.order.specs.Names.{key_of, elder_key_of}
use Rattle.order.specs.declared.Figures.{Figures}
use Rattle.order.specs.declared.Key.{Key}
use Rattle.order.specs.declared.Order.{Order}
use Rattle.quote.specs.Quotes.{most_rows, names_quote, quote_of, row_executed_by, row_broken_by}
use Rattle.quote.specs.Rows.{row_place}
use Rattle.quote.specs.declared.QuoteRow.{QuoteRow}
use Rattle.run.proofs.Tests.{both}
use Rattle.day.specs.History.{is_new, is_execution, is_maker, is_replace}
use Rattle.day.specs.Machine.{nobody, found, find, is_found, place, differs, not_open, not_executed, seen, find_row, to_quote, row_not_executed, row_full, refusal_of, with_figures, with_price, new_order}
use Rattle.day.specs.Machine.{none as unseen}
use Rattle.day.specs.Quotes.{is_fill}
use Rattle.day.proofs.Letters.{new_unfilled, fill_unmade}
use Rattle.day.specs.Refusals.{subject}
use Rattle.slot.specs.Slots.{order_in}
use Rattle.slot.specs.Places.{slot, SlotInside}
use Rattle.quote_slot.specs.QuoteSlots.{row_in}
use Rattle.table.specs.Changes.{changed_at, changed, appended, row_of, row_changed_at, row_changed}
use Rattle.table.specs.Tables.{limit_of, table_in, sound}
use Rattle.book.specs.Bytes.{event_bytes, fill_bytes}
use Rattle.book.specs.Plans.{Older, Plans, RoomFor, plan_by, plan_about, plan_fill, plan_row, after_plan}
use Rattle.book.specs.declared.Plan.{Plan}
use Rattle.book.specs.declared.Plan.TheVariants.{New, NewRow}
use Rattle.book.proofs.There.{free, RowThere, row_free}

module _ (s : List ℕ) (r : Record) where
  refuses : (x : Refusal) → refusal_of (limit_of (length s)) (table_in s) (line r) ≡ number_of x → eqb (number_of x) 0 ≡ false → field_of x ≡ 0
      → Plans s r (Err x)
  refuses x e z f = record { said = rw (e, z, f); out = rw (e, z); room = tt }

  abbrev orders : List Order
  orders = (table_in s).orders

  abbrev quotes : List QuoteRow
  quotes = (table_in s).quotes

  grants : (p : Plan) (q : Bool) → to_quote r (find (subject r) orders) ≡ q → refusal_of (limit_of (length s)) (table_in s) (line r) ≡ 0
      → after_plan p r s ≡ cond q (fill_bytes r.event r s) (event_bytes r.event r s) → RoomFor p s → Plans s r (Ok p)
  grants p q d e b c = record { said = rw e; out = rw (e, d) b; room = c }

  -- ---- what the plan of an event does

  plan_room : (e : Event) (i : ℕ) (f : Figures) → SlotInside i s → (is_maker e && leb (limit_of (length s)) (length (table_in s).orders)) ≡ false
      → RoomFor (plan_by e i f r) s
  plan_room Accepted i f h m = free s m
  plan_room (Executed t) i f h m = h
  plan_room Cancelled i f h m = h
  plan_room (Broken t) i f h m = h
  plan_room Replaced i f h m = (h, free s m)
  plan_room Repriced i f h m = h

  at_place : (k : Key) (i : ℕ) (f : Order → Order) → place k (table_in s).orders ≡ i + 1 → changed_at i f s ≡ changed k f s
  at_place k i f p = let e : i ≡ place k (table_in s).orders - 1 = omega arith in ap (λ j. changed_at j f s) e

  plan_bytes : (e : Event) (i : ℕ) → place (cond (is_replace e) (elder_key_of r) (key_of r)) (table_in s).orders ≡ i + 1
      → after_plan (plan_by e i (order_in (slot s i)).figures r) r s ≡ event_bytes e r s
  plan_bytes Accepted i p = refl
  plan_bytes (Executed t) i p = at_place (key_of r) i (with_figures (λ f. executed_by f r.contracts)) p
  plan_bytes Cancelled i p = at_place (key_of r) i (with_figures (λ f. cancelled_by f r.contracts)) p
  plan_bytes (Broken t) i p = at_place (key_of r) i (with_figures (λ f. broken_by f r.contracts)) p
  plan_bytes Replaced i p = ap₂ (λ n u. appended (new_order r r.contracts n) u) (sym p) (at_place (elder_key_of r) i (with_figures passed_on) p)
  plan_bytes Repriced i p = at_place (key_of r) i (with_price r.price) p

  -- ---- the conditions, one after another

  pub day_over : (table_in s).over ≡ true → Plans s r (Err DayOver)
  day_over a = refuses DayOver (rw a) refl refl

  module _ (a : (table_in s).over ≡ false) where
    pub known_key : (is_maker r.event && is_found (find (key_of r) orders)) ≡ true → Plans s r (Err KnownKey)
    known_key b = refuses KnownKey (rw (a, b)) refl refl

    module _ (b : (is_maker r.event && is_found (find (key_of r) orders)) ≡ false) where
      module _ (n : is_new r.event ≡ true) where
        unfilled : to_quote r (find (subject r) orders) ≡ false
        unfilled = rw (new_unfilled r.event n)

        pub full_of_new : leb (limit_of (length s)) (length orders) ≡ true → Plans s r (Err Full)
        full_of_new f = refuses Full (rw (unfilled, a, b, n, f)) refl refl

        pub new : leb (limit_of (length s)) (length orders) ≡ false → Plans s r (Ok New)
        new f = grants New false unfilled (rw (unfilled, a, b, n, f)) (is_new_lem r.event n) (free s f)
          where
            is_new_lem : (e : Event) → is_new e ≡ true → appended (new_order r r.contracts 0) s ≡ event_bytes e r s
            is_new_lem Accepted n = refl
            is_new_lem (Executed t) n = absurd (false≢true n)
            is_new_lem Cancelled n = absurd (false≢true n)
            is_new_lem (Broken t) n = absurd (false≢true n)
            is_new_lem Replaced n = absurd (false≢true n)
            is_new_lem Repriced n = absurd (false≢true n)

  -- of a line that is no A
  module _ (old : Older s r) where
    a : (table_in s).over ≡ false
    a = old.not_over

    b : (is_maker r.event && is_found (find (key_of r) orders)) ≡ false
    b = old.not_known

    n : is_new r.event ≡ false
    n = old.not_new

    -- the order that the line speaks of stands at place i
    module _ (i : ℕ) (o : Order) (f : find (subject r) orders ≡ found o) (at : place (subject r) orders ≡ i + 1) (e : o ≡ order_in (slot s i)) (h : SlotInside i s) where
      -- 02, 1: a line about an order belongs to no quote row
      none : to_quote r (find (subject r) orders) ≡ false
      none = rw (f, and-false)

      pub about : (full : Bool) → full ≡ leb (limit_of (length s)) (length orders) → Plans s r (plan_about i o r full)
      about full m = go (differs r (found o)) (not_open r (found o)) (not_executed r (found o)) (is_maker r.event && full) refl refl refl refl
        where
          chain : (d p x y : Bool) → Result Plan Refusal
          chain d p x y = cond d (Err OtherSeries) (cond p (Err NotOpen) (cond x (Err NotExecuted) (cond y (Err Full) (Ok (plan_by r.event i o.figures r)))))

          go : (d p x y : Bool) → differs r (found o) ≡ d → not_open r (found o) ≡ p → not_executed r (found o) ≡ x
              → (is_maker r.event && full) ≡ y → Plans s r (chain d p x y)
          go true p x y q t u v = refuses OtherSeries (rw (none, a, b, n, f, q)) refl refl
          go false true x y q t u v = refuses NotOpen (rw (none, a, b, n, f, q, t)) refl refl
          go false false true y q t u v = refuses NotExecuted (rw (none, a, b, n, f, q, t, u)) refl refl
          go false false false true q t u v = refuses Full (rw (none, a, b, ← m, v, n, f, q, t, u)) refl refl
          go false false false false q t u v =
              grants (plan_by r.event i o.figures r) false none (rw (none, a, b, ← m, v, n, f, q, t, u))
              (rw e (plan_bytes r.event i at)) (plan_room r.event i o.figures h (rw (← m) v))

    -- 02, 1: no order has the key
    module _ (f : find (subject r) orders ≡ nobody) where
      pub unknown_key : (is_fill r.event && names_quote r.token) ≡ false → Plans s r (Err UnknownKey)
      unknown_key x =
          let none : to_quote r (find (subject r) orders) ≡ false = rw (f, and-true) x in
          refuses UnknownKey (rw (none, a, b, n, f)) refl refl

      module _ (x : (is_fill r.event && names_quote r.token) ≡ true) (good : sound s ≡ true) where
        quoted : to_quote r (find (subject r) orders) ≡ true
        quoted = rw (f, and-true) x

        unmade : is_maker r.event ≡ false
        unmade = fill_unmade r.event (both (is_fill r.event) (names_quote r.token) x).0

        abbrev count : ℕ
        count = length quotes

        pub by_first : find_row (quote_of r) quotes ≡ unseen → Plans s r (plan_row count 0 unseen r)
        by_first w = go (is_execution r.event) (leb most_rows count) refl refl
          where
            go : (e l : Bool) → is_execution r.event ≡ e → leb most_rows count ≡ l → Plans s r (cond e (cond l (Err RowFull) (Ok NewRow)) (Err UnknownKey))
            go false l e h = refuses UnknownKey (rw (quoted, a, b, unmade, n, f, w, e)) refl refl
            go true true e h = refuses RowFull (rw (quoted, a, b, unmade, n, f, w, e, h)) refl refl
            go true false e h = grants NewRow true quoted (rw (quoted, a, b, unmade, n, f, w, e, h)) (rw (e, w)) (row_free s good h)

        -- the row of its quote stands at place i
        module _ (i : ℕ) (t : RowThere s (quote_of r) i) where
          abbrev w : QuoteRow
          w = row_in (row_of s i)

          row_at : (g : QuoteRow → QuoteRow) {u : List ℕ} → u ≡ row_changed_at i g s → u ≡ row_changed (quote_of r) g s
          row_at g e = let j : i ≡ row_place (quote_of r) quotes - 1 = omega (arith, t.at) in e ∙ ap (λ k. row_changed_at k g s) j

          fill_room : (e : Bool) → RoomFor (plan_fill e i w r.contracts) s
          fill_room true = t.inside
          fill_room false = t.inside

          fill_bytes_lem : (e : Bool) → is_execution r.event ≡ e → after_plan (plan_fill e i w r.contracts) r s ≡ fill_bytes r.event r s
          fill_bytes_lem true e = rw (e, t.is) (row_at (λ v. row_executed_by v r.contracts) refl)
          fill_bytes_lem false e = rw e (row_at (λ v. row_broken_by v r.contracts) refl)

          pub by_row : Plans s r (plan_row count i (seen w) r)
          by_row = go (row_not_executed r count (seen w)) (row_full r count (seen w)) refl refl
            where
              go : (u v : Bool) → row_not_executed r count (seen w) ≡ u → row_full r count (seen w) ≡ v
                  → Plans s r (cond u (Err NotExecuted) (cond v (Err RowFull) (Ok (plan_fill (is_execution r.event) i w r.contracts))))
              go true v p q = refuses NotExecuted (rw (quoted, a, b, unmade, n, f, t.is, or-true, p)) refl refl
              go false true p q = refuses RowFull (rw (quoted, a, b, unmade, n, f, t.is, or-true, p, q)) refl refl
              go false false p q =
                  grants (plan_fill (is_execution r.event) i w r.contracts) true quoted (rw (quoted, a, b, unmade, n, f, t.is, or-true, p, q))
                  (fill_bytes_lem (is_execution r.event) refl) (fill_room (is_execution r.event))
