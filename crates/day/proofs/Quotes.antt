-- 02, 1: the quote rows that a legal history declares: which one a lookup finds, and what an accepted line makes of them.
use Prim.Native.Nat.{ℕ}
use native.Mathlib.Nat.{zero-add}
use mathlib.Core.Path.{◌≡◌, refl, sym, ap, ap₂, subst, ◌∙◌}
use mathlib.Core.Logic.{◌⊎◌, inl, inr}
use mathlib.Core.Bool.{Bool, true, false, cond, not, ◌&&◌, ◌||◌, false≢true, and-false, and-true}
use mathlib.Core.List.Memᴰ
use mathlib.Core.List.{List, [], ◌∷◌, ◌++◌, map, map-append, Memᴰ}
use Rattle.layout.specs.Line.{end_of_day, line}
use Rattle.layout.specs.declared.Event.{Event}
use Rattle.layout.specs.declared.Record.{Record}
use Rattle.order.specs.Names.{key_of}
use Rattle.order.specs.declared.Key.{Key}
use Rattle.quote.specs.Quotes.{names_quote, quote_of, same_quote, new_row, row_executed_by, row_broken_by}
use Rattle.quote.specs.Rows.{row_place}
use Rattle.quote.specs.declared.Quote.{Quote}
use Rattle.quote.specs.declared.QuoteRow.{QuoteRow}
use Rattle.quote.proofs.Sameness.{quote_self, quote_eq, quote_comm}
use Rattle.run.proofs.Tests.{both, neither}
use Rattle.day.specs.History.{History, is_execution, is_break, known, add_if, orders_of}
use Rattle.day.specs.Quotes.{is_fill, belongs, of_quote, fills, filled_of, has_row, makes_row, quotes_of, quote_row_of, quote_rows_of}
use Rattle.day.specs.Listing.{shown_quote}
use Rattle.day.specs.Machine.{find, is_found, none, seen, is_seen, find_row, amend_row, to_quote, execute_row, book_fill, book_quotes}
use Rattle.day.specs.Refusals.{subject}
use Rattle.day.proofs.Firsts.{Finds, Places, Amends, find_behind, amend_behind}
use Rattle.day.proofs.Letters.{execution_unbroken, fill_replaces}
use Rattle.day.proofs.Legal.{Follows, Legal}
use Rattle.day.proofs.Lookup.{is_known}
use Rattle.day.proofs.Steps.{map_same}

-- ---- any rows

module _ (q : Quote) where
  abbrev has : QuoteRow → Bool
  has w = same_quote w.quote q

  pub quote_finds : Finds has none seen is_seen (find_row q)
  quote_finds = record { nobody = refl; somebody = λ w. refl; nil = refl; cons = λ w ws. refl }

  pub quote_places : Places has (row_place q)
  quote_places = record { nil = refl; cons = λ w ws. refl }

  pub quote_amends : (f : QuoteRow → QuoteRow) → Amends has f (amend_row q f)
  quote_amends f = record { nil = refl; cons = λ w ws. refl }

pub find_append : (q : Quote) (ws vs : List QuoteRow) → find_row q (ws ++ vs) ≡ cond (is_seen (find_row q ws)) (find_row q ws) (find_row q vs)
find_append q ws vs = find_behind (quote_finds q) ws vs

amend_append : (q : Quote) (f : QuoteRow → QuoteRow) (ws vs : List QuoteRow)
    → amend_row q f (ws ++ vs) ≡ amend_row q f ws ++ cond (is_seen (find_row q ws)) vs (amend_row q f vs)
amend_append q f ws vs = amend_behind (quote_finds q) (quote_amends q f) ws vs

-- changed, if it is the quote's
abbrev changed : Quote → (QuoteRow → QuoteRow) → QuoteRow → QuoteRow
changed q f w = cond (same_quote w.quote q) (f w) w

-- ---- the rows that the lines of a history made

-- what an E that makes a row says
made_row : (h : History) (r : Record) → makes_row h r ≡ true
    → (is_execution r.event ≡ true) × (belongs h r ≡ true) × (has_row (quote_of r) h ≡ false)
made_row h r m =
    let a = both (is_execution r.event && belongs h r) (not (has_row (quote_of r) h)) m in
    let b = both (is_execution r.event) (belongs h r) a.0 in
    (b.0, b.1, go (has_row (quote_of r) h) a.1)
  where
    go : (t : Bool) → not t ≡ true → t ≡ false
    go true e = absurd (false≢true e)
    go false e = refl

-- a quote that has a row has it still, and no other quote gets one, where none is made
row_kept : (q : Quote) (h : History) (r : Record) → makes_row h r ≡ false → has_row q (line r ∷ h) ≡ has_row q h
row_kept q h r m = go (is_execution r.event) refl (belongs h r) refl (same_quote (quote_of r) q) refl
  where
    there : (t : Bool) → t ≡ has_row (quote_of r) h → not t ≡ false → has_row (quote_of r) h ≡ true
    there true e n = sym e
    there false e n = absurd (false≢true (sym n))

    go : (e : Bool) → is_execution r.event ≡ e → (b : Bool) → belongs h r ≡ b → (s : Bool) → same_quote (quote_of r) q ≡ s
        → (e && (b && s) || has_row q h) ≡ has_row q h
    go true e true b true s =
        let same = there (has_row (quote_of r) h) refl (rw (b, e) at m) in
        sym (subst (λ (x : Quote). has_row x h ≡ true) (quote_eq (quote_of r) q s) same)
    go true e true b false s = refl
    go true e false b s t = refl
    go false e b c s t = refl

module _ (k : History) where
  abbrev row_of : Quote → QuoteRow
  row_of = quote_row_of k

  found_made : (q : Quote) (h : History) → find_row q (map (quote_row_of k) (quotes_of h)) ≡ cond (has_row q h) (seen (quote_row_of k q)) none
  found_made q [] = refl
  found_made q (end_of_day ∷ h) = found_made q h
  found_made q (line r ∷ h) = go (makes_row h r) refl (found_made q h)
    where
      last : (s t : Bool) → same_quote (quote_of r) q ≡ s → (s ≡ true → t ≡ false)
          → let first = cond t (seen (row_of q)) none in
          cond (is_seen first) first (cond s (seen (row_of (quote_of r))) none) ≡ cond (s || t) (seen (row_of q)) none
      last true true e n = absurd (false≢true (sym (n refl)))
      last true false e n = ap (λ (x : Quote). seen (row_of x)) (quote_eq (quote_of r) q e)
      last false true e n = refl
      last false false e n = refl

      go : (t : Bool) → makes_row h r ≡ t → find_row q (map row_of (quotes_of h)) ≡ cond (has_row q h) (seen (row_of q)) none
          → find_row q (map row_of (quotes_of (line r ∷ h))) ≡ cond (has_row q (line r ∷ h)) (seen (row_of q)) none
      go true m ih =
          let (e, b, n) = made_row h r m in
          rw (m, map-append row_of (quotes_of h) (quote_of r ∷ []), find_append, ih, b, e)
          (last (same_quote (quote_of r) q) (has_row q h) refl (λ s. subst (λ (x : Quote). has_row x h ≡ false) (quote_eq (quote_of r) q s) n))
      go false m ih = rw (m, row_kept q h r m) ih

  amend_made : (q : Quote) (f : QuoteRow → QuoteRow) (h : History)
      → amend_row q f (map (quote_row_of k) (quotes_of h)) ≡ map (λ x. changed q f (quote_row_of k x)) (quotes_of h)
  amend_made q f [] = refl
  amend_made q f (end_of_day ∷ h) = amend_made q f h
  amend_made q f (line r ∷ h) = go (makes_row h r) refl (amend_made q f h)
    where
      last : (s t : Bool) → (s ≡ true → t ≡ false) → (ws : List QuoteRow)
          → ws ++ cond (is_seen (cond t (seen (row_of q)) none)) (row_of (quote_of r) ∷ []) (cond s (f (row_of (quote_of r)) ∷ []) (row_of (quote_of r) ∷ []))
          ≡ ws ++ (cond s (f (row_of (quote_of r))) (row_of (quote_of r)) ∷ [])
      last true true n ws = absurd (false≢true (sym (n refl)))
      last true false n ws = refl
      last false true n ws = refl
      last false false n ws = refl

      go : (t : Bool) → makes_row h r ≡ t → amend_row q f (map row_of (quotes_of h)) ≡ map (λ x. changed q f (row_of x)) (quotes_of h)
          → amend_row q f (map row_of (quotes_of (line r ∷ h))) ≡ map (λ x. changed q f (row_of x)) (quotes_of (line r ∷ h))
      go true m ih =
          let (e, b, n) = made_row h r m in
          let c : Quote → QuoteRow = λ x. changed q f (row_of x) in
          rw (m, map-append row_of (quotes_of h) (quote_of r ∷ []), map-append c (quotes_of h) (quote_of r ∷ []), amend_append, found_made q h, ih)
          (last (same_quote (quote_of r) q) (has_row q h) (λ s. subst (λ (x : Quote). has_row x h ≡ false) (quote_eq (quote_of r) q s) n) (map c (quotes_of h)))
      go false m ih = rw m ih

-- each quote's row stands once, and no other
pub shown_made : (q : Quote) (k h : History) → shown_quote q (map (quote_row_of k) (quotes_of h)) ≡ cond (has_row q h) 1 0
shown_made q k [] = refl
shown_made q k (end_of_day ∷ h) = shown_made q k h
shown_made q k (line r ∷ h) = go (makes_row h r) refl (shown_made q k h)
  where
    behind : (ws : List QuoteRow) (w : QuoteRow) → shown_quote q (ws ++ (w ∷ [])) ≡ add_if (same_quote w.quote q) 1 (shown_quote q ws)
    behind [] w = refl
    behind (v ∷ ws) w = two (same_quote v.quote q) (same_quote w.quote q) (behind ws w)
      where
        two : (a b : Bool) → shown_quote q (ws ++ (w ∷ [])) ≡ add_if b 1 (shown_quote q ws)
            → add_if a 1 (shown_quote q (ws ++ (w ∷ []))) ≡ add_if b 1 (add_if a 1 (shown_quote q ws))
        two true true ih = rw ih
        two true false ih = rw ih
        two false b ih = ih

    last : (s t : Bool) → (s ≡ true → t ≡ false) → add_if s 1 (cond t 1 0) ≡ cond (s || t) 1 0
    last true true n = absurd (false≢true (sym (n refl)))
    last true false n = refl
    last false true n = refl
    last false false n = refl

    go : (t : Bool) → makes_row h r ≡ t → shown_quote q (map (quote_row_of k) (quotes_of h)) ≡ cond (has_row q h) 1 0
        → shown_quote q (map (quote_row_of k) (quotes_of (line r ∷ h))) ≡ cond (has_row q (line r ∷ h)) 1 0
    go true m ih =
        let (e, b, n) = made_row h r m in
        rw (m, map-append (quote_row_of k) (quotes_of h) (quote_of r ∷ []), behind, ih, b, e)
        (last (same_quote (quote_of r) q) (has_row q h) (λ s. subst (λ (x : Quote). has_row x h ≡ false) (quote_eq (quote_of r) q s) n))
    go false m ih = rw (m, row_kept q h r m) ih

pub found_row : (q : Quote) (h : History) → find_row q (quote_rows_of h) ≡ cond (has_row q h) (seen (quote_row_of h q)) none
found_row q h = found_made h q h

pub seen_row : (q : Quote) (h : History) → is_seen (find_row q (quote_rows_of h)) ≡ has_row q h
seen_row q h = ap is_seen (found_row q h) ∙ go (has_row q h)
  where
    go : (t : Bool) → is_seen (cond t (seen (quote_row_of h q)) none) ≡ t
    go true = refl
    go false = refl

-- a quote of the list has a row
listed_row : (h : History) (q : Quote) → Memᴰ q (quotes_of h) → has_row q h ≡ true
listed_row [] q i = absurd (Memᴰ.not-nil i)
listed_row (end_of_day ∷ h) q i = listed_row h q i
listed_row (line r ∷ h) q i = go (makes_row h r) refl (listed_row h q)
  where
    later : has_row q h ≡ true → has_row q (line r ∷ h) ≡ true
    later e = rw e (or (fills is_execution q h r))
      where
        or : (t : Bool) → (t || true) ≡ true
        or true = refl
        or false = refl

    either : makes_row h r ≡ true → (Memᴰ q (quotes_of h) → has_row q h ≡ true)
        → Memᴰ q (quotes_of h) ⊎ Memᴰ q (quote_of r ∷ [])
        → has_row q (line r ∷ h) ≡ true
    either m ih (inl j) = later (ih j)
    either m ih (inr j) =
        let (e, b, n) = made_row h r m in
        rw (Memᴰ.eq_of_singleton j, b, e, quote_self (quote_of r))

    go : (t : Bool) → makes_row h r ≡ t → (Memᴰ q (quotes_of h) → has_row q h ≡ true) → has_row q (line r ∷ h) ≡ true
    go true m ih = either m ih (Memᴰ.append_cases (quotes_of h) (rw m at i))
    go false m ih = later (ih (rw m at i))

-- the sums of a quote that has no row are 0: "C must find it"
unfilled : (kind : Event → Bool) (q : Quote) (h : History) → Legal h → has_row q h ≡ false → filled_of kind q h ≡ 0
unfilled kind q [] l n = refl
unfilled kind q (end_of_day ∷ h) l n = unfilled kind q h l n
unfilled kind q (line r ∷ h) l n =
    let (first, before) = neither (fills is_execution q h r) (has_row q h) n in
    rw (others (belongs h r) refl (same_quote (quote_of r) q) refl first before, and-false) (unfilled kind q h l.1 before)
  where
    others : (b : Bool) → belongs h r ≡ b → (s : Bool) → same_quote (quote_of r) q ≡ s
        → fills is_execution q h r ≡ false → has_row q h ≡ false → (b && s) ≡ false
    others true b true s first before =
        let e : is_execution r.event ≡ false = sym (and-true (is_execution r.event)) ∙ (rw (b, s) at first) in
        let row = subst (λ (x : Quote). has_row x h ≡ true) (quote_eq (quote_of r) q s) (l.0.rowed b e) in
        absurd (false≢true (sym before ∙ row))
    others true b false s first before = refl
    others false b t s first before = refl

-- ---- whom an E or C belongs to, by the orders

pub fill_subject : (r : Record) → is_fill r.event ≡ true → subject r ≡ key_of r
fill_subject r q = rw (fill_replaces r.event q)

pub to_quote_lem : (h : History) (r : Record) → Legal h → to_quote r (find (subject r) (orders_of h)) ≡ belongs h r
to_quote_lem h r l = go (is_fill r.event) refl
  where
    go : (t : Bool) → is_fill r.event ≡ t
        → (t && not (is_found (find (subject r) (orders_of h))) && names_quote r.token) ≡ (t && not (known (key_of r) h) && names_quote r.token)
    go true q =
        let is = is_known (subject r) r h l ∙ ap (λ (k : Key). known k h) (fill_subject r q) in
        ap (λ t. not t && names_quote r.token) is
    go false q = refl

-- ---- one accepted line

-- a row's sums, changed or not
executed_if : (t : Bool) (n : ℕ) (w : QuoteRow) → cond t (row_executed_by w n) w ≡ record { quote = w.quote; executed = add_if t n w.executed; broken = w.broken }
executed_if true n w = refl
executed_if false n w = refl

broken_if : (t : Bool) (n : ℕ) (w : QuoteRow) → cond t (row_broken_by w n) w ≡ record { quote = w.quote; executed = w.executed; broken = add_if t n w.broken }
broken_if true n w = refl
broken_if false n w = refl

fill_broken : (e : Event) → is_fill e ≡ true → is_execution e ≡ false → is_break e ≡ true
fill_broken e q n = rw n at q

module _ (h : History) (r : Record) (l : Legal h) (f : Follows h r) where
  abbrev q : Quote
  q = quote_of r

  abbrev n : ℕ
  n = r.contracts

  -- the rows stay, but for what is changed of each
  kept_rows : (c : Quote → QuoteRow) → makes_row h r ≡ false → ((x : Quote) → c x ≡ quote_row_of (line r ∷ h) x)
      → map c (quotes_of h) ≡ quote_rows_of (line r ∷ h)
  kept_rows c m e =
      let same : quotes_of (line r ∷ h) ≡ quotes_of h = rw m in
      map_same c (quote_row_of (line r ∷ h)) (quotes_of h) (λ x i. e x) ∙ ap (map (quote_row_of (line r ∷ h))) (sym same)

  -- it is none of a quote's
  unadded : (x : Quote) → of_quote x h r ≡ false → quote_row_of h x ≡ quote_row_of (line r ∷ h) x
  unadded x e = rw (e, and-false (is_execution r.event), and-false (is_break r.event))

  -- it belongs to no row
  passed_by : belongs h r ≡ false → quote_rows_of h ≡ quote_rows_of (line r ∷ h)
  passed_by b = kept_rows (quote_row_of h) (rw (b, and-false)) (λ x. unadded x (rw b))

  executed_again : belongs h r ≡ true → is_execution r.event ≡ true → has_row q h ≡ true
      → amend_row q (λ w. row_executed_by w n) (quote_rows_of h) ≡ quote_rows_of (line r ∷ h)
  executed_again b e row =
      amend_made h q (λ w. row_executed_by w n) h
      ∙ kept_rows _ (rw (row, and-false)) (λ x. rw (b, execution_unbroken r.event e, e, quote_comm x q) (executed_if (same_quote q x) n (quote_row_of h x)))

  executed_first : belongs h r ≡ true → is_execution r.event ≡ true → has_row q h ≡ false
      → quote_rows_of h ++ (new_row q n ∷ []) ≡ quote_rows_of (line r ∷ h)
  executed_first b e row =
      let more : quotes_of (line r ∷ h) ≡ quotes_of h ++ (q ∷ []) = rw (row, b, e) in
      let g = quote_row_of (line r ∷ h) in
      ap₂ (λ (ws : List QuoteRow) (w : QuoteRow). ws ++ (w ∷ [])) (map_same (quote_row_of h) g (quotes_of h) (λ x i. older x (listed_row h x i))) new
      ∙ sym (map-append g (quotes_of h) (q ∷ []))
      ∙ ap (map g) (sym more)
    where
      other : (x : Quote) → has_row x h ≡ true → same_quote q x ≡ false
      other x i = go (same_quote q x) refl
        where
          go : (t : Bool) → same_quote q x ≡ t → t ≡ false
          go true s = absurd (false≢true (sym row ∙ subst (λ (y : Quote). has_row y h ≡ true) (sym (quote_eq q x s)) i))
          go false s = refl

      older : (x : Quote) → has_row x h ≡ true → quote_row_of h x ≡ quote_row_of (line r ∷ h) x
      older x i = unadded x (rw (other x i, and-false))

      new : new_row q n ≡ quote_row_of (line r ∷ h) q
      new = rw (b, execution_unbroken r.event e, e, quote_self q, unfilled is_execution q h l row, unfilled is_break q h l row, zero-add n)

  broken_row : belongs h r ≡ true → is_execution r.event ≡ false → amend_row q (λ w. row_broken_by w n) (quote_rows_of h) ≡ quote_rows_of (line r ∷ h)
  broken_row b e =
      let fill = (both (is_fill r.event) (not (known (key_of r) h)) (both (is_fill r.event && not (known (key_of r) h)) (names_quote r.token) b).0).0 in
      amend_made h q (λ w. row_broken_by w n) h
      ∙ kept_rows _ (rw e) (λ x. rw (b, fill_broken r.event fill e, e, quote_comm x q) (broken_if (same_quote q x) n (quote_row_of h x)))

  pub filled : book_quotes (find (subject r) (orders_of h)) r (quote_rows_of h) ≡ quote_rows_of (line r ∷ h)
  filled = rw (to_quote_lem h r l) (to (belongs h r) refl)
    where
      execute : (t : Bool) → has_row q h ≡ t → belongs h r ≡ true → is_execution r.event ≡ true
          → cond t (amend_row q (λ w. row_executed_by w n) (quote_rows_of h)) (quote_rows_of h ++ (new_row q n ∷ [])) ≡ quote_rows_of (line r ∷ h)
      execute true row b e = executed_again b e row
      execute false row b e = executed_first b e row

      by : (t : Bool) → is_execution r.event ≡ t → belongs h r ≡ true
          → cond t (execute_row q n (quote_rows_of h)) (amend_row q (λ w. row_broken_by w n) (quote_rows_of h)) ≡ quote_rows_of (line r ∷ h)
      by true e b = rw (seen_row q h) (execute (has_row q h) refl b e)
      by false e b = broken_row b e

      to : (t : Bool) → belongs h r ≡ t → cond t (book_fill r.event r (quote_rows_of h)) (quote_rows_of h) ≡ quote_rows_of (line r ∷ h)
      to true b = by (is_execution r.event) refl b
      to false b = passed_by b
