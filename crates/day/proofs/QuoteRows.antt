-- 02, 1: an undamaged list of quote rows stays undamaged when a line is booked to one of them, or makes one.
use Prim.Native.Nat.{ℕ, suc, ◌+◌, ◌-◌, ◌≤◌, ◌<◌}
use native.Mathlib.Omega.{arith}
use mathlib.Core.Path.{◌≡◌, refl, sym, ap, ap₂, subst, ◌∙◌}
use mathlib.Core.Bool.{Bool, true, false, cond, ◌&&◌, false≢true}
use mathlib.Core.List.{List, [], ◌∷◌, ◌++◌}
use borrow.Author.Tests.{leb-true, le-leb, leb-false, ltb-false}
use lib.Dec.{leb, eqb}
use lib.ListN.{length, length-append}
use Rattle.run.specs.Found.{one_more}
use Rattle.run.proofs.Tests.{both}
use Rattle.layout.specs.Demand2.{LawfulRecord}
use Rattle.layout.specs.declared.Record.{Record}
use Rattle.quote.specs.Quotes.{most_rows, most_executed, names_quote, quote_of, same_quote, new_row, row_executed_by, row_broken_by, lawful_quote, sound_row}
use Rattle.quote.specs.Rows.{row_place, unlike, all_rows_sound}
use Rattle.quote.specs.declared.Quote.{Quote}
use Rattle.quote.specs.declared.QuoteRow.{QuoteRow}
use Rattle.quote.proofs.Rows.{unlike_last}
use Rattle.day.specs.Damage.{quotes_undamaged}
use Rattle.day.specs.History.{is_execution, is_break}
use Rattle.day.specs.Machine.{Seen, none, seen, is_seen, find_row, amend_row, row_not_executed, row_full, execute_row}
use Rattle.day.proofs.Lawful.{contracts_sized}

pub record RowsUndamaged (ws : List QuoteRow) : Type 0 where
  pub fits : length ws ≤ most_rows
  pub alone : unlike ws ≡ true
  pub sound : all_rows_sound ws ≡ true

pub rows_apart : (ws : List QuoteRow) → quotes_undamaged ws ≡ true → RowsUndamaged ws
rows_apart ws e =
    let a = both (leb (length ws) most_rows && unlike ws) (all_rows_sound ws) e in
    let b = both (leb (length ws) most_rows) (unlike ws) a.0 in
    record { fits = leb-true (length ws) most_rows b.0; alone = b.1; sound = a.1 }

pub rows_whole : (ws : List QuoteRow) → RowsUndamaged ws → quotes_undamaged ws ≡ true
rows_whole ws u = rw (le-leb (length ws) most_rows u.fits, u.alone, u.sound)

-- ---- one is changed

module _ (q : Quote) (f : QuoteRow → QuoteRow) (keeps : (w : QuoteRow) → (f w).quote ≡ w.quote) where
  length_amended : (ws : List QuoteRow) → length (amend_row q f ws) ≡ length ws
  length_amended [] = refl
  length_amended (w ∷ ws) = go (same_quote w.quote q) (length_amended ws)
    where
      go : (t : Bool) → length (amend_row q f ws) ≡ length ws → length (cond t (f w ∷ ws) (w ∷ amend_row q f ws)) ≡ suc (length ws)
      go true ih = refl
      go false ih = ap suc ih

  place_amended : (p : Quote) (ws : List QuoteRow) → row_place p (amend_row q f ws) ≡ row_place p ws
  place_amended p [] = refl
  place_amended p (w ∷ ws) = go (same_quote w.quote q) (place_amended p ws)
    where
      go : (t : Bool) → row_place p (amend_row q f ws) ≡ row_place p ws → row_place p (cond t (f w ∷ ws) (w ∷ amend_row q f ws)) ≡ row_place p (w ∷ ws)
      go true ih = ap (λ (x : Quote). cond (same_quote x p) 1 (one_more (row_place p ws))) (keeps w)
      go false ih = ap (λ n. cond (same_quote w.quote p) 1 (one_more n)) ih

  unlike_amended : (ws : List QuoteRow) → unlike (amend_row q f ws) ≡ unlike ws
  unlike_amended [] = refl
  unlike_amended (w ∷ ws) = go (same_quote w.quote q) (unlike_amended ws)
    where
      go : (t : Bool) → unlike (amend_row q f ws) ≡ unlike ws → unlike (cond t (f w ∷ ws) (w ∷ amend_row q f ws)) ≡ unlike (w ∷ ws)
      go true ih = ap (λ (x : Quote). eqb (row_place x ws) 0 && unlike ws) (keeps w)
      go false ih = ap₂ (λ n b. eqb n 0 && b) (place_amended w.quote ws) ih

  sound_amended : (ws : List QuoteRow) → ((w : QuoteRow) → find_row q ws ≡ seen w → sound_row w ≡ true → sound_row (f w) ≡ true)
      → all_rows_sound ws ≡ true → all_rows_sound (amend_row q f ws) ≡ true
  sound_amended [] s a = refl
  sound_amended (w ∷ ws) s a = go (same_quote w.quote q) refl (sound_amended ws) (both (sound_row w) (all_rows_sound ws) a)
    where
      go : (t : Bool) → same_quote w.quote q ≡ t
          → (((v : QuoteRow) → find_row q ws ≡ seen v → sound_row v ≡ true → sound_row (f v) ≡ true) → all_rows_sound ws ≡ true → all_rows_sound (amend_row q f ws) ≡ true)
          → (sound_row w ≡ true) × (all_rows_sound ws ≡ true)
          → all_rows_sound (cond t (f w ∷ ws) (w ∷ amend_row q f ws)) ≡ true
      go true e ih b = rw (s w (rw e) b.0) b.1
      go false e ih b = rw b.0 (ih (λ v x. s v (rw e x)) b.1)

  amended : {ws : List QuoteRow} → RowsUndamaged ws → ((w : QuoteRow) → find_row q ws ≡ seen w → sound_row w ≡ true → sound_row (f w) ≡ true)
      → RowsUndamaged (amend_row q f ws)
  amended {ws} u s =
      record { fits = rw (length_amended ws) u.fits; alone = rw (unlike_amended ws) u.alone; sound = sound_amended ws s u.sound }

-- ---- one is put behind

unseen : (q : Quote) (ws : List QuoteRow) → is_seen (find_row q ws) ≡ false → row_place q ws ≡ 0
unseen q [] n = refl
unseen q (w ∷ ws) n = go (same_quote w.quote q) (unseen q ws) n
  where
    go : (t : Bool) → (is_seen (find_row q ws) ≡ false → row_place q ws ≡ 0) → is_seen (cond t (seen w) (find_row q ws)) ≡ false
        → cond t 1 (one_more (row_place q ws)) ≡ 0
    go true ih n = absurd (false≢true (sym n))
    go false ih n = rw (ih n)

unlike_behind : (ws : List QuoteRow) (w : QuoteRow) → is_seen (find_row w.quote ws) ≡ false → unlike ws ≡ true → unlike (ws ++ (w ∷ [])) ≡ true
unlike_behind ws w n u = rw (unlike_last ws w, unseen w.quote ws n, u)

sound_behind : (ws : List QuoteRow) (w : QuoteRow) → sound_row w ≡ true → all_rows_sound ws ≡ true → all_rows_sound (ws ++ (w ∷ [])) ≡ true
sound_behind [] w h a = rw h
sound_behind (v ∷ ws) w h a =
    let b = both (sound_row v) (all_rows_sound ws) a in
    rw b.0 (sound_behind ws w h b.1)

behind : {ws : List QuoteRow} (w : QuoteRow) → RowsUndamaged ws → is_seen (find_row w.quote ws) ≡ false → length ws < most_rows → sound_row w ≡ true
    → RowsUndamaged (ws ++ (w ∷ []))
behind {ws} w u n room s =
    record { fits = rw length-append (omega arith); alone = unlike_behind ws w n u.alone; sound = sound_behind ws w s u.sound }

-- ---- what a sound row keeps

pub row_parts : (w : QuoteRow) → sound_row w ≡ true
    → (lawful_quote w.quote ≡ true) × (1 ≤ w.executed) × (w.executed ≤ most_executed) × (w.broken ≤ w.executed)
row_parts w e =
    let a = both (lawful_quote w.quote && leb 1 w.executed && leb w.executed most_executed) (leb w.broken w.executed) e in
    let b = both (lawful_quote w.quote && leb 1 w.executed) (leb w.executed most_executed) a.0 in
    let c = both (lawful_quote w.quote) (leb 1 w.executed) b.0 in
    (c.0, leb-true 1 w.executed c.1, leb-true w.executed most_executed b.1, leb-true w.broken w.executed a.1)

row_whole : (w : QuoteRow) → lawful_quote w.quote ≡ true → 1 ≤ w.executed → w.executed ≤ most_executed → w.broken ≤ w.executed → sound_row w ≡ true
row_whole w q a b c = rw (q, le-leb 1 w.executed a, le-leb w.executed most_executed b, le-leb w.broken w.executed c)

executed_sound : (w : QuoteRow) (n : ℕ) → w.executed + n ≤ most_executed → sound_row w ≡ true → sound_row (row_executed_by w n) ≡ true
executed_sound w n h s = let (q, a, b, c) = row_parts w s in row_whole (row_executed_by w n) q (omega arith) h (omega arith)

broken_sound : (w : QuoteRow) (n : ℕ) → n ≤ w.executed - w.broken → sound_row w ≡ true → sound_row (row_broken_by w n) ≡ true
broken_sound w n h s = let (q, a, b, c) = row_parts w s in row_whole (row_broken_by w n) q a b (omega arith)

module _ (r : Record) (l : LawfulRecord r) where
  quote_lawful : names_quote r.token ≡ true → lawful_quote (quote_of r) ≡ true
  quote_lawful e =
      rw (
        l.fields 10 (omega arith) (omega arith),
        e,
        l.fields 14 (omega arith) (omega arith),
        l.fields 16 (omega arith) (omega arith),
        l.fields 17 (omega arith) (omega arith),
        l.fields 18 (omega arith) (omega arith),
        l.fields 19 (omega arith) (omega arith),
        l.fields 20 (omega arith) (omega arith),
        l.fields 21 (omega arith) (omega arith),
      )

  new_sound : names_quote r.token ≡ true → sound_row (new_row (quote_of r) r.contracts) ≡ true
  new_sound e =
      let (a, b) = contracts_sized r l in
      row_whole (new_row (quote_of r) r.contracts) (quote_lawful e) a (omega arith) (omega arith)

  -- ---- an accepted line that belongs to a row

  module _ (names : names_quote r.token ≡ true) {ws : List QuoteRow} (u : RowsUndamaged ws) where
    abbrev q : Quote
    q = quote_of r

    abbrev full : Seen → Bool
    full = row_full r (length ws)

    pub executed_keeps : is_execution r.event ≡ true → full (find_row q ws) ≡ false → RowsUndamaged (execute_row q r.contracts ws)
    executed_keeps e f = go (find_row q ws) refl f
      where
        few : (w : QuoteRow) → full (seen w) ≡ false → w.executed + r.contracts ≤ most_executed
        few w x = ltb-false most_executed (w.executed + r.contracts) (rw e at x)

        same : {v w : QuoteRow} → seen v ≡ seen w → v ≡ w
        same x = cc

        go : (s : Seen) → find_row q ws ≡ s → full s ≡ false
            → RowsUndamaged (cond (is_seen s) (amend_row q (λ w. row_executed_by w r.contracts) ws) (ws ++ (new_row q r.contracts ∷ [])))
        go none x f =
            behind (new_row q r.contracts) u (ap is_seen x) (leb-false most_rows (length ws) (rw e at f)) (new_sound names)
        go (seen v) x f =
            amended q (λ w. row_executed_by w r.contracts) (λ w. refl) u
            (λ w y s. executed_sound w r.contracts (few w (subst (λ (z : QuoteRow). full (seen z) ≡ false) (same (sym x ∙ y)) f)) s)

    pub broken_keeps : is_break r.event ≡ true → row_not_executed r (length ws) (find_row q ws) ≡ false
        → RowsUndamaged (amend_row q (λ w. row_broken_by w r.contracts) ws)
    broken_keeps e f =
        amended q (λ w. row_broken_by w r.contracts) (λ w. refl) u
        (λ w y s. broken_sound w r.contracts (ltb-false (w.executed - w.broken) r.contracts (rw (y, e) at f)) s)
