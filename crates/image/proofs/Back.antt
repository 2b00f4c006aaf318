-- A record that a line says comes back from its bytes: each of them has a meaning, and they say that record.
use Rattle.std.proofs.Common.{None}
use Prim.Native.Nat.{ℕ, zero, suc, ◌+◌, ◌/◌, ◌^◌, ◌≤◌, ◌<◌}
use native.Mathlib.Nat.{pow-suc, zero-add}
use native.Mathlib.Omega.{arith}
use mathlib.Core.Path.{◌≡◌, refl, sym, ap, subst, ◌∙◌}
use mathlib.Core.Bool.{true, false, not, ◌&&◌}
use mathlib.Core.List.{List, [], ◌∷◌}
use borrow.Author.Tests.{eq-eqb, leb-true, ltb-true}
use lib.Dec.{leb, eqb}
use lib.ListN.{length, get_or, take, drop}
use lib.Seq.{length-take-le}
use Rattle.run.specs.Runs.{part, all, is_zero}
use Rattle.refusal.specs.Answer.{value}
use Rattle.message.specs.Fields.{field_at}
use Rattle.message.specs.Rule.{writes, lawful}
use Rattle.cell.specs.Cells.{le, le_bytes}
use Rattle.run.proofs.Tests.{both}
use Rattle.run.proofs.Parts.{get_d_part, part_part}
use Rattle.cell.proofs.Laws.{le_written}
use Rattle.field.proofs.Fill.{between}
use Rattle.layout.specs.Demand2.{field_held, LawfulRecord}
use Rattle.layout.specs.Layout.{is_trade, least_strike, trade_id}
use Rattle.layout.specs.Line.{line, read, line_of, layout_for}
use Rattle.layout.specs.Records.{type_of, event_of, no_trade, trade_of, match_of, cross_of}
use Rattle.layout.specs.declared.Event.{Event}
use Rattle.layout.specs.declared.Event.TheVariants.{Accepted, Executed, Cancelled, Broken, Replaced, Repriced}
use Rattle.layout.specs.declared.Record.{Record}
use Rattle.layout.specs.declared.Trade.{Trade}
use Rattle.layout.proofs.Answers.{read_back, length_line, none_unlawful}
use Rattle.record.proofs.Events.{type_lawful, liquidity_text}
use Rattle.image.specs.Images.{image_of, odd_id, record_in, unmeant, unwritable}
use Rattle.image.proofs.Cells.{cells, cell_at, apart, clear, numbers_are_cells, length_cells, part_apart, part_cell}
use Rattle.image.proofs.Odd.{all_meant}
use Rattle.image.proofs.Fields.{field_bytes}
use Rattle.image.proofs.Sooner.{rule_in_the_way}

-- ---- the bytes of a number past those that it needs

zeros : (n : ℕ) → all is_zero (le_bytes n 0) ≡ true
zeros zero = refl
zeros (suc n) = zeros n

high_bytes : (w n v : ℕ) → v < 256 ^ w → all is_zero (drop w (le_bytes n v)) ≡ true
high_bytes zero n v h = let none : v ≡ 0 = omega arith in rw none (zeros n)
high_bytes (suc w) zero v h = refl
high_bytes (suc w) (suc n) v h = high_bytes w n (v / 256) (omega (arith, pow-suc 256 w))

-- ---- what goes by the event

-- where an event carries no trade, each of its parts is that of none
no_trade_lem : (of : Trade → ℕ) (n : ℕ) → of no_trade ≡ n → (e : Event) → (not (is_trade (type_of e)) && not (eqb (of (trade_of e)) n)) ≡ false
no_trade_lem of n h Accepted = rw (eq-eqb (of no_trade) n h)
no_trade_lem of n h (Executed t) = refl
no_trade_lem of n h Cancelled = rw (eq-eqb (of no_trade) n h)
no_trade_lem of n h (Broken t) = refl
no_trade_lem of n h Replaced = rw (eq-eqb (of no_trade) n h)
no_trade_lem of n h Repriced = rw (eq-eqb (of no_trade) n h)

event_back : (e : Event) → event_of (type_of e) (trade_of e) ≡ e
event_back Accepted = refl
event_back (Executed t) = refl
event_back Cancelled = refl
event_back (Broken t) = refl
event_back Replaced = refl
event_back Repriced = refl

match_small : (e : Event) → lawful (trade_id (type_of e)) 9 (match_of e) ≡ true → (trade_of e).match_id < 256 ^ 8
match_small Accepted l = omega arith
match_small (Executed t) l = omega (arith, (between 0 999999999 t.match_id l).1)
match_small Cancelled l = omega arith
match_small (Broken t) l = omega (arith, (between 0 999999999 t.match_id l).1)
match_small Replaced l = omega arith
match_small Repriced l = omega arith

cross_small : (e : Event) → lawful (trade_id (type_of e)) 9 (cross_of e) ≡ true → (trade_of e).cross_id < 256 ^ 8
cross_small Accepted l = omega arith
cross_small (Executed t) l = omega (arith, (between 0 999999999 t.cross_id l).1)
cross_small Cancelled l = omega arith
cross_small (Broken t) l = omega (arith, (between 0 999999999 t.cross_id l).1)
cross_small Replaced l = omega arith
cross_small Repriced l = omega arith

-- ---- the bytes of a lawful record

module _ (r : Record) (h : LawfulRecord r) where
  abbrev image : List ℕ
  image = image_of r

  front_length : length (take 138 (line_of r)) ≡ 138
  front_length = length-take-le 138 (line_of r) (omega (arith, length_line r h))

  pub image_length : length image ≡ 138
  unfolding image_of
  image_length = ap length (numbers_are_cells r (take 138 (line_of r))) ∙ length_cells (cells r) (take 138 (line_of r)) ∙ front_length

  -- field n, which is no number
  pub verbatim_field : (n : ℕ) → (leb 1 n && leb n 24) ≡ true
      → let f = field_at (layout_for r) n in apart f.at f.len (cells r) ≡ true → leb (f.at + f.len) 138 ≡ true
      → part image f.at f.len ≡ writes f.rule f.len (field_held r n)
  unfolding image_of
  verbatim_field n m a g =
      let f = field_at (layout_for r) n in
      let b = between 1 24 n m in
      ap (λ b. part b f.at f.len) (numbers_are_cells r (take 138 (line_of r)))
      ∙ part_apart (cells r) (take 138 (line_of r)) f.at f.len a
      ∙ part_part (line_of r) 0 138 f.at f.len (leb-true (f.at + f.len) 138 g)
      ∙ rw zero-add (field_bytes r h n b.0 b.1)

  pub number_cell : (k : ℕ) → clear 138 (cells r) k ≡ true
      → let c = cell_at (cells r) k in part image c.at c.len ≡ le_bytes c.len c.number
  unfolding image_of
  number_cell k e =
      let c = cell_at (cells r) k in
      ap (λ b. part b c.at c.len) (numbers_are_cells r (take 138 (line_of r)))
      ∙ part_cell (cells r) (take 138 (line_of r)) k (subst (λ n. clear n (cells r) k ≡ true) (sym front_length) e)

  one_byte : (i b : ℕ) → part image i 1 ≡ b ∷ [] → get_or image i 0 ≡ b
  one_byte i b e = let z : i + 0 ≡ i = omega arith in rw z at (sym (get_d_part image i 1 0 (omega arith))) ∙ ap (λ l. get_or l 0 0) e

  number_back : (at w n v : ℕ) → w ≤ n → part image at n ≡ le_bytes n v → take w (le_bytes n v) ≡ le_bytes w v → v < 256 ^ w → le (part image at w) ≡ v
  number_back at w n v f e t b =
      let z : at + 0 ≡ at = omega arith in
      ap le (rw z at (sym (part_part image at n 0 w (omega arith))) ∙ ap (take w) e ∙ t) ∙ le_written w v b

  -- ---- field by field

  type_back : get_or image 8 0 ≡ type_of r.event
  type_back = one_byte 8 (type_of r.event) (verbatim_field 2 refl refl refl)

  liquidity_back : get_or image 15 0 ≡ (trade_of r.event).liquidity
  liquidity_back = one_byte 15 (trade_of r.event).liquidity (verbatim_field 6 refl refl refl ∙ sym (liquidity_text r.event))

  price_small : r.price < 256 ^ 8
  price_small = omega (arith, ltb-true r.price (10 ^ 10) (h.fields 22 (omega arith) (omega arith)))

  match_fits : (trade_of r.event).match_id < 256 ^ 8
  match_fits = match_small r.event (h.fields 23 (omega arith) (omega arith))

  cross_fits : (trade_of r.event).cross_id < 256 ^ 8
  cross_fits = cross_small r.event (h.fields 24 (omega arith) (omega arith))

  match_back : le (part image 120 8) ≡ (trade_of r.event).match_id
  match_back = number_back 120 8 9 (trade_of r.event).match_id (omega arith) (number_cell 6 refl) refl match_fits

  cross_back : le (part image 129 8) ≡ (trade_of r.event).cross_id
  cross_back = number_back 129 8 9 (trade_of r.event).cross_id (omega arith) (number_cell 7 refl) refl cross_fits

  -- ---- every byte has a meaning

  lawful_meant : unmeant image ≡ None
  lawful_meant = all_meant image
      (rw type_back (type_lawful r.event))
      (rw (type_back, liquidity_back) (no_trade_lem (λ t. t.liquidity) 32 refl r.event))
      price_even
      (even 120 (trade_of r.event).match_id (number_cell 6 refl) match_fits (rw (type_back, match_back) (no_trade_lem (λ t. t.match_id) 0 refl r.event)))
      (even 129 (trade_of r.event).cross_id (number_cell 7 refl) cross_fits (rw (type_back, cross_back) (no_trade_lem (λ t. t.cross_id) 0 refl r.event)))
    where
      price_even : all is_zero (part image 118 2) ≡ true
      price_even = ap (all is_zero) (sym (part_part image 110 10 8 2 (omega arith)) ∙ ap (λ l. part l 8 2) (number_cell 5 refl)) ∙ high_bytes 8 10 r.price price_small

      even : (at v : ℕ) → part image at 9 ≡ le_bytes 9 v → v < 256 ^ 8 → (not (is_trade (get_or image 8 0)) && not (eqb (le (part image at 8)) 0)) ≡ false
          → odd_id image at ≡ false
      even at v e f q =
          let last : eqb (get_or image (at + 8) 0) 0 ≡ true =
          ap (λ b. eqb b 0) (sym (get_d_part image at 9 8 (omega arith)) ∙ ap (λ l. get_or l 8 0) e)
          ∙ (both (eqb (get_or (le_bytes 9 v) 8 0) 0) true (high_bytes 8 9 v f)).0
          in
          rw (last, q)

  -- ---- and they say the record

  event_said : event_of (get_or image 8 0) (record { liquidity = get_or image 15 0; match_id = le (part image 120 8); cross_id = le (part image 129 8) }) ≡ r.event
  event_said = rw (type_back, liquidity_back, match_back, cross_back) (event_back r.event)

  small : (n : ℕ) (least most : ℕ) (v : ℕ) → (leb least v && leb v most) ≡ true → most < n → v < n
  small n least most v e f = omega (arith, (between least most v e).1)

  lawful_said : record_in image ≡ r
  unfolding record_in
  lawful_said = λ i.
      record {
        timestamp = number_back 0 8 8 r.timestamp (omega arith) (number_cell 0 refl) refl (small (256 ^ 8) 0 86399999 r.timestamp (h.fields 1 (omega arith) (omega arith)) (omega arith)) i;
        event = event_said i;
        firm = verbatim_field 3 refl refl refl i;
        capacity = one_byte 13 r.capacity (verbatim_field 4 refl refl refl) i;
        position = one_byte 14 r.position (verbatim_field 5 refl refl refl) i;
        account = verbatim_field 7 refl refl refl i;
        member = verbatim_field 8 refl refl refl i;
        clearing = verbatim_field 9 refl refl refl i;
        source = verbatim_field 10 refl refl refl i;
        token = verbatim_field 11 refl refl refl i;
        replaced = verbatim_field 12 refl refl refl i;
        reference = verbatim_field 13 refl refl refl i;
        side = one_byte 85 r.side (verbatim_field 14 refl refl refl) i;
        contracts = number_back 86 6 6 r.contracts (omega arith) (number_cell 1 refl) refl (small (256 ^ 6) 1 999999 r.contracts (h.fields 15 (omega arith) (omega arith)) (omega arith)) i;
        root = verbatim_field 16 refl refl refl i;
        month = one_byte 98 r.month (verbatim_field 17 refl refl refl) i;
        date = number_back 99 2 2 r.date (omega arith) (number_cell 2 refl) refl (small (256 ^ 2) 1 31 r.date (h.fields 18 (omega arith) (omega arith)) (omega arith)) i;
        year = number_back 101 2 2 r.year (omega arith) (number_cell 3 refl) refl (small (256 ^ 2) 0 99 r.year (h.fields 19 (omega arith) (omega arith)) (omega arith)) i;
        denominator = one_byte 103 r.denominator (verbatim_field 20 refl refl refl) i;
        strike = number_back 104 6 6 r.strike (omega arith) (number_cell 4 refl) refl (small (256 ^ 6) (least_strike r.denominator) 999999 r.strike (h.fields 21 (omega arith) (omega arith)) (omega arith)) i;
        price = number_back 110 8 10 r.price (omega arith) (number_cell 5 refl) refl price_small i;
      }

  lawful_writable : unwritable image ≡ 0
  lawful_writable = sym (rule_in_the_way image image_length lawful_meant) ∙ rw lawful_said ((none_unlawful r).1 h)

pub back : (p : List ℕ) (r : Record) → read p ≡ value (line r) → (unwritable (image_of r) ≡ 0) × (record_in (image_of r) ≡ r)
back p r e = let h = (read_back p r e).0 in (lawful_writable r h, lawful_said r h)
