-- The bytes of a record that may be written come back from its line: each of them stands there by its field's value, or is one that its meaning fixes.
use Prim.Native.Nat.{ℕ, zero, suc, ◌+◌, ◌≤◌, ◌<◌}
use native.Mathlib.Omega.{arith}
use mathlib.Core.Path.{◌≡◌, refl, sym, ap, ap₂, ◌∙◌}
use mathlib.Core.Bool.{Bool, true, false, not, ◌&&◌, ◌||◌, false≢true}
use mathlib.Core.List.{List, [], ◌∷◌, ◌++◌}
use borrow.Author.Tests.{eqb-true, not-false}
use lib.Dec.{ltb, eqb}
use lib.ListN.{length, get_or, take, drop, take-append-drop, drop_of_length-le}
use lib.Seq.{drop-cons, drop-drop}
use Rattle.run.specs.Runs.{part, all, is_zero, member}
use Rattle.message.specs.Fields.{Field, placed, width}
use Rattle.cell.specs.Cells.{le, le_bytes}
use Rattle.run.proofs.Tests.{both, either, neither}
use Rattle.run.proofs.All.{all_take, all_drop}
use Rattle.run.proofs.Parts.{length_part, part_part}
use Rattle.cell.proofs.Laws.{le_read}
use Rattle.layout.specs.Demand2.{LawfulRecord}
use Rattle.layout.specs.Layout.{is_trade, types}
use Rattle.layout.specs.Line.{layout_for}
use Rattle.layout.specs.Records.{type_of, event_of, no_trade, trade_of}
use Rattle.layout.specs.declared.Trade.{Trade}
use Rattle.layout.proofs.Answers.{none_unlawful}
use Rattle.record.proofs.Events.{liquidity_text}
use Rattle.image.specs.Images.{image_of, IsBytes, odd_id, record_in, unwritable}
use Rattle.image.proofs.Back.{image_length, verbatim_field, number_cell}
use Rattle.image.proofs.Odd.{Meant, meant}
use Rattle.image.proofs.Sooner.{writable}

-- ---- runs that hold the same bytes in every field

infixr 3 ◌also◌
data Same (x y : List ℕ) : List Field → Type 0 where
  none : Same x y []
  ◌also◌ : {r : Field} {rs : List Field} → part x r.at r.len ≡ part y r.at r.len → Same x y rs → Same x y (r ∷ rs)

split : (x : List ℕ) (at w : ℕ) → drop at x ≡ part x at w ++ drop (at + w) x
split x at w = sym (take-append-drop w (drop at x)) ∙ ap (λ l. part x at w ++ l) (drop-drop w at x)

same_fields : (n at : ℕ) (fields : List Field) (x y : List ℕ) → placed n at fields ≡ true → length x ≤ at + width fields → length y ≤ at + width fields → Same x y fields
    → drop at x ≡ drop at y
same_fields n at [] x y p h k none = drop_of_length-le x {i = at} (omega arith) ∙ sym (drop_of_length-le y {i = at} (omega arith))
same_fields n at (r ∷ rs) x y p h k (e also s) =
    let a = both (eqb r.no n && eqb r.at at) (placed (n + 1) (at + r.len) rs) p in
    let here = eqb-true r.at at (both (eqb r.no n) (eqb r.at at) a.0).1 in
    let rest = same_fields (n + 1) (at + r.len) rs x y a.1 (omega arith) (omega arith) s in
    split x at r.len ∙ ap₂ (λ (f g : List ℕ). f ++ g) (rw here at e) rest ∙ sym (split y at r.len)

-- ---- a number and the zeros behind it

no_number : (s : List ℕ) (m : ℕ) → length s ≤ m → all is_zero (take m s) ≡ true → le s ≡ 0
no_number [] m h e = refl
no_number (b ∷ s) zero h e = absurd (omega arith)
no_number (b ∷ s) (suc m) h e =
    let z = both (is_zero b) (all is_zero (take m s)) e in
    omega (arith, eqb-true b 0 z.0, no_number s m (omega arith) z.1)

low_number : (s : List ℕ) (w m : ℕ) → length s ≤ w + m → all is_zero (part s w m) ≡ true → le (take w s) ≡ le s
low_number s zero m h e = sym (no_number s m (omega arith) e)
low_number [] (suc w) m h e = refl
low_number (b ∷ s) (suc w) m h e = rw (low_number s w m (omega arith) e)

-- w bytes of a number and m zeros are that number's w + m bytes
number_said : (b : List ℕ) → IsBytes b → (at w m : ℕ) → at + (w + m) ≤ length b → all is_zero (part b (at + w) m) ≡ true
    → le_bytes (w + m) (le (part b at w)) ≡ part b at (w + m)
number_said b q at w m h e =
    let s = part b at (w + m) in
    let n = length_part b at (w + m) h in
    let z : at + 0 ≡ at = omega arith in
    let low : take w s ≡ part b at w = rw z at (part_part b at (w + m) 0 w (omega arith)) in
    let high : part s w m ≡ part b (at + w) m = part_part b at (w + m) w m (omega arith) in
    let same : le (part b at w) ≡ le s = ap le (sym low) ∙ low_number s w m (omega arith) (ap (all is_zero) high ∙ e) in
    rw same (rw n at (le_read s (all_take (λ x. ltb x 256) (drop at b) (w + m) (all_drop (λ x. ltb x 256) b at q))))

byte_part : (b : List ℕ) (i : ℕ) → i < length b → get_or b i 0 ∷ [] ≡ part b i 1
byte_part b i h = sym (ap (take 1) (drop-cons b i 0 h))

-- ---- what goes by the type

each_type : (P : ℕ → Type 0) → P 65 → P 69 → P 88 → P 67 → P 85 → P 82 → (t : ℕ) → member t types ≡ true → P t
each_type P a e x c u r t m =
    is 65 a _ (is 69 e _ (is 88 x _ (is 67 c _ (is 85 u _ (is 82 r false (λ z. absurd (false≢true z))))))) m
  where
    is : (k : ℕ) → P k → (others : Bool) → (others ≡ true → P t) → (eqb t k || others) ≡ true → P t
    is k h others f = either (eqb t k) others (λ q. rw (eqb-true t k q) h) f

type_said : (tr : Trade) (t : ℕ) → member t types ≡ true → type_of (event_of t tr) ≡ t
type_said tr = each_type (λ t. type_of (event_of t tr) ≡ t) refl refl refl refl refl refl

-- a part of the trade that is that of none where the type has none
trade_said : (of : Trade → ℕ) (tr : Trade) (t : ℕ) → member t types ≡ true → (not (is_trade t) && not (eqb (of tr) (of no_trade))) ≡ false
    → of (trade_of (event_of t tr)) ≡ of tr
trade_said of tr = each_type Said none (λ e. refl) none (λ e. refl) none none
  where
    Said : ℕ → Type 0
    Said t = (not (is_trade t) && not (eqb (of tr) (of no_trade))) ≡ false → of (trade_of (event_of t tr)) ≡ of tr

    none : not (eqb (of tr) (of no_trade)) ≡ false → of no_trade ≡ of tr
    none e = sym (eqb-true (of tr) (of no_trade) (not-false (eqb (of tr) (of no_trade)) e))

-- ---- the bytes of a record that may be written

module _ (b : List ℕ) (bytes : IsBytes b) (free : unwritable b ≡ 0) where
  pub whole : length b ≡ 138
  whole = (writable b free).0

  pub lawful : LawfulRecord (record_in b)
  lawful = (none_unlawful (record_in b)).0 (writable b free).2

  meanings : Meant b
  meanings = meant b (writable b free).1

  abbrev trade : Trade
  trade = record { liquidity = get_or b 15 0; match_id = le (part b 120 8); cross_id = le (part b 129 8) }

  of_trade : (of : Trade → ℕ) → (not (is_trade (get_or b 8 0)) && not (eqb (of trade) (of no_trade))) ≡ false → of (trade_of (record_in b).event) ≡ of trade
  unfolding record_in
  of_trade of = trade_said of trade (get_or b 8 0) meanings.of_type

  type_byte : type_of (record_in b).event ≡ get_or b 8 0
  unfolding record_in
  type_byte = type_said trade (get_or b 8 0) meanings.of_type

  -- a number of w bytes, and m zeros behind it
  number : (at w m : ℕ) → at + (w + m) ≤ 138 → all is_zero (part b (at + w) m) ≡ true → le_bytes (w + m) (le (part b at w)) ≡ part b at (w + m)
  number at w m h = number_said b bytes at w m (omega (arith, whole))

  id : (at v : ℕ) → at + 9 ≤ 138 → odd_id b at ≡ false → ((not (is_trade (get_or b 8 0)) && not (eqb (le (part b at 8)) 0)) ≡ false → v ≡ le (part b at 8))
      → le_bytes 9 v ≡ part b at 9
  id at v h e f =
      let n = neither (not (eqb (get_or b (at + 8) 0) 0)) (not (is_trade (get_or b 8 0)) && not (eqb (le (part b at 8)) 0)) e in
      let last : all is_zero (get_or b (at + 8) 0 ∷ []) ≡ true = rw (not-false (eqb (get_or b (at + 8) 0) 0) n.0) in
      ap (le_bytes 9) (f n.1) ∙ number at 8 1 (omega arith) (ap (all is_zero) (sym (byte_part b (at + 8) (omega (arith, whole)))) ∙ last)

  byte : (i : ℕ) → i < 138 → get_or b i 0 ∷ [] ≡ part b i 1
  byte i h = byte_part b i (omega (arith, whole))

  pub image_said : image_of (record_in b) ≡ b
  unfolding record_in
  image_said =
      let r = record_in b in
      let field = verbatim_field r lawful in
      let cell = number_cell r lawful in
      let liquid = of_trade (λ t. t.liquidity) meanings.of_liquidity in
      same_fields 1 0 (layout_for r) (image_of r) b refl (omega (arith, image_length r lawful)) (omega (arith, whole))
      (cell 0 refl ∙ number 0 8 0 (omega arith) refl
      also field 2 refl refl refl ∙ ap (λ t. t ∷ []) type_byte ∙ byte 8 (omega arith)
      also field 3 refl refl refl
      also field 4 refl refl refl ∙ byte 13 (omega arith)
      also field 5 refl refl refl ∙ byte 14 (omega arith)
      also field 6 refl refl refl ∙ sym (liquidity_text r.event) ∙ ap (λ t. t ∷ []) liquid ∙ byte 15 (omega arith)
      also field 7 refl refl refl
      also field 8 refl refl refl
      also field 9 refl refl refl
      also field 10 refl refl refl
      also field 11 refl refl refl
      also field 12 refl refl refl
      also field 13 refl refl refl
      also field 14 refl refl refl ∙ byte 85 (omega arith)
      also cell 1 refl ∙ number 86 6 0 (omega arith) refl
      also field 16 refl refl refl
      also field 17 refl refl refl ∙ byte 98 (omega arith)
      also cell 2 refl ∙ number 99 2 0 (omega arith) refl
      also cell 3 refl ∙ number 101 2 0 (omega arith) refl
      also field 20 refl refl refl ∙ byte 103 (omega arith)
      also cell 4 refl ∙ number 104 6 0 (omega arith) refl
      also cell 5 refl ∙ number 110 8 2 (omega arith) meanings.of_price
      also cell 6 refl ∙ id 120 (trade_of r.event).match_id (omega arith) meanings.of_match (of_trade (λ t. t.match_id))
      also cell 7 refl ∙ id 129 (trade_of r.event).cross_id (omega arith) meanings.of_cross (of_trade (λ t. t.cross_id))
      also none)
