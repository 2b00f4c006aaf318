-- The law of one field, for every rule and width: what is read is lawful and writes to its own bytes; what is lawful is written so that it
-- reads back, in bytes that a line may have.
use Rattle.std.specs.Bool.{then_some}
use Rattle.std.proofs.lemmas.Option.{none-some}
use Rattle.std.specs.Option.{option_map}
use Prim.Native.Nat.{ℕ, zero, suc, ◌+◌, ◌-◌, ◌/◌, ◌%◌, ◌^◌, ◌≤◌, ◌<◌}
use native.Mathlib.Omega.{arith}
use mathlib.Core.Path.{◌≡◌, refl}
use mathlib.Core.Bool.{Bool, true, false, cond, not, ◌&&◌, false≢true}
use mathlib.Core.List.{List, [], ◌∷◌}
use borrow.Author.Tests.{eqb-true, eq-eqb, ltb-true, lt-ltb, leb-true}
use lib.Dec.{leb, ltb, eqb}
use lib.ListN.{length}
use Rattle.run.specs.Runs.{all, member}
use Rattle.field.specs.Byte.{is_of}
use Rattle.field.specs.Verbatim.{is_code, is_text, is_blank}
use Rattle.field.specs.Number.{spaced, digits_after, within, rest, filled}
use Rattle.field.specs.Number.{price as read_price}
use Rattle.field.specs.declared.Class.{Class}
use Rattle.field.specs.declared.Class.TheVariants.{Printable, Space, Digit, Hex}
use Rattle.std.specs.Prelude.{Option, Some, None}
use Rattle.run.proofs.Tests.{both, either}
use Rattle.run.proofs.All.{all_append, all_snoc, all_wider}
use Rattle.field.proofs.Fill.{between, is_between}
use Rattle.field.proofs.Laws.{within_value, length_filled, length_price, digits_read, digits_write, spaced_back, spaced_write, price_read, price_write}
use Rattle.message.specs.Rule.{Kind, text, text_or_blank, blank, digits_or_blank, hex, is_kind, Rule, number, digits, price, code, verbatim}
use Rattle.message.specs.Rule.{Value, num, run, reads, lawful, writes, fits}

-- ---- what a reader got

number_some : (n : Option ℕ) (v : Value) → option_map num n ≡ Some v → (u : ℕ) × (v ≡ num u) × (n ≡ Some u)
number_some (Some u) v e = (u, cc, refl)
number_some None v e = absurd (none-some _ e)

within_some : (least most : ℕ) (n : Option ℕ) (v : Value) → option_map num (within least most n) ≡ Some v
    → (u : ℕ) × (v ≡ num u) × (n ≡ Some u) × ((leb least u && leb u most) ≡ true)
within_some least most n v e =
    let g = number_some (within least most n) v e in
    let w = within_value least most n g.0 g.2 in
    (g.0, g.1, w.0, is_between least most g.0 w.1 w.2)

pub run_some : (t : Bool) (b : List ℕ) (v : Value) → then_some t (run b) ≡ Some v → (v ≡ run b) × (t ≡ true)
run_some true b v e = (cc, refl)
run_some false b v e = absurd (none-some _ e)

-- ---- reading, then writing

run_lawful : (t : Bool) (b : List ℕ) → t ≡ true → (eqb (length b) (length b) && t) ≡ true
run_lawful t b e = rw (eq-eqb (length b) (length b) refl, e)

pub reads_writes : (k : Rule) (b : List ℕ) (v : Value) → reads k b ≡ Some v → (lawful k (length b) v ≡ true) × (writes k (length b) v ≡ b)
reads_writes (number least most) b v e =
    let g = within_some least most (spaced b) v e in
    rw g.1 (g.3, (spaced_write b g.0 g.2).0)
reads_writes (digits least most) b v e =
    let g = within_some least most (digits_after 0 b) v e in
    rw g.1 (g.3, (digits_write b g.0 g.2).0)
reads_writes price b v e =
    let g = number_some (read_price b) v e in
    let w = price_write b g.0 g.2 in
    rw g.1 (lt-ltb g.0 (10 ^ length b) w.1, w.0)
reads_writes (code codes) b v e =
    let g = run_some (is_code codes b) b v e in
    rw g.0 (run_lawful (is_code codes b) b g.1, refl)
reads_writes (verbatim kind) b v e =
    let g = run_some (is_kind kind b) b v e in
    rw g.0 (run_lawful (is_kind kind b) b g.1, refl)

-- ---- writing, then reading

pub writes_reads : (k : Rule) (w : ℕ) (v : Value) → fits k w ≡ true → lawful k w v ≡ true
    → (reads k (writes k w v) ≡ Some v) × (length (writes k w v) ≡ w)
writes_reads (number least most) w (num v) f l =
    let b = between least most v l in
    let r = both (ltb 0 w) (ltb most (10 ^ w)) f in
    let some : 0 < w = ltb-true 0 w r.0 in
    let room : most < 10 ^ w = ltb-true most (10 ^ w) r.1 in
    (rw (spaced_back w v some (omega arith), l), length_filled 32 w v)
writes_reads (number least most) w (run b) f l = absurd (false≢true l)
writes_reads (digits least most) w (num v) f l =
    let b = between least most v l in
    let room : most < 10 ^ w = ltb-true most (10 ^ w) f in
    (rw (digits_read w v (omega arith), l), length_filled 48 w v)
writes_reads (digits least most) w (run b) f l = absurd (false≢true l)
writes_reads price w (num v) f l =
    let room : 5 ≤ w = leb-true 5 w f in
    (rw (price_read w v room (ltb-true v (10 ^ w) l)), length_price w v (omega arith))
writes_reads price w (run b) f l = absurd (false≢true l)
writes_reads (code codes) w (num v) f l = absurd (false≢true l)
writes_reads (code codes) w (run b) f l =
    let h = both (eqb (length b) w) (is_code codes b) l in
    (rw h.1, eqb-true (length b) w h.0)
writes_reads (verbatim kind) w (num v) f l = absurd (false≢true l)
writes_reads (verbatim kind) w (run b) f l =
    let h = both (eqb (length b) w) (is_kind kind b) l in
    (rw h.1, eqb-true (length b) w h.0)

-- ---- what is written is printable

range_printable : (a z : ℕ) → 32 ≤ a → z ≤ 126 → (b : ℕ) → (leb a b && leb b z) ≡ true → is_of Printable b ≡ true
range_printable a z h k b e = let d = between a z b e in is_between 32 126 b (omega arith) (omega arith)

class_printable : (c : Class) (b : ℕ) → is_of c b ≡ true → is_of Printable b ≡ true
class_printable Printable b e = e
class_printable Space b e = rw (eqb-true b 32 e)
class_printable Digit b e = range_printable 48 57 (omega arith) (omega arith) b e
class_printable Hex b e =
    either (leb 48 b && leb b 57) (leb 65 b && leb b 70)
    (range_printable 48 57 (omega arith) (omega arith) b) (range_printable 65 70 (omega arith) (omega arith) b) e

all_printable : (c : Class) (s : List ℕ) → all (is_of c) s ≡ true → all (is_of Printable) s ≡ true
all_printable c = all_wider (is_of c) (is_of Printable) (class_printable c)

text_printable : (b : List ℕ) → is_text b ≡ true → all (is_of Printable) b ≡ true
text_printable [] e = refl
text_printable (b ∷ s) e = (both (not (eqb b 32)) (all (is_of Printable) (b ∷ s)) e).1

kind_printable : (kind : Kind) (b : List ℕ) → is_kind kind b ≡ true → all (is_of Printable) b ≡ true
kind_printable text b e = text_printable b e
kind_printable text_or_blank b e = either (is_text b) (is_blank b) (text_printable b) (all_printable Space b) e
kind_printable blank b e = all_printable Space b e
kind_printable digits_or_blank b e = either (all (is_of Digit) b) (is_blank b) (all_printable Digit b) (all_printable Space b) e
kind_printable hex b e = all_printable Hex b e

member_printable : (codes : List ℕ) (b : ℕ) → all (is_of Printable) codes ≡ true → member b codes ≡ true → is_of Printable b ≡ true
member_printable [] b h e = absurd (false≢true e)
member_printable (c ∷ codes) b h e =
    let d = both (is_of Printable c) (all (is_of Printable) codes) h in
    either (eqb b c) (member b codes) (λ q. rw (eqb-true b c q) d.0) (member_printable codes b d.1) e

digit_printable : (fill v : ℕ) (t : Bool) → is_of Printable fill ≡ true → is_of Printable (cond t fill (48 + v % 10)) ≡ true
digit_printable fill v true h = h
digit_printable fill v false h = is_between 32 126 (48 + v % 10) (omega arith) (omega arith)

rest_printable : (fill w v : ℕ) → is_of Printable fill ≡ true → all (is_of Printable) (rest fill w v) ≡ true
rest_printable fill zero v h = refl
rest_printable fill (suc w) v h =
    all_snoc (is_of Printable) (rest fill w (v / 10)) (cond (eqb v 0) fill (48 + v % 10)) (rest_printable fill w (v / 10) h) (digit_printable fill v (eqb v 0) h)

filled_printable : (fill w v : ℕ) → is_of Printable fill ≡ true → all (is_of Printable) (filled fill w v) ≡ true
filled_printable fill zero v h = refl
filled_printable fill (suc w) v h =
    all_snoc (is_of Printable) (rest fill w (v / 10)) (48 + v % 10) (rest_printable fill w (v / 10) h) (digit_printable fill v false h)

code_printable : (codes b : List ℕ) → all (is_of Printable) codes ≡ true → is_code codes b ≡ true → all (is_of Printable) b ≡ true
code_printable codes [] h e = refl
code_printable codes (b ∷ []) h e = rw (member_printable codes b h e)
code_printable codes (b ∷ c ∷ s) h e = absurd (false≢true e)

pub writes_printable : (k : Rule) (w : ℕ) (v : Value) → fits k w ≡ true → lawful k w v ≡ true → all (is_of Printable) (writes k w v) ≡ true
writes_printable (number least most) w (num v) f l = filled_printable 32 w v refl
writes_printable (number least most) w (run b) f l = absurd (false≢true l)
writes_printable (digits least most) w (num v) f l = filled_printable 48 w v refl
writes_printable (digits least most) w (run b) f l = absurd (false≢true l)
writes_printable price w (num v) f l =
    all_append (is_of Printable) (filled 32 (w - 4) (v / 10000)) (filled 48 4 (v % 10000))
    (filled_printable 32 (w - 4) (v / 10000) refl) (filled_printable 48 4 (v % 10000) refl)
writes_printable price w (run b) f l = absurd (false≢true l)
writes_printable (code codes) w (num v) f l = absurd (false≢true l)
writes_printable (code codes) w (run b) f l =
    code_printable codes b (both (eqb w 1) (all (is_of Printable) codes) f).1 (both (eqb (length b) w) (is_code codes b) l).1
writes_printable (verbatim kind) w (num v) f l = absurd (false≢true l)
writes_printable (verbatim kind) w (run b) f l = kind_printable kind b (both (eqb (length b) w) (is_kind kind b) l).1
