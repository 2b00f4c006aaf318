-- Fields one behind another, of any number: what they say of a message, and what lawful values write.
use Rattle.std.specs.Prelude.{Option, Some, None, is_some}
use Prim.Native.Nat.{ℕ, zero, suc, ◌+◌, ◌≤◌, ◌<◌}
use native.Mathlib.Nat.{add-zero, add_assoc}
use native.Mathlib.Omega.{arith}
use mathlib.Core.Path.{◌≡◌, refl, ap, ap₂, ◌∙◌}
use mathlib.Core.Bool.{Bool, true, false, cond, ◌&&◌, false≢true}
use mathlib.Core.List.{List, [], ◌∷◌, ◌++◌, append-nil, append_assoc}
use borrow.Author.Tests.{eqb-true, ne_eqb}
use lib.Dec.{eqb}
use lib.ListN.{length, get_or, drop, length-append, length-drop, take-append-drop}
use lib.Seq.{take_at, drop_at, drop-drop, append_snoc, length-take-le}
use Rattle.run.specs.Runs.{part, all}
use Rattle.field.specs.Byte.{is_of}
use Rattle.field.specs.declared.Class.TheVariants.{Printable}
use Rattle.message.specs.Fields.{Field, no_field, width, placed, fitting, breaks, say, on_got, read_fields, first_unlawful, write_fields}
use Rattle.message.specs.Rule.{Value, num, reads, lawful, writes, fits}
use Rattle.run.proofs.Tests.{both}
use Rattle.run.proofs.All.{all_append}
use Rattle.message.proofs.Rules.{reads_writes, writes_reads, writes_printable}

-- ---- fields that tile

-- the fields are placed one behind another, and what each rule allows has room
abbrev pub tiles : ℕ → ℕ → List Field → Bool
tiles n at [] = true
tiles n at (f ∷ fs) = eqb f.no n && eqb f.at at && fits f.rule f.len && tiles (n + 1) (at + f.len) fs

pub tiles_from : (n at : ℕ) (fields : List Field) → placed n at fields ≡ true → fitting fields ≡ true → tiles n at fields ≡ true
tiles_from n at [] p q = refl
tiles_from n at (f ∷ fs) p q =
    let a = both (eqb f.no n && eqb f.at at) (placed (n + 1) (at + f.len) fs) p in
    let b = both (fits f.rule f.len) (fitting fs) q in
    rw (a.0, b.0) (tiles_from (n + 1) (at + f.len) fs a.1 b.1)

pub record Tile (n at : ℕ) (f : Field) (fs : List Field) : Type 0 where
  pub numbered : f.no ≡ n
  pub placed : f.at ≡ at
  pub room : fits f.rule f.len ≡ true
  pub next : tiles (n + 1) (at + f.len) fs ≡ true

pub tile : (n at : ℕ) (f : Field) (fs : List Field) → tiles n at (f ∷ fs) ≡ true → Tile n at f fs
tile n at f fs e =
    let a = both (eqb f.no n && eqb f.at at && fits f.rule f.len) (tiles (n + 1) (at + f.len) fs) e in
    let b = both (eqb f.no n && eqb f.at at) (fits f.rule f.len) a.0 in
    let c = both (eqb f.no n) (eqb f.at at) b.0 in
    record { numbered = eqb-true f.no n c.0; placed = eqb-true f.at at c.1; room = b.1; next = a.1 }

-- no field that fails was met: the field passes, and so do those behind it
none_failed : (t : Bool) (rest n : ℕ) → 0 < n → cond t rest n ≡ 0 → (t ≡ true) × (rest ≡ 0)
none_failed true rest n p e = (refl, e)
none_failed false rest n p e = absurd (omega arith)

-- ---- reading

abbrev pub reads_at : List ℕ → Field → Option Value
reads_at s f = reads f.rule (part s f.at f.len)

abbrev pub value_of : Option Value → Value
value_of (Some v) = v
value_of None = num 0

-- what each field says of a piece
abbrev pub told : List Field → List ℕ → List Value
told [] s = []
told (f ∷ fs) s = value_of (reads_at s f) ∷ told fs s

-- what field i says stands at i
pub told_at : (fields : List Field) (s : List ℕ) (i : ℕ) → i < length fields → get_or (told fields s) i (num 0) ≡ value_of (reads_at s (get_or fields i no_field))
told_at [] s i h = absurd (omega arith)
told_at (f ∷ fs) s zero h = refl
told_at (f ∷ fs) s (suc i) h = told_at fs s i (omega arith)

-- the first field whose rule the piece breaks, or 0
abbrev pub first_broken : List Field → List ℕ → ℕ
first_broken [] s = 0
first_broken (f ∷ fs) s = cond (is_some (reads_at s f)) (first_broken fs s) f.no

-- reading stops at that field, and else says what each field says
pub read_fields_lem : (fields : List Field) (vs : List Value) (s : List ℕ) (n at : ℕ) → 0 < n → tiles n at fields ≡ true
    → read_fields fields vs s ≡ cond (eqb (first_broken fields s) 0) (say (vs ++ told fields s)) (breaks (first_broken fields s))
read_fields_lem [] vs s n at p t = rw append-nil
read_fields_lem (f ∷ fs) vs s n at p t = go (reads_at s f) (λ us. read_fields_lem fs us s (n + 1) (at + f.len) (omega arith) (tile n at f fs t).next)
  where
    rest : ℕ
    rest = first_broken fs s

    go : (g : Option Value) → ((us : List Value) → read_fields fs us s ≡ cond (eqb rest 0) (say (us ++ told fs s)) (breaks rest))
        → on_got g f.no (λ v. read_fields fs (vs ++ (v ∷ [])) s)
        ≡ cond (eqb (cond (is_some g) rest f.no) 0) (say (vs ++ value_of g ∷ told fs s)) (breaks (cond (is_some g) rest f.no))
    go (Some v) ih = ih (vs ++ (v ∷ [])) ∙ rw append_snoc
    go None ih = rw (ne_eqb f.no 0 (λ z. absurd (omega (arith, (tile n at f fs t).numbered))))

-- ---- lawful values

-- each field stands in its place, and its value is one that its rule allows
pub data LawfulFrom : ℕ → List Field → List Value → Type 0 where
  none : {at : ℕ} → LawfulFrom at [] []
  more : {at : ℕ} {f : Field} {fs : List Field} {v : Value} {vs : List Value}
      → f.at ≡ at → fits f.rule f.len ≡ true → lawful f.rule f.len v ≡ true → LawfulFrom (at + f.len) fs vs → LawfulFrom at (f ∷ fs) (v ∷ vs)

pub lawful_count : {at : ℕ} {fields : List Field} {vs : List Value} → LawfulFrom at fields vs → length vs ≡ length fields
lawful_count none = refl
lawful_count (more a q l h) = ap suc (lawful_count h)

pub lawful_first : {at : ℕ} {fields : List Field} {vs : List Value} → LawfulFrom at fields vs → first_unlawful fields vs ≡ 0
lawful_first none = refl
lawful_first (more a q l h) = rw l (lawful_first h)

pub first_lawful : (fields : List Field) (vs : List Value) (n at : ℕ) → 0 < n → tiles n at fields ≡ true
    → length vs ≡ length fields → first_unlawful fields vs ≡ 0 → LawfulFrom at fields vs
first_lawful [] [] n at p t l e = none
first_lawful [] (v ∷ vs) n at p t l e = absurd (omega arith)
first_lawful (f ∷ fs) [] n at p t l e = absurd (omega arith)
first_lawful (f ∷ fs) (v ∷ vs) n at p t l e =
    let c = tile n at f fs t in
    let h = none_failed (lawful f.rule f.len v) (first_unlawful fs vs) f.no (omega arith) e in
    more c.placed c.room h.0 (first_lawful fs vs (n + 1) (at + f.len) (omega arith) c.next (omega arith) h.1)

pub got_back : (g : Option Value) → is_some g ≡ true → g ≡ Some (value_of g)
got_back (Some v) e = refl
got_back None e = absurd (false≢true e)

-- the value that a field says is lawful there, and writes to the row's own bytes
field_lawful : (s : List ℕ) (f : Field) → f.at + f.len ≤ length s → is_some (reads_at s f) ≡ true
    → let v = value_of (reads_at s f) in (lawful f.rule f.len v ≡ true) × (writes f.rule f.len v ≡ part s f.at f.len)
field_lawful s f h e =
    let l : length (part s f.at f.len) ≡ f.len = length-take-le f.len (drop f.at s) (rw length-drop (omega arith)) in
    rw l at (reads_writes f.rule (part s f.at f.len) (value_of (reads_at s f)) (got_back (reads_at s f) e))

-- what the fields say of a piece that breaks none of their rules is lawful, and writes to its bytes
pub told_lawful : (fields : List Field) (s : List ℕ) (n at : ℕ) → 0 < n → tiles n at fields ≡ true
    → first_broken fields s ≡ 0 → at + width fields ≤ length s
    → LawfulFrom at fields (told fields s) × (write_fields fields (told fields s) ++ drop (at + width fields) s ≡ drop at s)
told_lawful [] s n at p t e h = (none, rw add-zero)
told_lawful (f ∷ fs) s n at p t e h =
    let c = tile n at f fs t in
    let k = none_failed (is_some (reads_at s f)) (first_broken fs s) f.no (omega arith) e in
    let l = field_lawful s f (omega arith) k.0 in
    let ih = told_lawful fs s (n + 1) (at + f.len) (omega arith) c.next k.1 (omega arith) in (
      more c.placed c.room l.0 ih.0,
      rw (l.1, c.placed, append_assoc, ← add_assoc, ih.1, ← drop-drop) (take-append-drop f.len (drop at s)),
    )

pub lawful_width : {at : ℕ} {fields : List Field} {vs : List Value} → LawfulFrom at fields vs → length (write_fields fields vs) ≡ width fields
lawful_width none = refl
lawful_width (more {f = f} {fs = fs} {v = v} {vs = vs} a q l h) =
    length-append (writes f.rule f.len v) (write_fields fs vs) ∙ ap₂ ◌+◌ (writes_reads f.rule f.len v q l).1 (lawful_width h)

pub lawful_printable : {at : ℕ} {fields : List Field} {vs : List Value} → LawfulFrom at fields vs → all (is_of Printable) (write_fields fields vs) ≡ true
lawful_printable none = refl
lawful_printable (more {f = f} {fs = fs} {v = v} {vs = vs} a q l h) =
    all_append (is_of Printable) (writes f.rule f.len v) (write_fields fs vs) (writes_printable f.rule f.len v q l) (lawful_printable h)

-- of a piece in which lawful values are written, the fields say those values
pub lawful_told : {at : ℕ} {fields : List Field} {vs : List Value} → LawfulFrom at fields vs → (s after : List ℕ) → drop at s ≡ write_fields fields vs ++ after
    → (first_broken fields s ≡ 0) × (told fields s ≡ vs)
lawful_told none s after e = (refl, refl)
lawful_told (more {at} {f = f} {fs = fs} {v = v} {vs = vs} a q l h) s after e =
    let w = writes_reads f.rule f.len v q l in
    let b = writes f.rule f.len v in
    let d : drop at s ≡ b ++ (write_fields fs vs ++ after) = e ∙ append_assoc b (write_fields fs vs) after in
    let g : reads_at s f ≡ Some v = rw (a, d, take_at b (write_fields fs vs ++ after) f.len w.1) w.0 in
    let ih = lawful_told h s after (rw (← drop-drop f.len at s, d) (drop_at b (write_fields fs vs ++ after) f.len w.1)) in
    rw g (ih.0, ap (λ (t : List Value). v ∷ t) ih.1)

-- and each value stands written in its field
pub lawful_stands : {at : ℕ} {fields : List Field} {vs : List Value} → LawfulFrom at fields vs → (s after : List ℕ) → drop at s ≡ write_fields fields vs ++ after
    → (i : ℕ) → i < length fields
    → let f = get_or fields i no_field in part s f.at f.len ≡ writes f.rule f.len (get_or vs i (num 0))
lawful_stands none s after e i h = absurd (omega arith)
lawful_stands (more {at} {f = f} {fs = fs} {v = v} {vs = vs} a q l h) s after e zero m =
    let b = writes f.rule f.len v in
    rw (a, e, append_assoc) (take_at b (write_fields fs vs ++ after) f.len (writes_reads f.rule f.len v q l).1)
lawful_stands (more {at} {f = f} {fs = fs} {v = v} {vs = vs} a q l h) s after e (suc i) m =
    let b = writes f.rule f.len v in
    let d : drop at s ≡ b ++ (write_fields fs vs ++ after) = e ∙ append_assoc b (write_fields fs vs) after in
    let next : drop (at + f.len) s ≡ write_fields fs vs ++ after =
    rw (← drop-drop f.len at s, d) (drop_at b (write_fields fs vs ++ after) f.len (writes_reads f.rule f.len v q l).1) in
    lawful_stands h s after next i (omega arith)
