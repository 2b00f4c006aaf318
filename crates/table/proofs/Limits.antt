-- What the length of a table says of its limit and of the places of its slots. Nothing above speaks of the limits by number.
use Prim.Native.Nat.{ℕ, ◌+◌, ◌≤◌, ◌<◌}
use native.Mathlib.Omega.{arith}
use mathlib.Core.Path.{◌≡◌, refl}
use mathlib.Core.Bool.{Bool, true, false, cond}
use mathlib.Core.List.{List, [], ◌∷◌}
use borrow.Author.Tests.{eqb-true, eq-eqb, ne_eqb, ltb-true, ltb-false, leb-true}
use lib.Dec.{ltb, leb, eqb}
use Rattle.run.specs.Runs.{all}
use Rattle.slot.specs.Slots.{slot_width}
use Rattle.slot.specs.Places.{slot_at}
use Rattle.quote.specs.Quotes.{most_rows}
use Rattle.quote.proofs.Named.{row_number}
use Rattle.quote_slot.specs.QuoteSlots.{row_at}
use Rattle.table.specs.Tables.{table_length, least_limit, limits, limit_among, limit_of}
use Rattle.run.proofs.Tests.{both}

-- ---- over any limits

-- the most of them
abbrev most_of : List ℕ → ℕ
most_of [] = 0
most_of (limit ∷ others) = cond (ltb limit (most_of others)) (most_of others) limit

among_most : (ls : List ℕ) (len : ℕ) → limit_among ls len ≤ most_of ls
among_most [] len = omega arith
among_most (l ∷ ls) len = go (eqb len (table_length l)) (ltb l (most_of ls)) refl (among_most ls len)
  where
    go : (t u : Bool) → ltb l (most_of ls) ≡ u → limit_among ls len ≤ most_of ls → cond t l (limit_among ls len) ≤ cond u (most_of ls) l
    go true true q h = omega (arith, ltb-true l (most_of ls) q)
    go true false q h = omega arith
    go false true q h = h
    go false false q h = omega (arith, ltb-false l (most_of ls) q)

among_length : (ls : List ℕ) (len : ℕ) → 0 < limit_among ls len → len ≡ table_length (limit_among ls len)
among_length [] len h = absurd (omega arith)
among_length (l ∷ ls) len h = go (eqb len (table_length l)) refl (among_length ls len) h
  where
    go : (t : Bool) → eqb len (table_length l) ≡ t → (0 < limit_among ls len → len ≡ table_length (limit_among ls len))
        → 0 < cond t l (limit_among ls len) → len ≡ table_length (cond t l (limit_among ls len))
    go true q rest h = eqb-true len (table_length l) q
    go false q rest h = rest h

among_least : (least : ℕ) (ls : List ℕ) (len : ℕ) → all (leb least) ls ≡ true → 0 < limit_among ls len → least ≤ limit_among ls len
among_least least [] len a h = absurd (omega arith)
among_least least (l ∷ ls) len a h =
    let b = both (leb least l) (all (leb least) ls) a in
    go (eqb len (table_length l)) (leb-true least l b.0) (among_least least ls len b.1) h
  where
    go : (t : Bool) → least ≤ l → (0 < limit_among ls len → least ≤ limit_among ls len) → 0 < cond t l (limit_among ls len)
        → least ≤ cond t l (limit_among ls len)
    go true first rest h = first
    go false first rest h = rest h

-- ---- over the limits that tables have

abbrev pub most_limit : ℕ
most_limit = most_of limits

pub limit_most : (len : ℕ) → limit_of len ≤ most_limit
unfolding limit_of
limit_most len = among_most limits len

-- an elder's number has two bytes
pub limit_small : (len : ℕ) → limit_of len < 65536
limit_small len = omega (arith, limit_most len)

pub limit_length : (len : ℕ) → 0 < limit_of len → len ≡ table_length (limit_of len)
unfolding limit_of
limit_length len h = among_length limits len h

pub limit_least : (len : ℕ) → 0 < limit_of len → table_length least_limit ≤ len
unfolding limit_of
limit_least len h = omega (arith, among_length limits len h, among_least least_limit limits len refl h)

-- the bytes of the table that code makes
pub least_length : table_length least_limit ≡ 47240
least_length = omega (arith, row_number)

-- the code's test
pub limit_is : (len : ℕ) → len ≡ table_length least_limit → least_limit ≡ limit_of len
unfolding limit_of
limit_is len e = rw (eq-eqb len (table_length least_limit) e)

pub limit_none : (len : ℕ) → (len ≡ table_length least_limit → ⊥) → 0 ≡ limit_of len
unfolding limit_of
limit_none len e = rw (ne_eqb len (table_length least_limit) e)

-- ---- places

pub slot_inside : (len i : ℕ) → i < limit_of len → slot_at i + slot_width ≤ len
slot_inside len i h = omega (arith, limit_length len (omega arith))

pub rows_inside : (len n : ℕ) → 0 < limit_of len → n ≤ most_rows → row_at (slot_at (limit_of len)) n ≤ len
rows_inside len n p h = omega (arith, limit_length len p)

pub slots_inside : (len n : ℕ) → 0 < limit_of len → n ≤ limit_of len → slot_at n ≤ len
slots_inside len n p h = omega (arith, limit_length len p)
