-- The numbers of a record as a list of cells, each put little end first in its place: what is put stands there, and what stands elsewhere stays.
use Prim.Native.Nat.{ℕ, zero, suc, ◌+◌, ◌≤◌, ◌<◌}
use native.Mathlib.Omega.{arith}
use mathlib.Core.Path.{◌≡◌, refl, ap, ◌∙◌}
use mathlib.Core.Bool.{Bool, true, false, ◌&&◌, ◌||◌, false≢true}
use mathlib.Core.List.{List, [], ◌∷◌, ◌++◌}
use borrow.Author.Tests.{leb-true}
use lib.Dec.{leb}
use lib.ListN.{length, get_or, drop, set, length-set}
use lib.Seq.{sets, length-sets}
use Rattle.run.specs.Runs.{part}
use Rattle.cell.specs.Cells.{le_bytes}
use Rattle.run.proofs.Stores.{sets_start}
use Rattle.run.proofs.Tests.{both, either}
use Rattle.run.proofs.Parts.{part_before, part_after, part_whole}
use Rattle.cell.proofs.Laws.{length_le}
use Rattle.layout.specs.Records.{trade_of}
use Rattle.layout.specs.declared.Record.{Record}
use Rattle.image.specs.Images.{numbers_set}

pub record Cell : Type 0 where
  pub at : ℕ
  pub len : ℕ
  pub number : ℕ

abbrev cell : ℕ → ℕ → ℕ → Cell
cell at len number = record { at = at; len = len; number = number }

abbrev pub cells : Record → List Cell
cells r =
    cell 0 8 r.timestamp
    ∷ cell 86 6 r.contracts
    ∷ cell 99 2 r.date
    ∷ cell 101 2 r.year
    ∷ cell 104 6 r.strike
    ∷ cell 110 10 r.price
    ∷ cell 120 9 (trade_of r.event).match_id
    ∷ cell 129 9 (trade_of r.event).cross_id
    ∷ []

abbrev put : Cell → List ℕ → List ℕ
put c b = sets b c.at (le_bytes c.len c.number)

abbrev pub put_all : List Cell → List ℕ → List ℕ
put_all [] b = b
put_all (c ∷ cs) b = put_all cs (put c b)

pub numbers_are_cells : (r : Record) (b : List ℕ) → numbers_set r b ≡ put_all (cells r) b
unfolding numbers_set
numbers_are_cells r b = refl

-- ---- within a length

abbrev pub fitting : ℕ → List Cell → Bool
fitting n [] = true
fitting n (c ∷ cs) = leb (c.at + c.len) n && fitting n cs

length_put : (c : Cell) (b : List ℕ) → length (put c b) ≡ length b
length_put c b = length-sets b c.at (le_bytes c.len c.number)

pub length_cells : (cs : List Cell) (b : List ℕ) → length (put_all cs b) ≡ length b
length_cells [] b = refl
length_cells (c ∷ cs) b = length_cells cs (put c b) ∙ length_put c b

-- what is stored into the front of a longer run is stored into the run
set_front : (xs rest : List ℕ) (at x : ℕ) → at < length xs → set (xs ++ rest) at x ≡ set xs at x ++ rest
set_front [] rest at x h = absurd (omega arith)
set_front (y ∷ xs) rest zero x h = refl
set_front (y ∷ xs) rest (suc at) x h = ap (λ (l : List ℕ). y ∷ l) (set_front xs rest at x (omega arith))

sets_front : (ys xs rest : List ℕ) (at : ℕ) → at + length ys ≤ length xs → sets (xs ++ rest) at ys ≡ sets xs at ys ++ rest
sets_front [] xs rest at h = refl
sets_front (y ∷ ys) xs rest at h =
    rw (set_front xs rest at y (omega arith)) (sets_front ys (set xs at y) rest (suc at) (omega (arith, length-set xs at y)))

cells_front : (cs : List Cell) (xs rest : List ℕ) → fitting (length xs) cs ≡ true → put_all cs (xs ++ rest) ≡ put_all cs xs ++ rest
cells_front [] xs rest e = refl
cells_front (c ∷ cs) xs rest e =
    let h = both (leb (c.at + c.len) (length xs)) (fitting (length xs) cs) e in
    let k = leb-true (c.at + c.len) (length xs) h.0 in
    let bytes = le_bytes c.len c.number in
    rw (sets_front bytes xs rest c.at (omega (arith, length_le c.len c.number)))
    (cells_front cs (put c xs) rest (rw (length_put c xs) h.1))

pub cells_inside : (cs : List Cell) (b xs : List ℕ) → length xs ≤ length b → fitting (length xs) cs ≡ true
    → put_all cs (sets b 0 xs) ≡ sets b 0 (put_all cs xs)
cells_inside cs b xs h e =
    let n = length_cells cs xs in
    rw (sets_start b xs h, sets_start b (put_all cs xs) (rw n h), n) (cells_front cs xs (drop (length xs) b) e)

-- ---- a part apart from all cells, and a cell

abbrev pub apart : ℕ → ℕ → List Cell → Bool
apart i w [] = true
apart i w (c ∷ cs) = (leb (i + w) c.at || leb (c.at + c.len) i) && apart i w cs

part_put : (c : Cell) (b : List ℕ) (i w : ℕ) → (leb (i + w) c.at || leb (c.at + c.len) i) ≡ true → part (put c b) i w ≡ part b i w
part_put c b i w e =
    let bytes = le_bytes c.len c.number in
    either (leb (i + w) c.at) (leb (c.at + c.len) i)
    (λ h. part_before b bytes c.at i w (leb-true (i + w) c.at h))
    (λ h. part_after b bytes c.at i w (rw (length_le c.len c.number) (leb-true (c.at + c.len) i h)))
    e

pub part_apart : (cs : List Cell) (b : List ℕ) (i w : ℕ) → apart i w cs ≡ true → part (put_all cs b) i w ≡ part b i w
part_apart [] b i w e = refl
part_apart (c ∷ cs) b i w e =
    let h = both (leb (i + w) c.at || leb (c.at + c.len) i) (apart i w cs) e in
    part_apart cs (put c b) i w h.1 ∙ part_put c b i w h.0

-- the cell at place k is fitting, and apart from those put after it
abbrev pub clear : ℕ → List Cell → ℕ → Bool
clear n [] k = false
clear n (c ∷ cs) zero = leb (c.at + c.len) n && apart c.at c.len cs
clear n (c ∷ cs) (suc k) = clear n cs k

abbrev pub cell_at : List Cell → ℕ → Cell
cell_at cs k = get_or cs k (cell 0 0 0)

pub part_cell : (cs : List Cell) (b : List ℕ) (k : ℕ) → clear (length b) cs k ≡ true
    → part (put_all cs b) (cell_at cs k).at (cell_at cs k).len ≡ le_bytes (cell_at cs k).len (cell_at cs k).number
part_cell [] b k e = absurd (false≢true e)
part_cell (c ∷ cs) b zero e =
    let h = both (leb (c.at + c.len) (length b)) (apart c.at c.len cs) e in
    let k = leb-true (c.at + c.len) (length b) h.0 in
    let n = length_le c.len c.number in
    part_apart cs (put c b) c.at c.len h.1 ∙ part_whole b (le_bytes c.len c.number) c.at c.len (omega arith) n
part_cell (c ∷ cs) b (suc k) e = part_cell cs (put c b) k (rw (length_put c b) e)
