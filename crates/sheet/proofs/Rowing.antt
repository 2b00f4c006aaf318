-- The rows that the walk writes are the rows of the sheet.
use Prim.Native.Nat.{ℕ, zero, suc}
use mathlib.Core.Path.{◌≡◌, refl, ap, ◌∙◌}
use mathlib.Core.List.{List, [], ◌∷◌, ◌++◌}
use lib.ListN.{drop}
use Rattle.order.specs.declared.Order.{Order}
use Rattle.day.specs.Listing.{Member, Row}
use Rattle.day.specs.Walk.{row_before, rows_for}
use Rattle.sheet.specs.Texts.{rows_text}
use Rattle.sheet.specs.Walk.{row_at, walk_text}

row_before_lem : (m : Member) (os : List Order) (i : ℕ) (rows : List Row)
    → row_at os i m.family m.rank ++ rows_text rows ≡ rows_text (row_before m (drop i os) rows)
row_before_lem m [] zero rows = refl
row_before_lem m [] (suc i) rows = refl
row_before_lem m (o ∷ os) zero rows = refl
row_before_lem m (o ∷ os) (suc i) rows = row_before_lem m os i rows

pub walk_rows : (os : List Order) (members : List Member) → walk_text os members ≡ rows_text (rows_for os members)
walk_rows os [] = refl
walk_rows os (m ∷ members) =
    ap (λ (rest : List ℕ). row_at os m.at m.family m.rank ++ rest) (walk_rows os members) ∙ row_before_lem m os m.at (rows_for os members)
