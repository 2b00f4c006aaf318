-- The listing as it is walked: where the walk stands, and the members that are left from there.
use Rattle.std.specs.Prelude.{ℕ, zero, suc, ◌+◌, ◌≤◌, ◌<◌, ◌≡◌, cond, List, [], ◌∷◌, ◌++◌, Option, Some, None, ltb, eqb, drop, take}
use Rattle.order.specs.declared.Order.{Order}
use Rattle.day.specs.Damage.{elders_of}
use Rattle.day.specs.Listing.{Member}
use Rattle.day.specs.Walk.{member, below, families}
use Rattle.row.specs.Texts.{order_text}
use Rattle.row.specs.Writes.{Wrote}
use Rattle.slot.specs.Places.{orders_in}
use Rattle.sheet.specs.declared.Stretch.{Stretch}
use Rattle.sheet.specs.declared.Turn.{Turn}

-- the row of the order at a place, as text
abbrev pub row_at : List Order → ℕ → ℕ → ℕ → List ℕ
row_at [] i family rank = []
row_at (o ∷ os) zero family rank = order_text family rank o
row_at (o ∷ os) (suc i) family rank = row_at os i family rank

-- the rows of members, one after another
abbrev pub walk_text : List Order → List Member → List ℕ
walk_text os [] = []
walk_text os (q ∷ members) = row_at os q.at q.family q.rank ++ walk_text os members

-- the elders of the first n orders
abbrev pub elders_in : ℕ → List ℕ → List ℕ
elders_in n s = elders_of (orders_in 0 n s)

-- the first place from j on whose order has the elder e, or the place behind the last
abbrev pub seek : ℕ → ℕ → List ℕ → ℕ
seek e j [] = j
seek e j (x ∷ es) = cond (eqb x e) j (seek e (j + 1) es)

-- what is found before place n
abbrev pub found_before : ℕ → ℕ → Option ℕ
found_before n i = cond (ltb i n) (Some i) None

-- families from place i on, the first of them numbered f
abbrev pub families_from : List ℕ → ℕ → ℕ → List Member
families_from es i f = families f i (drop i es)

-- below the member where the walk stands, and the families behind
abbrev pub members_behind : List ℕ → Turn → List Member
members_behind es x =
    below x.family x.rank x.place (x.place + 1) (drop (x.place + 1) es) ++ families_from es (x.root + 1) (x.family + 1)

-- from the member where the walk stands on
abbrev pub members_from : List ℕ → Turn → List Member
members_from es x = member x.family x.rank x.place ∷ members_behind es x

-- and none where it has ended
abbrev pub members_left : List ℕ → Option Turn → List Member
members_left es None = []
members_left es (Some x) = members_from es x

-- as text, of the first n orders: so many of these members, or all where they are fewer
abbrev pub stretch_text : ℕ → List ℕ → ℕ → List Member → List ℕ
stretch_text n s most members = walk_text (orders_in 0 n s) (take most members)

-- so many of those that are left
abbrev pub text_left : ℕ → List ℕ → ℕ → Option Turn → List ℕ
text_left n s most x = stretch_text n s most (members_left (elders_in n s) x)

-- a turn among n orders
pub record Stands (n : ℕ) (x : Turn) : Type 0 where
  pub inside : x.place < n
  pub below_root : x.root ≤ x.place
  pub numbered : x.family ≤ x.root + 1
  pub ranked : x.rank ≤ x.place + 1

-- or behind the last of them
abbrev pub StandsOrEnds : ℕ → Option Turn → Type 0
StandsOrEnds n None = Unit {0}
StandsOrEnds n (Some x) = Stands n x

-- so many of these members were written, and the walk stands where the others begin
pub record Went (n : ℕ) (s : List ℕ) (members : List Member) (most : ℕ) (before after : List ℕ) (r : Stretch) : Type 0 where
  pub text : Wrote (stretch_text n s most members) before after r.wrote
  pub left : members_left (elders_in n s) r.next ≡ drop most members
  pub stands : StandsOrEnds n r.next
