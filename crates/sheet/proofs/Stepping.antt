-- A stretch of rows from a turn on: the row of its order, then a stretch, one row shorter, of those behind it.
use Prim.Native.Nat.{ℕ, zero, suc, ◌+◌, ◌-◌, ◌≤◌, ◌<◌}
use native.Mathlib.Omega.{arith}
use mathlib.Core.Path.{◌≡◌, refl, sym, ap, ◌∙◌}
use mathlib.Core.List.{List, [], ◌∷◌, ◌++◌}
use lib.ListN.{length, drop, take, length-append}
use Rattle.std.specs.Prelude.{Some, None}
use lib.Seq.{drop-nil, take-nil}
use Rattle.day.specs.Listing.{Member}
use Rattle.day.specs.Walk.{member}
use Rattle.row.specs.Texts.{order_text}
use Rattle.row.specs.Writes.{Wrote}
use Rattle.slot.specs.Slots.{order_in}
use Rattle.slot.specs.Places.{orders_in, slot}
use Rattle.sheet.specs.Walk.{Stands, Went, elders_in, members_behind, members_from, row_at, stretch_text, walk_text}
use Rattle.sheet.specs.declared.Stretch.{Stretch}
use Rattle.sheet.specs.declared.Turn.{Turn}
use Rattle.sheet.proofs.Joining.{lent, back, keeps_length, room_behind, one_text}

row_from : (j n i p f k : ℕ) (s : List ℕ) → i < n → p ≡ j + i → row_at (orders_in j n s) i f k ≡ order_text f k (order_in (slot s p))
row_from j zero i p f k s h e = absurd (omega arith)
row_from j (suc n) zero p f k s h e = let q : p ≡ j = omega arith in rw q
row_from j (suc n) (suc i) p f k s h e = row_from (j + 1) n i p f k s (omega arith) (omega arith)

-- the row of the order where the walk stands
abbrev pub row_here : List ℕ → Turn → List ℕ
row_here s x = order_text x.family x.rank (order_in (slot s x.place))

-- the text of so many of the rows behind it
abbrev pub text_behind : ℕ → List ℕ → ℕ → Turn → List ℕ
text_behind n s most x = stretch_text n s most (members_behind (elders_in n s) x)

one_taken : (most m : ℕ) (q : Member) (members : List Member) → most ≡ suc m → take most (q ∷ members) ≡ q ∷ take m members
one_taken most m q members e = rw e

one_dropped : (most m : ℕ) (q : Member) (members : List Member) → most ≡ suc m → drop most (q ∷ members) ≡ drop m members
one_dropped most m q members e = rw e

pub row_first : (n : ℕ) (s : List ℕ) (x : Turn) (most : ℕ) → Stands n x → 0 < most
    → stretch_text n s most (members_from (elders_in n s) x) ≡ row_here s x ++ text_behind n s (most - 1) x
row_first n s x most w some =
    ap (walk_text (orders_in 0 n s)) (one_taken most (most - 1) (member x.family x.rank x.place) (members_behind (elders_in n s) x) (omega arith))
    ∙ ap (λ (l : List ℕ). l ++ text_behind n s (most - 1) x)
    (row_from 0 n x.place x.place x.family x.rank s w.inside (omega arith))

-- ---- no row

pub none_wanted : (n : ℕ) (s : List ℕ) (x : Turn) (most : ℕ) (before : List ℕ) → Stands n x → most ≡ 0
    → Went n s (members_from (elders_in n s) x) most before before (record { wrote = 0; next = Some x })
none_wanted n s x most before w e = rw e (record { text = record { long = refl; out = refl }; left = refl; stands = w })

pub none_left : (n : ℕ) (s : List ℕ) (most : ℕ) (before : List ℕ) (members : List Member) → [] ≡ members
    → Went n s members most before before (record { wrote = 0; next = None })
none_left n s most before members e =
    let none : stretch_text n s most [] ≡ [] = rw take-nil in
    rw (← e) (record { text = rw none (record { long = refl; out = refl }); left = rw drop-nil; stands = tt })

-- ---- a row is written, and a stretch of those behind it into what is lent on

module _ (n : ℕ) (s : List ℕ) (x : Turn) (most : ℕ) (before : List ℕ) (w : Stands n x) (some : 0 < most)
    (room : length (stretch_text n s most (members_from (elders_in n s) x)) ≤ length before) where
  pub row_room : length (row_here s x) ≤ length before
  row_room = omega (arith, rw (row_first n s x most w some, length-append) at room)

  pub row_inside : {mid : List ℕ} {long : ℕ} → Wrote (row_here s x) before mid long → long ≤ length mid
  row_inside put = omega (arith, row_room, put.long, keeps_length put)

  module _ {mid : List ℕ} {long : ℕ} (put : Wrote (row_here s x) before mid long) (members : List Member)
      (same : members ≡ members_behind (elders_in n s) x) where
    pub text_room : length (stretch_text n s (most - 1) members) ≤ length (lent long mid)
    text_room = rw same (room_behind (text_behind n s (most - 1) x) put (rw (row_first n s x most w some) at room))

    pub went_on : {last : List ℕ} {r : Stretch} → Went n s members (most - 1) (lent long mid) last r
        → Went n s (members_from (elders_in n s) x) most before (back long mid last) (record { wrote = long + r.wrote; next = r.next })
    went_on {last} {r} y =
        record {
          text = rw (row_first n s x most w some) (one_text put (rw same at y.text));
          left =
              y.left ∙ ap (drop (most - 1)) same
              ∙ sym (one_dropped most (most - 1) (member x.family x.rank x.place) (members_behind (elders_in n s) x) (omega arith));
          stands = y.stands;
        }
