-- Stretch after stretch: what is written and the rows that are left are the whole text.
use Prim.Native.Nat.{ℕ, ◌+◌, ◌-◌, ◌≤◌}
use native.Mathlib.Omega.{arith}
use mathlib.Core.Path.{◌≡◌, refl, sym, ap, ◌∙◌}
use mathlib.Core.List.{List, [], ◌∷◌, ◌++◌, append_assoc, append-nil}
use Rattle.std.specs.Prelude.{Option, Some, None}
use lib.ListN.{length, drop, take, length-append}
use lib.Seq.{take-add, take-nil}
use Rattle.day.specs.Listing.{Member}
use Rattle.order.specs.declared.Order.{Order}
use Rattle.row.specs.Writes.{Wrote}
use Rattle.slot.specs.Places.{orders_in}
use Rattle.sheet.specs.Walk.{Stands, StandsOrEnds, Went, elders_in, members_from, row_at, stretch_text, text_left, walk_text}
use Rattle.sheet.specs.declared.Stretch.{Stretch}
use Rattle.sheet.specs.declared.Turn.{Turn}
use Rattle.sheet.proofs.Joining.{lent, back, keeps_length, room_behind, one_text}

members_joined : (os : List Order) (a b : List Member) → walk_text os (a ++ b) ≡ walk_text os a ++ walk_text os b
members_joined os [] b = refl
members_joined os (q ∷ a) b =
    let here = row_at os q.at q.family q.rank in
    ap (λ (l : List ℕ). here ++ l) (members_joined os a b) ∙ sym (append_assoc here (walk_text os a) (walk_text os b))

-- so many of some members, then the others
two_stretches : (n : ℕ) (s : List ℕ) (a most : ℕ) (members : List Member) → a ≤ most
    → stretch_text n s most members ≡ stretch_text n s a members ++ stretch_text n s (most - a) (drop a members)
two_stretches n s a most members h =
    let parts : most ≡ a + (most - a) = omega arith in
    ap (walk_text (orders_in 0 n s)) (ap (λ (k : ℕ). take k members) parts ∙ take-add a (most - a) members)
    ∙ members_joined (orders_in 0 n s) (take a members) (take (most - a) (drop a members))

pub none_behind_last : (n : ℕ) (s : List ℕ) (left : ℕ) {next : Option Turn} → next ≡ None → text_left n s left next ≡ []
none_behind_last n s left ends = rw (ends, take-nil)

-- of a text so much is written that what is left are so many rows from a turn on
pub record Going (s : List ℕ) (n : ℕ) (text before now : List ℕ) (wrote left : ℕ) (next : Option Turn) : Type 0 where
  pub done : List ℕ
  pub written : Wrote done before now wrote
  pub whole : text ≡ done ++ text_left n s left next
  pub stands : StandsOrEnds n next

pub going_first : {s : List ℕ} {n : ℕ} {before : List ℕ} {left : ℕ} {next : Option Turn} → StandsOrEnds n next
    → Going s n (text_left n s left next) before before 0 left next
going_first w = record { done = []; written = record { long = refl; out = refl }; whole = refl; stands = w }

module _ {s : List ℕ} {n : ℕ} {text before now : List ℕ} {wrote left : ℕ} {next : Option Turn} (g : Going s n text before now wrote left next) where
  pub going_stands : {x : Turn} → next ≡ Some x → Stands n x
  going_stands is = rw is at g.stands

  module _ (room : length text ≤ length before) where
    pub going_inside : wrote ≤ length now
    going_inside = omega (arith, g.written.long, keeps_length g.written, rw (g.whole, length-append) at room)

    module _ (some : ℕ) (l : some ≤ left) {x : Turn} (is : next ≡ Some x) where
      text_here : text_left n s left next
          ≡ stretch_text n s some (members_from (elders_in n s) x) ++ stretch_text n s (left - some) (drop some (members_from (elders_in n s) x))
      text_here = rw is (two_stretches n s some left (members_from (elders_in n s) x) l)

      pub going_room : length (stretch_text n s some (members_from (elders_in n s) x)) ≤ length (lent wrote now)
      going_room =
          let fits = room_behind (text_left n s left next) g.written (rw g.whole at room) in
          omega (arith, fits, rw length-append at (ap length text_here))

      pub going_on : {last : List ℕ} {r : Stretch} → Went n s (members_from (elders_in n s) x) some (lent wrote now) last r
          → Going s n text before (back wrote now last) (wrote + r.wrote) (left - some) r.next
      going_on {last} {r} y =
          let here = stretch_text n s some (members_from (elders_in n s) x) in
          record {
            done = g.done ++ here;
            written = one_text g.written y.text;
            whole =
                g.whole
                ∙ ap (λ (l : List ℕ). g.done ++ l) (text_here ∙ ap (λ (l : List Member). here ++ stretch_text n s (left - some) l) (sym y.left))
                ∙ sym (append_assoc g.done here (text_left n s (left - some) r.next));
            stands = y.stands;
          }

  ended : text_left n s left next ≡ [] → Wrote text before now wrote
  ended e =
      let q : text ≡ g.done = g.whole ∙ rw (e, append-nil) in
      rw q g.written

  pub no_member_left : next ≡ None → Wrote text before now wrote
  no_member_left ends = ended (none_behind_last n s left ends)

  pub none_wanted_more : left ≡ 0 → Wrote text before now wrote
  none_wanted_more h = ended (rw h)
