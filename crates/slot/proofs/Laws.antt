-- The slots are the records of a section: what a store does to the slots, the header and the list of orders.
use Prim.Native.Nat.{ℕ, ◌+◌, ◌≤◌, ◌<◌}
use native.Mathlib.Omega.{arith}
use mathlib.Core.Path.{◌≡◌, sym, ap, ◌∙◌}
use mathlib.Core.List.{List, [], ◌∷◌, ◌++◌}
use lib.ListN.{length, get_or, set}
use lib.Seq.{sets, get_or-take}
use Rattle.run.specs.Runs.{part}
use Rattle.order.specs.declared.Order.{Order}
use Rattle.section.specs.Sections.{Holds}
use Rattle.run.proofs.Parts.{take_sets, part_before}
use Rattle.section.proofs.Stores as stores
use Rattle.section.proofs.Lists as lists
use Rattle.slot.specs.Slots.{slot_width, order_in, slot_bytes, Fits}
use Rattle.slot.specs.Places.{slots, slot_at, slot, SlotInside, orders_in}
use Rattle.slot.proofs.Said.{length_slot, slot_says}

pub slots_held : (s : List ℕ) (n : ℕ) → slot_at n ≤ length s → Holds slots s n
slots_held s n h = record { apart = omega arith; inside = λ i l. omega arith }

-- ---- slots and header

pub stored_here : (s : List ℕ) (i : ℕ) (b : List ℕ) → length b ≡ slot_width → SlotInside i s → slot (sets s (slot_at i) b) i ≡ b
stored_here s i b e h = stores.stored_here slots s b i e h

pub stored_elsewhere : (s : List ℕ) (i j : ℕ) (b : List ℕ) → length b ≡ slot_width → (i ≡ j → ⊥) → slot (sets s (slot_at i) b) j ≡ slot s j
stored_elsewhere s i j b e d = stores.stored_elsewhere slots s b i j e (omega arith) d

-- a store into the header leaves every slot
pub slot_kept : (s b : List ℕ) (at i : ℕ) → at + length b ≤ 8 → slot (sets s at b) i ≡ slot s i
slot_kept s b at i h = stores.kept_front slots s b at h i

-- a store into a slot leaves the header
pub header_kept : (s b : List ℕ) (i at w : ℕ) → at + w ≤ 8 → part (sets s (slot_at i) b) at w ≡ part s at w
header_kept s b i at w h = part_before s b (slot_at i) at w (omega arith)

pub header_byte : (s b : List ℕ) (i at : ℕ) → at < 8 → get_or (sets s (slot_at i) b) at 0 ≡ get_or s at 0
header_byte s b i at h =
    sym (get_or-take 8 (sets s (slot_at i) b) at 0 h) ∙ ap (λ l. get_or l at 0) (take_sets s b (slot_at i) 8 (omega arith)) ∙ get_or-take 8 s at 0 h

-- ---- the list of orders

pub length_orders : (i n : ℕ) (s : List ℕ) → length (orders_in i n s) ≡ n
length_orders i n s = lists.length_records order_in slots s i n

pub order_no : (i n : ℕ) (s : List ℕ) (k : ℕ) (none : Order) → k < n → get_or (orders_in i n s) k none ≡ order_in (slot s (i + k))
order_no i n s k none h = lists.record_no order_in slots s i n k none h

-- a store into the header leaves every order
pub orders_kept : (s b : List ℕ) (at n : ℕ) → at + length b ≤ 8 → orders_in 0 n (sets s at b) ≡ orders_in 0 n s
orders_kept s b at n h = lists.records_same order_in slots (sets s at b) s 0 n (λ k a c. slot_kept s b at k h)

pub orders_set : (s : List ℕ) (n i : ℕ) (o : Order) → Fits o → i < n → slot_at n ≤ length s
    → orders_in 0 n (sets s (slot_at i) (slot_bytes o)) ≡ set (orders_in 0 n s) i o
orders_set s n i o f h room =
    lists.records_set order_in slots s (slot_bytes o) (length_slot f) n i h (slots_held s n room) ∙ ap (set (orders_in 0 n s) i) (slot_says o f)

pub orders_append : (s : List ℕ) (n : ℕ) (o : Order) → Fits o → SlotInside n s
    → orders_in 0 (n + 1) (sets s (slot_at n) (slot_bytes o)) ≡ orders_in 0 n s ++ (o ∷ [])
orders_append s n o f h =
    lists.records_append order_in slots s (slot_bytes o) (length_slot f) n (slots_held s (n + 1) (omega arith))
    ∙ ap (λ x. orders_in 0 n s ++ (x ∷ [])) (slot_says o f)
