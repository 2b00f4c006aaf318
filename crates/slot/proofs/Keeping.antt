-- The stores of booking leave the index of a table's keys: into the header, into an order that keeps its key, and behind the last order.
use Prim.Native.Nat.{ℕ, ◌+◌, ◌≤◌}
use native.Mathlib.Omega.{arith}
use mathlib.Core.Path.{◌≡◌, sym, ap, ◌∙◌}
use mathlib.Core.List.{List, [], ◌∷◌, ◌++◌, append_assoc}
use lib.ListN.{length, take, replicate, length-append}
use lib.Seq.{sets, take_at, take-add}
use Rattle.run.specs.Runs.{part}
use Rattle.cell.specs.Cells.{le_bytes}
use Rattle.run.proofs.Parts.{length_part}
use Rattle.order.specs.declared.Key.{Key}
use Rattle.order.specs.declared.Order.{Order}
use Rattle.section.proofs.Places.{key_in_record, length_record}
use Rattle.index.specs.Indexes.{Indexed}
use Rattle.index.proofs.Keeping.{index_front, index_same, index_past}
use Rattle.slot.specs.Slots.{slot_width, key_in, series_in, key_bytes, series_bytes, figures_bytes, slot_bytes}
use Rattle.slot.specs.Places.{slots, slot_keys, slot_at, slot, SlotInside}
use Rattle.slot.proofs.Keyed.{keys_of_slots}
use Rattle.slot.proofs.Runs.{length_key}

-- an order with the key and the root of one that stands in a slot: its bytes are a slot's, and the same key stands in front
module _ (b : List ℕ) (h : length b ≡ slot_width) (o : Order) (k : o.key ≡ key_in b) (r : o.series.root ≡ (series_in b).root) where
  source_long : length o.key.source ≡ 6
  source_long = ap (λ (x : Key). length x.source) k ∙ length_part b 0 6 (omega arith)

  token_long : length o.key.token ≡ 20
  token_long = ap (λ (x : Key). length x.token) k ∙ length_part b 6 20 (omega arith)

  slot_long : length (slot_bytes o) ≡ slot_width
  slot_long =
      let root_long : length o.series.root ≡ 6 = ap length r ∙ length_part b 27 6 (omega arith) in
      simp (length-append, source_long, token_long, root_long)

  key_in_front : part (slot_bytes o) 0 26 ≡ part b 0 26
  key_in_front =
      let k26 = length_key o.key source_long token_long in
      let rest = (o.side ∷ []) ++ series_bytes o.series ++ le_bytes 8 o.price ++ le_bytes 2 o.elder ++ figures_bytes o.figures ++ replicate 5 0 in
      let seam : slot_bytes o ≡ key_bytes o.key ++ rest = simp append_assoc in
      ap (take 26) seam ∙ take_at (key_bytes o.key) rest 26 k26 ∙ ap key_bytes k ∙ sym (take-add 6 20 b)

module _ {s : List ℕ} {n : ℕ} {heads nexts : List ℕ} (x : Indexed slot_keys s n heads nexts) where
  pub header_indexed : (b : List ℕ) (at : ℕ) → at + length b ≤ 8 → Indexed slot_keys (sets s at b) n heads nexts
  header_indexed b at h = index_front x b at h

  pub changed_indexed : (i : ℕ) (o : Order) → SlotInside i s → o.key ≡ key_in (slot s i) → o.series.root ≡ (series_in (slot s i)).root
      → Indexed slot_keys (sets s (slot_at i) (slot_bytes o)) n heads nexts
  changed_indexed i o h k r =
      let wide : length (slot s i) ≡ slot_width = length_record slots s i h in
      index_same keys_of_slots x i (slot_bytes o) (omega arith) h (slot_long (slot s i) wide o k r)
      (key_in_front (slot s i) wide o k r ∙ sym (key_in_record keys_of_slots s i))

  pub appended_indexed : (b : List ℕ) → Indexed slot_keys (sets s (slot_at n) b) n heads nexts
  appended_indexed b = index_past x b (slot_at n) (omega arith)
