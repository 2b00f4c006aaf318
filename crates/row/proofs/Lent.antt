-- A row of the order in a slot, from the parts of the table that are lent for it.
use Prim.Native.Nat.{ℕ, ◌+◌, ◌-◌, ◌≤◌}
use native.Mathlib.Nat.{add-zero}
use native.Mathlib.Omega.{arith}
use mathlib.Core.Path.{◌≡◌, sym, ap, ap₂, ◌∙◌}
use mathlib.Core.List.{List}
use lib.ListN.{length, take, drop, length-take}
use Rattle.order.specs.declared.Figures.{Figures}
use Rattle.slot.specs.Slots.{slot_width, figures_in, order_in}
use Rattle.slot.specs.Places.{slot, slot_at, SlotInside}
use Rattle.row.specs.Texts.{decimal, trimmed, figures_text, names_text, rank_text, order_text}
use Rattle.row.specs.Writes.{Put, Wrote}
use Rattle.run.proofs.Parts.{length_part, part_part}
use Rattle.row.proofs.Decimals.{decimal_most}
use Rattle.row.proofs.Puts.{then, from_front, rank_length, traded_length, figures_length, names_length, row_length}
use Rattle.row.proofs.Trimming.{trimmed_most}

-- the 80 bytes of a slot, the 6 of its Source and the 20 of its Token
abbrev pub lent_slot : List ℕ → ℕ → List ℕ
lent_slot t i = take (slot_at i + slot_width - slot_at i) (drop (slot_at i) t)

abbrev pub lent_source : List ℕ → ℕ → List ℕ
lent_source t i = take (slot_at i + 6 - slot_at i) (drop (slot_at i) t)

abbrev pub lent_token : List ℕ → ℕ → List ℕ
lent_token t i = take (slot_at i + 26 - (slot_at i + 6)) (drop (slot_at i + 6) t)

slot_lent : (t : List ℕ) (i : ℕ) → lent_slot t i ≡ slot t i
slot_lent t i = let wide : slot_at i + slot_width - slot_at i ≡ slot_width = omega arith in rw wide

source_lent : (t : List ℕ) (i : ℕ) → lent_source t i ≡ (order_in (slot t i)).key.source
source_lent t i =
    let wide : slot_at i + 6 - slot_at i ≡ 6 = omega arith in
    rw wide (sym (rw (add-zero (slot_at i)) at (part_part t (slot_at i) slot_width 0 6 (omega arith))))

token_lent : (t : List ℕ) (i : ℕ) → lent_token t i ≡ (order_in (slot t i)).key.token
token_lent t i =
    let wide : slot_at i + 26 - (slot_at i + 6) ≡ 20 = omega arith in
    rw wide (sym (part_part t (slot_at i) slot_width 6 20 (omega arith)))

pub token_most : (t : List ℕ) (i : ℕ) → length (trimmed (lent_token t i)) ≤ 20
token_most t i = omega (arith, trimmed_most (lent_token t i), length-take (slot_at i + 26 - (slot_at i + 6)) (drop (slot_at i + 6) t))

pub figures_most : (f : Figures) → length (figures_text f) ≤ 126
figures_most f =
    omega
    (arith, traded_length f, figures_length f, decimal_most f.size, decimal_most f.executed, decimal_most f.broken, decimal_most f.cancelled, decimal_most f.passed, decimal_most f.«open»)

module _ (t : List ℕ) (i family rank : ℕ) (f : Figures) (e : f ≡ figures_in (lent_slot t i)) where
  names_lent : names_text (lent_source t i) (lent_token t i) ≡ names_text (order_in (slot t i)).key.source (order_in (slot t i)).key.token
  names_lent = ap₂ names_text (source_lent t i) (token_lent t i)

  figures_lent : figures_text f ≡ figures_text (order_in (slot t i)).figures
  figures_lent = ap figures_text (e ∙ ap figures_in (slot_lent t i))

  lent_length : length (order_text family rank (order_in (slot t i)))
      ≡ length (rank_text family rank) + length (figures_text f) + length (names_text (lent_source t i) (lent_token t i))
  lent_length = omega (arith, row_length family rank (order_in (slot t i)), ap length figures_lent, ap length names_lent)

  -- ---- room

  pub figures_room : (m n : ℕ) → m ≡ 0 + length (rank_text family rank) → length (order_text family rank (order_in (slot t i))) ≤ n
      → m + length (figures_text f) ≤ n
  figures_room m n h k = omega (arith, lent_length)

  pub names_room : (m k n : ℕ) → m ≡ 0 + length (rank_text family rank) → k ≡ m + length (figures_text f)
      → length (order_text family rank (order_in (slot t i))) ≤ n → k + length (names_text (lent_source t i) (lent_token t i)) ≤ n
  names_room m k n g h l = omega (arith, lent_length)

  -- ---- the whole row

  pub row_wrote : (l₀ l₁ l₂ l₃ : List ℕ) (m k r : ℕ) → Put (rank_text family rank) 0 l₀ l₁ m → Put (figures_text f) m l₁ l₂ k
      → Put (names_text (lent_source t i) (lent_token t i)) k l₂ l₃ r → Wrote (order_text family rank (order_in (slot t i))) l₀ l₃ r
  row_wrote l₀ l₁ l₂ l₃ m k r a b c =
      let figures = rw figures_lent at b in
      let names = rw names_lent at c in
      from_front (then (then a figures) names)

  pub row_long : (d : ℕ) → SlotInside i t → d ≡ length (trimmed (lent_token t i))
      → length (decimal family) + length (decimal rank) + length (figures_text f) + d + 10 ≡ length (order_text family rank (order_in (slot t i)))
  row_long d h k =
      let source : length (order_in (slot t i)).key.source ≡ 6 = length_part (slot t i) 0 6 (rw (length_part t (slot_at i) slot_width h) (omega arith)) in
      omega (arith, lent_length, rank_length family rank, names_length (lent_source t i) (lent_token t i), ap length (source_lent t i))
