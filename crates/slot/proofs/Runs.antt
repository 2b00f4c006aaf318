-- Runs that are stored one right behind the other are one run; how wide the runs of an order are.
use Prim.Native.Nat.{ℕ, ◌+◌}
use native.Mathlib.Omega.{arith}
use mathlib.Core.Path.{◌≡◌, refl, ◌∙◌}
use mathlib.Core.List.{List, [], ◌∷◌, ◌++◌}
use lib.ListN.{length, length-append}
use lib.Seq.{sets}
use Rattle.cell.specs.Cells.{le_bytes}
use Rattle.run.proofs.Stores.{sets_append}
use Rattle.cell.proofs.Laws.{length_le}
use Rattle.order.specs.declared.Key.{Key}
use Rattle.order.specs.declared.Order.{Order}
use Rattle.order.specs.declared.Series.{Series}
use Rattle.slot.specs.Slots.{key_bytes, series_bytes, figures_bytes, terms_bytes, slot_bytes}

-- ---- runs of stores

-- a run of w bytes is stored
pub record Stored (before : List ℕ) (at w : ℕ) (run after : List ℕ) : Type 0 where
  pub wide : length run ≡ w
  pub stored : after ≡ sets before at run

pub number : {before after : List ℕ} {at : ℕ} (w v : ℕ) → after ≡ sets before at (le_bytes w v) → Stored before at w (le_bytes w v) after
number w v e = record { wide = length_le w v; stored = e }

pub byte : {before after : List ℕ} {at : ℕ} (b : ℕ) → after ≡ sets before at (b ∷ []) → Stored before at 1 (b ∷ []) after
byte b e = record { wide = refl; stored = e }

pub then : {before between after : List ℕ} {at there w n : ℕ} {xs ys : List ℕ}
    → Stored before at w xs between → Stored between there n ys after → there ≡ at + w → Stored before at (w + n) (xs ++ ys) after
then {before = l} {at = at} {w = w} {xs = xs} {ys = ys} a b e =
    record {
      wide = rw (length-append, a.wide, b.wide);
      stored = b.stored ∙ rw (e, a.stored) (sets_append l at w xs ys a.wide);
    }

-- ---- widths

pub length_key : (k : Key) → length k.source ≡ 6 → length k.token ≡ 20 → length (key_bytes k) ≡ 26
length_key k e t = rw (length-append, e, t)

length_series : (s : Series) → length s.root ≡ 6 → length (series_bytes s) ≡ 14
length_series s e = simp (length-append, e)

length_terms : (o : Order) → length o.key.source ≡ 6 → length o.key.token ≡ 20 → length o.series.root ≡ 6 → length (terms_bytes o) ≡ 49
length_terms o a b d = simp (length-append, a, b, d)

-- ---- an order, run by run

pub series_stored : (s : Series) (at : ℕ) (l₀ : List ℕ) {l₁ l₂ l₃ l₄ l₅ l₆ : List ℕ} → length s.root ≡ 6 → l₁ ≡ sets l₀ (at + 27) s.root
    → l₂ ≡ sets l₁ (at + 33) (s.month ∷ []) → l₃ ≡ sets l₂ (at + 34) (le_bytes 1 s.date) → l₄ ≡ sets l₃ (at + 35) (le_bytes 1 s.year)
    → l₅ ≡ sets l₄ (at + 36) (s.denominator ∷ []) → l₆ ≡ sets l₅ (at + 37) (le_bytes 4 s.strike) → l₆ ≡ sets l₀ (at + 27) (series_bytes s)
series_stored s at l₀ {l₁} wide root month date year denominator strike =
    let first : Stored l₀ (at + 27) 6 s.root l₁ = record { wide = wide; stored = root } in
    let expiry = then (then (then first (byte s.month month) (omega arith)) (number 1 s.date date) (omega arith)) (number 1 s.year year) (omega arith) in
    (then (then expiry (byte s.denominator denominator) (omega arith)) (number 4 s.strike strike) (omega arith)).stored

-- key, side and series, as a slot begins
pub opening_stored : (k : Key) (side : ℕ) (s : Series) (at : ℕ) (l₀ : List ℕ) {l₁ l₂ l₃ : List ℕ} → length k.source ≡ 6 → length k.token ≡ 20
    → length s.root ≡ 6 → l₁ ≡ sets l₀ at (key_bytes k) → l₂ ≡ sets l₁ (at + 26) (side ∷ []) → l₃ ≡ sets l₂ (at + 27) (series_bytes s)
    → Stored l₀ at 41 (key_bytes k ++ (side ∷ []) ++ series_bytes s) l₃
opening_stored k side s at l₀ {l₁} {l₂} {l₃} source token root key beside series =
    let first : Stored l₀ at 26 (key_bytes k) l₁ = record { wide = length_key k source token; stored = key } in
    let third : Stored l₂ (at + 27) 14 (series_bytes s) l₃ = record { wide = length_series s root; stored = series } in
    then (then first (byte side beside) refl) third (omega arith)

module _ (o : Order) (at : ℕ) (l₀ : List ℕ) {l₁ l₂ l₃ l₄ : List ℕ} (source : length o.key.source ≡ 6) (token : length o.key.token ≡ 20)
    (root : length o.series.root ≡ 6) where
  pub terms_stored : l₁ ≡ sets l₀ at (key_bytes o.key) → l₂ ≡ sets l₁ (at + 26) (o.side ∷ [])
      → l₃ ≡ sets l₂ (at + 27) (series_bytes o.series) → l₄ ≡ sets l₃ (at + 41) (le_bytes 8 o.price) → l₄ ≡ sets l₀ at (terms_bytes o)
  terms_stored key side series price =
      (then (opening_stored o.key o.side o.series at l₀ source token root key side series) (number 8 o.price price) refl).stored

  pub order_stored : l₁ ≡ sets l₀ at (terms_bytes o) → l₂ ≡ sets l₁ (at + 49) (le_bytes 2 o.elder)
      → l₃ ≡ sets l₂ (at + 51) (figures_bytes o.figures) → l₄ ≡ sets l₃ (at + 75) (le_bytes 5 0) → l₄ ≡ sets l₀ at (slot_bytes o)
  order_stored terms elder figures rest =
      let first : Stored l₀ at 49 (terms_bytes o) l₁ = record { wide = length_terms o source token root; stored = terms } in
      let third : Stored l₂ (at + 51) 24 (figures_bytes o.figures) l₃ = record { wide = refl; stored = figures } in
      (then (then (then first (number 2 o.elder elder) refl) third (omega arith)) (number 5 0 rest) (omega arith)).stored
