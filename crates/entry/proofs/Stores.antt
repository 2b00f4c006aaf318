-- Runs stored one right behind another make up a head, and numbers behind it an entry.
use Prim.Native.Nat.{ℕ, ◌+◌, ◌*◌, ◌≤◌}
use native.Mathlib.Nat.{zero-add}
use native.Mathlib.Omega.{arith}
use mathlib.Core.Path.{◌≡◌, refl, ap, ◌∙◌}
use mathlib.Core.List.{List, [], ◌∷◌, ◌++◌, append-nil}
use lib.ListN.{length, take, length-append}
use lib.Seq.{sets, length-take-le}
use Rattle.run.proofs.Stores.{sets_append}
use Rattle.field.specs.Number.{filled}
use Rattle.field.proofs.Laws.{length_filled}
use Rattle.order.specs.declared.Series.{Series}
use Rattle.quote.specs.declared.Quote.{Quote}
use Rattle.groups.specs.Taken.{joined}
use Rattle.groups.specs.Groups.{Puts, number_bytes}
use Rattle.groups.proofs.Numbers.{number_ten}
use Rattle.saved.specs.Heads.{series_runs, head_bytes, head_runs, head_width, head_widths}
use Rattle.saved.proofs.Cuts.{glued, total, widths_of, length_glued}
use Rattle.entry.specs.Series.{strike_runs, strike_bytes, series_bytes}

-- ---- runs

-- a run of w bytes is stored
record Stored (before : List ℕ) (at w : ℕ) (run after : List ℕ) : Type 0 where
  wide : length run ≡ w
  stored : after ≡ sets before at run

-- runs are, one right behind another
record AllStored (before : List ℕ) (at : ℕ) (runs : List (List ℕ)) (after : List ℕ) : Type 0 where
  stored : after ≡ sets before at (glued runs)

digits : {before after : List ℕ} {at : ℕ} (w v : ℕ) → after ≡ sets before at (filled 48 w v) → Stored before at w (filled 48 w v) after
digits w v e = record { wide = length_filled 48 w v; stored = e }

byte : {before after : List ℕ} {at : ℕ} (b : ℕ) → after ≡ sets before at (b ∷ []) → Stored before at 1 (b ∷ []) after
byte b e = record { wide = refl; stored = e }

then : {before between after : List ℕ} {at there w : ℕ} {run : List ℕ} {runs : List (List ℕ)}
    → Stored before at w run between → AllStored between there runs after → there ≡ at + w → AllStored before at (run ∷ runs) after
then {before = l} {at = at} {w = w} {run = run} {runs = runs} a b e =
    record { stored = b.stored ∙ rw (e, a.stored) (sets_append l at w run (glued runs) a.wide) }

last : {before after : List ℕ} {at w : ℕ} {run : List ℕ} → Stored before at w run after → AllStored before at (run ∷ []) after
last {run = run} a = record { stored = a.stored ∙ rw (append-nil run) }

-- ---- a series

pub series_stored : (s : Series) (at : ℕ) (l₀ : List ℕ) {l₁ l₂ l₃ : List ℕ} → length s.root ≡ 6 → l₁ ≡ sets l₀ at s.root
    → l₂ ≡ sets l₁ (at + 6) (s.month ∷ []) → l₃ ≡ sets l₂ (at + 7) (strike_bytes s) → l₃ ≡ sets l₀ at (series_bytes s)
series_stored s at l₀ {l₁} {l₂} {l₃} wide root month strike =
    let first : Stored l₀ at 6 s.root l₁ = record { wide = wide; stored = root } in
    let third : AllStored l₂ (at + 7) (strike_runs s) l₃ = record { stored = strike } in
    (then first (then (byte s.month month) third (omega arith)) refl).stored

-- ---- a head

-- a function that is given a quote knows so where it starts
pub record Sized (q : Quote) : Type 0 where
  pub source : length q.key.source ≡ 6
  pub token : length q.key.token ≡ 20
  pub root : length q.series.root ≡ 6

module _ (w : ℕ) (q : Quote) (few : w ≤ 20) (sized : Sized q) where
  name_wide : length (take w q.key.token) ≡ w
  name_wide = length-take-le w q.key.token (omega (arith, sized.token))

  head_long : length (head_bytes w q) ≡ head_width w
  head_long =
      let widths : widths_of (head_runs w q) ≡ head_widths w =
      rw (sized.source, name_wide, sized.root, length_filled 48 2 q.series.date, length_filled 48 2 q.series.year, length_filled 48 6 q.series.strike) in
      let sum : total (head_widths w) ≡ head_width w = omega arith in
      length_glued (head_runs w q) ∙ ap total widths ∙ sum

  pub head_stored : (l₀ : List ℕ) {l₁ l₂ l₃ l₄ : List ℕ} → l₁ ≡ sets l₀ 0 q.key.source → l₂ ≡ sets l₁ 6 (take w q.key.token)
      → l₃ ≡ sets l₂ (6 + w) (q.side ∷ []) → l₄ ≡ sets l₃ (7 + w) (series_bytes q.series) → l₄ ≡ sets l₀ 0 (head_bytes w q)
  head_stored l₀ {l₁} {l₂} {l₃} {l₄} source name side series =
      let first : Stored l₀ 0 6 q.key.source l₁ = record { wide = sized.source; stored = source } in
      let second : Stored l₁ 6 w (take w q.key.token) l₂ = record { wide = name_wide; stored = name } in
      let fourth : AllStored l₃ (7 + w) (series_runs q.series) l₄ = record { stored = series } in
      (then first (then second (then (byte q.side side) fourth (omega arith)) refl) refl).stored

  -- ---- an entry

  pub entry_put : (ns l₀ : List ℕ) {r : ℕ} {l₁ l₂ : List ℕ} → l₁ ≡ sets l₀ 0 (head_bytes w q) → Puts (joined number_bytes ns) (head_width w) l₁ r l₂
      → Puts (head_bytes w q ++ joined number_bytes ns) 0 l₀ r l₂
  entry_put ns l₀ head numbers =
      record {
        stored = numbers.stored ∙ rw head (rw zero-add at (sets_append l₀ 0 (head_width w) (head_bytes w q) (joined number_bytes ns) head_long));
        next = numbers.next ∙ omega (arith, length-append (head_bytes w q) (joined number_bytes ns), head_long);
      }

-- numbers have at most ten groups each
pub numbers_upto : (ns : List ℕ) → length (joined number_bytes ns) ≤ 10 * length ns
numbers_upto [] = omega arith
numbers_upto (n ∷ ns) = omega (arith, length-append (number_bytes n) (joined number_bytes ns), number_ten n, numbers_upto ns)
