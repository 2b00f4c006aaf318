-- A sound order has room in a slot.
use Prim.Native.Nat.{ℕ, ◌^◌, ◌<◌}
use native.Mathlib.Omega.{arith}
use mathlib.Core.Path.{◌≡◌, refl}
use mathlib.Core.Bool.{true}
use mathlib.Core.List.{List}
use borrow.Author.Tests.{lt-ltb, ltb-true}
use Rattle.field.specs.Byte.{is_of}
use Rattle.field.specs.declared.Class.TheVariants.{Printable}
use Rattle.message.specs.Rule.{Kind, code, verbatim, text, run, lawful, fits}
use Rattle.message.specs.Values.{one}
use Rattle.run.proofs.Tests.{both, five, six}
use Rattle.run.proofs.All.{all_wider}
use Rattle.field.proofs.Fill.{between}
use Rattle.message.proofs.Rules.{writes_reads, writes_printable}
use Rattle.layout.specs.Layout.{sides, months, denominators, least_strike}
use Rattle.order.specs.declared.Order.{Order}
use Rattle.order.specs.declared.Series.{Series}
use Rattle.order.specs.Stored.{lawful_series, sound_order}
use Rattle.day.proofs.Figures.{figures_sound}
use Rattle.slot.specs.Slots.{is_byte, RunOf, Fits}

printable_byte : (b : ℕ) → is_of Printable b ≡ true → b < 256
printable_byte b e = let h = between 32 126 b e in omega arith

pub run_fits : (kind : Kind) (w : ℕ) (s : List ℕ) → lawful (verbatim kind) w (run s) ≡ true → RunOf w s
run_fits kind w s l = (
  (writes_reads (verbatim kind) w (run s) refl l).1,
  all_wider (is_of Printable) is_byte (λ b e. lt-ltb b 256 (printable_byte b e)) s (writes_printable (verbatim kind) w (run s) refl l),
)

pub code_fits : (codes : List ℕ) (b : ℕ) → fits (code codes) 1 ≡ true → lawful (code codes) 1 (one b) ≡ true → b < 256
code_fits codes b k l = printable_byte b (both (is_of Printable b) true (writes_printable (code codes) 1 (one b) k l)).0

-- a series that has room
abbrev SeriesFits : Series → Type 0
SeriesFits s =
    RunOf 6 s.root × (s.month < 256) × (s.date < 256) × (s.year < 256) × (s.denominator < 256) × (s.strike < 2 ^ 32)

pub series_fits : (s : Series) → lawful_series s ≡ true → SeriesFits s
series_fits s e =
    let t = six _ _ _ _ _ _ e in
    let date = between 1 31 s.date t.2 in
    let year = between 0 99 s.year t.3 in
    let strike = between (least_strike s.denominator) 999999 s.strike t.5 in (
      run_fits text 6 s.root t.0,
      code_fits months s.month refl t.1,
      omega arith,
      omega arith,
      code_fits denominators s.denominator refl t.4,
      omega arith,
    )

pub sound_fits : (o : Order) → sound_order o ≡ true → o.elder < 2 ^ 16 → Fits o
sound_fits o e h =
    let t = five _ _ _ _ _ e in
    let k = both _ _ t.0 in
    let s = series_fits o.series t.2 in
    let cents = ltb-true o.price (10 ^ 10) t.3 in
    let figures = figures_sound o.figures t.4 in
    record {
      source = run_fits text 6 o.key.source k.0;
      token = run_fits text 20 o.key.token k.1;
      side = code_fits sides o.side refl t.1;
      root = s.0;
      month = s.1;
      date = s.2;
      year = s.3;
      denominator = s.4;
      strike = s.5;
      price = omega arith;
      elder = h;
      size = omega arith;
      executed = omega arith;
      broken = omega arith;
      cancelled = omega arith;
      passed = omega arith;
      left = omega arith;
    }
