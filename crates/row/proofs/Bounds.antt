-- How long the heading and a row can be, by the limit of the table, for orders whose figures have at most six digits; and the line of a sound quote row.
use Prim.Native.Nat.{ℕ, ◌≤◌}
use native.Mathlib.Omega.{arith}
use mathlib.Core.Path.{◌≡◌}
use mathlib.Core.Bool.{true}
use lib.ListN.{length, take, length-take}
use Rattle.order.specs.declared.Figures.{Figures}
use Rattle.order.specs.declared.Order.{Order}
use Rattle.quote.specs.Quotes.{sound_row}
use Rattle.quote.specs.declared.QuoteRow.{QuoteRow}
use Rattle.quote_slot.proofs.Room.{row_fits}
use Rattle.row.specs.Texts.{decimal, figures_text, heading, order_text, quote_text, longest_heading, longest_row, longest_quote}
use Rattle.row.proofs.Decimals.{decimal_length, decimal_grows}
use Rattle.row.proofs.Puts.{heading_length, rank_length, traded_length, figures_length, names_length, row_length, fills_length, line_length}
use Rattle.row.proofs.Trimming.{trimmed_most}

pub figure_bound : (n : ℕ) → n ≤ 999999 → length (decimal n) ≤ 6
figure_bound n h = (decimal_length n 6 (omega arith) (omega arith)).1

pub heading_bound : (limit n f : ℕ) → n ≤ limit → f ≤ limit → length (heading n f) ≤ longest_heading limit
heading_bound limit n f h k = omega (arith, heading_length n f, decimal_grows n limit h, decimal_grows f limit k)

pub figures_bound : (f : Figures) → f.size ≤ 999999 → f.executed ≤ 999999 → f.broken ≤ 999999 → f.cancelled ≤ 999999 → f.passed ≤ 999999
    → f.«open» ≤ 999999 → length (figures_text f) ≤ 42
figures_bound f size executed broken cancelled passed left =
    let a = figure_bound f.size size in
    let b = figure_bound f.executed executed in
    let c = figure_bound f.broken broken in
    let d = figure_bound f.cancelled cancelled in
    let e = figure_bound f.passed passed in
    let g = figure_bound f.«open» left in
    omega (arith, traded_length f, figures_length f)

pub row_bound : (limit family rank : ℕ) (o : Order) → family ≤ limit → rank ≤ limit → o.figures.size ≤ 999999 → o.figures.executed ≤ 999999
    → o.figures.broken ≤ 999999 → o.figures.cancelled ≤ 999999 → o.figures.passed ≤ 999999 → o.figures.«open» ≤ 999999
    → length o.key.source ≡ 6 → length o.key.token ≡ 20 → length (order_text family rank o) ≤ longest_row limit
row_bound limit family rank o h k size executed broken cancelled passed left source token =
    let a = decimal_grows family limit h in
    let b = decimal_grows rank limit k in
    let c = figures_bound o.figures size executed broken cancelled passed left in
    let d = trimmed_most o.key.token in
    omega (arith, row_length family rank o, rank_length family rank, names_length o.key.source o.key.token)

-- 02, 1: sixteen characters, two numbers up to 4,294,967,295 and six Source bytes
pub quote_bound : (w : QuoteRow) → sound_row w ≡ true → length (quote_text w) ≤ longest_quote
quote_bound w e =
    let f = row_fits w e in
    let id = take 16 w.quote.key.token in
    let executed = (decimal_length w.executed 10 (omega arith) (omega (arith, f.executed))).1 in
    let broken = (decimal_length w.broken 10 (omega arith) (omega (arith, f.broken))).1 in
    omega (arith, line_length id w.executed w.broken w.quote.key.source, fills_length id w.executed w.broken, length-take 16 w.quote.key.token, f.quote.source.0)
