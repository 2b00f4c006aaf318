-- The quote of a lawful line fits, and so does a sound row.
use Prim.Native.Nat.{ℕ}
use native.Mathlib.Omega.{arith}
use mathlib.Core.Path.{◌≡◌, refl, sym, ap, ◌∙◌}
use mathlib.Core.Bool.{true}
use mathlib.Core.List.{List}
use borrow.Author.Tests.{leb-true}
use lib.ListN.{take, drop, take-append-drop, length-drop}
use Rattle.run.specs.Runs.{all}
use Rattle.run.proofs.Tests.{both}
use Rattle.run.proofs.All.{all_append}
use Rattle.message.specs.Rule.{text, hex, blank}
use Rattle.layout.specs.Layout.{sides}
use Rattle.layout.specs.Demand2.{LawfulRecord}
use Rattle.layout.specs.declared.Record.{Record}
use Rattle.quote.specs.Quotes.{names_quote, quote_of, lawful_quote, sound_row}
use Rattle.quote.specs.declared.Quote.{Quote}
use Rattle.quote.specs.declared.QuoteRow.{QuoteRow}
use Rattle.day.specs.Machine.{new_order}
use Rattle.day.proofs.Lawful.{new_sound}
use Rattle.slot.specs.Slots.{is_byte, RunOf}
use Rattle.slot.proofs.Room.{run_fits, code_fits, series_fits, sound_fits}
use Rattle.quote_slot.specs.QuoteSlots.{FitsQuote, FitsRow}

pub line_fits : (r : Record) → LawfulRecord r → FitsQuote (quote_of r)
line_fits r l =
    let f = sound_fits (new_order r 1 0) (new_sound r l 1 0 (omega arith, omega arith)) (omega arith) in
    record {
      source = f.source;
      token = f.token;
      side = f.side;
      root = f.root;
      month = f.month;
      date = f.date;
      year = f.year;
      denominator = f.denominator;
      strike = f.strike;
    }

token_fits : (t : List ℕ) → names_quote t ≡ true → RunOf 20 t
unfolding names_quote
token_fits t e =
    let h = both _ _ e in
    let front = run_fits hex 16 (take 16 t) h.0 in
    let back = run_fits blank 4 (drop 16 t) h.1 in
    let left = length-drop 16 t in
    (omega (arith, back.0), ap (all is_byte) (sym (take-append-drop 16 t)) ∙ all_append is_byte (take 16 t) (drop 16 t) front.1 back.1)

quote_fits : (q : Quote) → lawful_quote q ≡ true → FitsQuote q
quote_fits q e =
    let h = both _ _ e in
    let s = series_fits q.series h.1 in
    let k = both _ _ h.0 in
    let l = both _ _ k.0 in
    record {
      source = run_fits text 6 q.key.source l.0;
      token = token_fits q.key.token l.1;
      side = code_fits sides q.side refl k.1;
      root = s.0;
      month = s.1;
      date = s.2;
      year = s.3;
      denominator = s.4;
      strike = s.5;
    }

pub row_fits : (w : QuoteRow) → sound_row w ≡ true → FitsRow w
row_fits w e =
    let h = both _ _ e in
    let k = both _ _ h.0 in
    let l = both _ _ k.0 in
    let most = leb-true w.executed 4294967295 k.1 in
    let less = leb-true w.broken w.executed h.1 in
    record { quote = quote_fits w.quote l.0; executed = omega arith; broken = omega arith }
