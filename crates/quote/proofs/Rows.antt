-- Rows with one more at the end: the place of a quote among them, and whether all are unlike.
use Prim.Native.Nat.{ℕ, zero, suc}
use mathlib.Core.Path.{◌≡◌, refl}
use mathlib.Core.Bool.{Bool, true, false, cond, ◌&&◌}
use mathlib.Core.List.{List, [], ◌∷◌, ◌++◌}
use lib.Dec.{eqb, eqb-suc-zero}
use lib.ListN.{length}
use Rattle.run.specs.Found.{or_else, one_more}
use Rattle.run.proofs.Found.{place_last}
use Rattle.quote.specs.Quotes.{same_quote}
use Rattle.quote.specs.Rows.{row_place, unlike}
use Rattle.quote.specs.declared.Quote.{Quote}
use Rattle.quote.specs.declared.QuoteRow.{QuoteRow}
use Rattle.quote.proofs.Sameness.{quote_comm}

row_last : (q : Quote) (ws : List QuoteRow) (w : QuoteRow)
    → row_place q (ws ++ (w ∷ [])) ≡ or_else (row_place q ws) (cond (same_quote w.quote q) (suc (length ws)) 0)
row_last q ws w = place_last (λ (v : QuoteRow). same_quote v.quote q) (row_place q) refl (λ v vs. refl) ws w

pub unlike_last : (ws : List QuoteRow) (w : QuoteRow) → unlike (ws ++ (w ∷ [])) ≡ (unlike ws && eqb (row_place w.quote ws) 0)
unlike_last [] w = refl
unlike_last (v ∷ ws) w =
    rw (row_last v.quote ws w, quote_comm w.quote v.quote, unlike_last ws w)
    (go (row_place v.quote ws) (same_quote v.quote w.quote) (unlike ws) (row_place w.quote ws))
  where
    go : (p : ℕ) (t u : Bool) (r : ℕ)
        → (eqb (or_else p (cond t (suc (length ws)) 0)) 0 && (u && eqb r 0)) ≡ (eqb p 0 && u && eqb (cond t 1 (one_more r)) 0)
    go (suc p) t u r = rw (eqb-suc-zero p)
    go zero true true r = rw (eqb-suc-zero (length ws))
    go zero true false r = rw (eqb-suc-zero (length ws))
    go zero false true zero = refl
    go zero false true (suc r) = rw (eqb-suc-zero r, eqb-suc-zero (suc r))
    go zero false false r = refl
