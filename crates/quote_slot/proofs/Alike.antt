-- Rows have one quote exactly where their first 41 bytes are the same: the index and the scan answer what the definitions say of the rows.
use Prim.Native.Nat.{ℕ, zero, suc, ◌-◌, ◌≤◌, ◌<◌}
use native.Mathlib.Nat.{zero-add}
use native.Mathlib.Omega.{arith}
use mathlib.Core.Path.{◌≡◌, refl, sym, ap, ap₂, subst, ◌∙◌}
use mathlib.Core.Bool.{Bool, true, ◌&&◌}
use mathlib.Core.List.{List, [], ◌∷◌, ◌++◌}
use borrow.Author.Tests.{lt-ltb}
use lib.Dec.{eqb}
use lib.ListN.{length, get_or, drop}
use lib.Seq.{sets}
use Rattle.run.specs.Runs.{part, same, all}
use Rattle.run.proofs.Tests.{agree}
use Rattle.run.proofs.All.{all_take, all_drop}
use Rattle.run.proofs.Sameness.{same_self, same_true}
use Rattle.run.proofs.Stores.{sets_whole}
use Rattle.quote.specs.Quotes.{same_quote}
use Rattle.quote.specs.Rows.{row_place, unlike}
use Rattle.quote.specs.declared.Quote.{Quote}
use Rattle.quote.specs.declared.QuoteRow.{QuoteRow}
use Rattle.quote.proofs.Sameness.{quote_self, quote_eq}
use Rattle.quote.proofs.Rows.{unlike_last}
use Rattle.section.specs.Sections.{start_of, record_of, Inside, KeyOf}
use Rattle.section.specs.declared.Section.{Section}
use Rattle.section.proofs.Places.{key_in_record, length_record}
use Rattle.section.proofs.Lists.{records_last}
use Rattle.index.specs.Searches.{earliest, all_distinct}
use Rattle.index.proofs.Listed.{earliest_listed}
use Rattle.slot.specs.Slots.{is_byte}
use Rattle.quote_slot.specs.QuoteSlots.{quote_width, rows, row_quotes, row_at, quote_in, row_in, quote_bytes, rows_in, FitsQuote}
use Rattle.quote_slot.proofs.Runs.{length_quote}
use Rattle.quote_slot.proofs.Said.{quote_says, quote_within, quote_back}

-- bytes that are those of the quote that they say
abbrev Said : List ℕ → Type 0
Said b = quote_bytes (quote_in b) ≡ b

quotes_same : (b k : List ℕ) → Said b → Said k → same b k ≡ same_quote (quote_in b) (quote_in k)
quotes_same b k p q = agree (same b k) (same_quote (quote_in b) (quote_in k)) forth back
  where
    forth : same b k ≡ true → same_quote (quote_in b) (quote_in k) ≡ true
    forth e = subst (λ (x : List ℕ). same_quote (quote_in b) (quote_in x) ≡ true) (same_true b k e) (quote_self (quote_in b))

    back : same_quote (quote_in b) (quote_in k) ≡ true → same b k ≡ true
    back e =
        let one : b ≡ k = sym p ∙ ap quote_bytes (quote_eq (quote_in b) (quote_in k) e) ∙ q in
        subst (λ (x : List ℕ). same b x ≡ true) one (same_self b)

-- each element of a lent slice is a byte
pub all_bytes : (s : List ℕ) → ((i : ℕ) → get_or s i 0 < 256) → all is_byte s ≡ true
all_bytes [] h = refl
all_bytes (b ∷ s) h = rw (lt-ltb b 256 (h 0)) (all_bytes s (λ i. h (suc i)))

module _ (base : ℕ) (s : List ℕ) where
  quotes_of_rows : KeyOf (row_quotes base) (rows base)
  quotes_of_rows = record { steps = refl; from = omega arith; upto = omega arith }

  quote_at : (i : ℕ) → quote_in (record_of (row_quotes base) s i) ≡ quote_in (record_of (rows base) s i)
  quote_at i =
      let none : base - base ≡ 0 = omega arith in
      ap quote_in (key_in_record quotes_of_rows s i ∙ ap (λ at. part (record_of (rows base) s i) at quote_width) none)
      ∙ quote_within (record_of (rows base) s i)

  module _ (bytes : all is_byte s ≡ true) where
    row_said : (i : ℕ) → Inside (row_quotes base) s i → Said (record_of (row_quotes base) s i)
    row_said i h =
        quote_back (record_of (row_quotes base) s i) (length_record (row_quotes base) s i h)
        (all_take is_byte (drop (start_of (row_quotes base) i) s) quote_width (all_drop is_byte s (start_of (row_quotes base) i) bytes))

    earliest_row : (n : ℕ) (k : List ℕ) → row_at base n ≤ length s → Said k → earliest (row_quotes base) s n k ≡ row_place (quote_in k) (rows_in base n s)
    earliest_row n k h q =
        earliest_listed (λ (w : QuoteRow). same_quote w.quote (quote_in k)) (row_place (quote_in k)) refl (λ w ws. refl) row_in (rows base) (row_quotes base) s k n
        (λ i l.
        ap (λ x. same_quote x (quote_in k)) (sym (quote_at i))
        ∙ sym (quotes_same (record_of (row_quotes base) s i) k (row_said i (omega arith)) q))

    rows_unlike : (n : ℕ) → row_at base n ≤ length s → all_distinct (row_quotes base) s n ≡ unlike (rows_in base n s)
    rows_unlike zero h = refl
    rows_unlike (suc n) h =
        let ws = rows_in base n s in
        let last = earliest_row n (record_of (row_quotes base) s n) (omega arith) (row_said n (omega arith)) ∙ ap (λ q. row_place q ws) (quote_at n) in
        ap₂ (λ (a : Bool) (p : ℕ). a && eqb p 0) (rows_unlike n (omega arith)) last
        ∙ sym (unlike_last ws (row_in (record_of (rows base) s n)))
        ∙ ap unlike (sym (records_last row_in (rows base) s 0 n ∙ ap (λ i. ws ++ (row_in (record_of (rows base) s i) ∷ [])) (zero-add n)))

-- ---- `quote_slot::finding`: records are sought over keys that are known to be the quotes of the rows

module _ {keys : Section} {base : ℕ} (k : keys ≡ row_quotes base) (s : List ℕ) (n : ℕ) (room : row_at base n ≤ length s) where
  module _ (bytes : all is_byte s ≡ true) where
    pub unlike_told : {r : Bool} → r ≡ all_distinct keys s n → r ≡ unlike (rows_in base n s)
    unlike_told e = e ∙ rw k (rows_unlike base s bytes n room)

    -- a quote stored over all of a run of its length, and sought by that run
    module _ (q : Quote) (f : FitsQuote q) (l b : List ℕ) (wide : length l ≡ quote_width) (stored : b ≡ sets l 0 (quote_bytes q)) where
      run_is : b ≡ quote_bytes q
      run_is = stored ∙ sets_whole l (quote_bytes q) (length_quote f ∙ sym wide)

      pub found_row : {found : ℕ} → found ≡ earliest keys s n b → found ≡ row_place q (rows_in base n s)
      found_row e =
          let says = quote_says q f in
          e ∙ rw (run_is, k) (earliest_row base s bytes n (quote_bytes q) room (ap quote_bytes says) ∙ ap (λ x. row_place x (rows_in base n s)) says)
