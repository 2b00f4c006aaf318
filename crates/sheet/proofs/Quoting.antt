-- The quote section, line after line: what is done of it and the lines that are left are all of it.
use Prim.Native.Nat.{ℕ, suc, ◌+◌, ◌*◌, ◌-◌, ◌≤◌, ◌<◌}
use native.Mathlib.Nat.{sub-zero}
use native.Mathlib.Omega.{arith}
use mathlib.Core.Path.{◌≡◌, refl, sym, ap, ap₂, ◌∙◌}
use mathlib.Core.Bool.{true}
use mathlib.Core.List.{List, [], ◌∷◌, ◌++◌, append_assoc, append-nil}
use lib.ListN.{length, length-append}
use Rattle.run.proofs.Tests.{both}
use Rattle.quote.specs.Quotes.{most_rows, sound_row}
use Rattle.quote.specs.Rows.{all_rows_sound}
use Rattle.quote.specs.declared.QuoteRow.{QuoteRow}
use Rattle.day.proofs.Undamaged.{apart_rows}
use Rattle.section.specs.Sections.{record_of, records_in}
use Rattle.quote_slot.specs.QuoteSlots.{rows, row_in, row_width, rows_in, RowInside}
use Rattle.quote_slot.proofs.Laws.{length_rows}
use Rattle.row.specs.Texts.{quote_text, longest_quote}
use Rattle.row.specs.Writes.{Wrote}
use Rattle.row.proofs.Bounds.{quote_bound}
use Rattle.table.specs.Tables.{base_in, limit_of, row_count_in, sound, table_in}
use Rattle.table.proofs.Sound.{sound_apart, rows_there}
use Rattle.sheet.specs.Promises.{section_of}
use Rattle.sheet.specs.Texts.{quotes_text}
use Rattle.sheet.proofs.Joining.{lent, back, keeps_length, room_behind, one_text}

-- ---- how long it can be

lines_most : (ws : List QuoteRow) → all_rows_sound ws ≡ true → length (quotes_text ws) ≤ longest_quote * length ws
lines_most [] e = omega arith
lines_most (w ∷ ws) e =
    let b = both (sound_row w) (all_rows_sound ws) e in
    omega (arith, length-append (quote_text w) (quotes_text ws), quote_bound w b.0, lines_most ws b.1)

module _ (s : List ℕ) (good : sound s ≡ true) where
  section_most : length (section_of s) ≤ longest_quote * length (table_in s).quotes
  section_most = lines_most (table_in s).quotes (apart_rows (limit_of (length s)) (table_in s) (sound_apart s good).orders).sound

  pub section_bound : length (section_of s) ≤ longest_quote * most_rows
  section_bound =
      let few = (sound_apart s good).bytes.few_rows in
      omega (arith, section_most, length_rows (base_in s) (row_count_in s) s)

  -- a line is hardly longer than its row in the table
  pub section_within : row_width * length (section_of s) ≤ longest_quote * length s
  section_within = omega (arith, section_most, length_rows (base_in s) (row_count_in s) s, rows_there s good)

-- ---- line after line

-- so much is done before row i of a sound table whose n rows begin at base
pub record Lines (s : List ℕ) (base n i : ℕ) (done : List ℕ) : Type 0 where
  pub good : sound s ≡ true
  pub begin : base ≡ base_in s
  pub count : n ≡ row_count_in s
  pub inside : i ≤ n
  pub whole : section_of s ≡ done ++ quotes_text (records_in row_in (rows base) s i (n - i))

lines_first : {s : List ℕ} {base n : ℕ} → sound s ≡ true → base ≡ base_in s → n ≡ row_count_in s → Lines s base n 0 []
lines_first {s} {base} {n} e p q =
    record {
      good = e;
      begin = p;
      count = q;
      inside = omega arith;
      whole = ap₂ (λ (b k : ℕ). quotes_text (rows_in b k s)) (sym p) (sym q) ∙ rw sub-zero;
    }

module _ {s : List ℕ} {base n i : ℕ} {done : List ℕ} (l : Lines s base n i done) where
  all_lines : n ≤ i → section_of s ≡ done
  all_lines h = let z : n - i ≡ 0 = omega (arith, l.inside) in l.whole ∙ rw (z, append-nil)

  module _ (h : i < n) where
    pub row_there : RowInside base i s
    row_there = omega (arith, rows_there s l.good, l.begin, l.count)

    abbrev line : List ℕ
    line = quote_text (row_in (record_of (rows base) s i))

    abbrev rest : List ℕ
    rest = quotes_text (records_in row_in (rows base) s (i + 1) (n - (i + 1)))

    with_line : section_of s ≡ done ++ line ++ rest
    with_line =
        let z : n - i ≡ suc (n - (i + 1)) = omega arith in
        l.whole ∙ rw z (sym (append_assoc done line rest))

    line_inside : length done + length line ≤ length (section_of s)
    line_inside = omega (arith, ap length with_line, length-append (done ++ line) rest, length-append done line)

    lines_next : Lines s base n (i + 1) (done ++ line)
    lines_next = record { good = l.good; begin = l.begin; count = l.count; inside = omega arith; whole = with_line }

-- ---- the loops

-- the lines before row i are so long
pub record Summed (s : List ℕ) (base n i long : ℕ) : Type 0 where
  pub done : List ℕ
  pub lines : Lines s base n i done
  pub so : long ≡ length done

pub sum_first : {s : List ℕ} {base n : ℕ} → sound s ≡ true → base ≡ base_in s → n ≡ row_count_in s → Summed s base n 0 0
sum_first e p q = record { done = []; lines = lines_first e p q; so = refl }

module _ {s : List ℕ} {base n i long : ℕ} (x : Summed s base n i long) where
  module _ (h : i < n) {r : ℕ} (e : r ≡ length (line x.lines h)) where
    pub sum_small : row_width * (long + r) ≤ longest_quote * length s
    sum_small = omega (arith, x.so, e, line_inside x.lines h, section_within s x.lines.good)

    pub sum_next : Summed s base n (i + 1) (long + r)
    sum_next =
        record {
          done = x.done ++ line x.lines h;
          lines = lines_next x.lines h;
          so = ap₂ (λ (a b : ℕ). a + b) x.so e ∙ sym (length-append x.done (line x.lines h));
        }

  pub sum_all : n ≤ i → long ≡ length (section_of s)
  sum_all h = x.so ∙ ap length (sym (all_lines x.lines h))

-- the lines before row i are written
pub record Written (s : List ℕ) (base n i : ℕ) (before now : List ℕ) (wrote : ℕ) : Type 0 where
  pub done : List ℕ
  pub lines : Lines s base n i done
  pub so : Wrote done before now wrote

pub written_first : {s : List ℕ} {base n : ℕ} {before : List ℕ} → sound s ≡ true → base ≡ base_in s → n ≡ row_count_in s
    → Written s base n 0 before before 0
written_first e p q = record { done = []; lines = lines_first e p q; so = record { long = refl; out = refl } }

module _ {s : List ℕ} {base n i : ℕ} {before now : List ℕ} {wrote : ℕ} (x : Written s base n i before now wrote) where
  module _ (room : length (section_of s) ≤ length before) where
    pub written_inside : wrote ≤ length now
    written_inside = omega (arith, x.so.long, keeps_length x.so, ap length x.lines.whole, length-append x.done (quotes_text (records_in row_in (rows base) s i (n - i))))

    pub line_room : (h : i < n) → length (line x.lines h) ≤ length (lent wrote now)
    line_room h =
        room_behind (line x.lines h) x.so (omega (arith, line_inside x.lines h, length-append x.done (line x.lines h)))

  pub written_next : (h : i < n) {last : List ℕ} {r : ℕ} → Wrote (line x.lines h) (lent wrote now) last r
      → Written s base n (i + 1) before (back wrote now last) (wrote + r)
  written_next h y = record { done = x.done ++ line x.lines h; lines = lines_next x.lines h; so = one_text x.so y }

  pub written_all : n ≤ i → Wrote (section_of s) before now wrote
  written_all h = rw (all_lines x.lines h) x.so
