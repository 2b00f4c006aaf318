-- Heads: what is written is read back, and what is read is written as the very bytes.
use Rattle.std.specs.Prelude.{Option, Some, None}
use Prim.Native.Nat.{ℕ, ◌-◌, ◌≤◌}
use native.Mathlib.Omega.{arith}
use mathlib.Core.Path.{◌≡◌, refl, sym, ap, ◌∙◌}
use mathlib.Core.Bool.{Bool, true, false, cond, false≢true}
use mathlib.Core.List.{List, [], ◌∷◌, ◌++◌}
use borrow.Author.Tests.{ltb-false, le-ltb}
use lib.Dec.{ltb}
use lib.ListN.{length, get_or, take, drop, replicate, length-append, length-drop}
use Rattle.field.specs.Number.{filled}
use Rattle.field.proofs.Laws.{length_filled}
use Rattle.message.specs.Rule.{digits, Value, num, run, reads}
use Rattle.message.specs.Values.{num_of}
use Rattle.message.proofs.Rules.{reads_writes, writes_reads}
use Rattle.layout.specs.Layout.{keeps_rule, strike_under}
use Rattle.layout.specs.Strikes.{lawful_strike}
use Rattle.order.specs.declared.Series.{Series}
use Rattle.quote.specs.declared.Quote.{Quote}
use Rattle.groups.specs.Taken.{Taken, none, taken, behind}
use Rattle.saved.specs.Heads.{series_runs, head_runs, head_bytes, cut, series_widths, head_widths, head_width, run_no, byte_no, on_number, series_from, quote_from, head_from, head_in}
use Rattle.saved.proofs.Cuts.{total, widths_of, glued, length_glued, cut_glued, glued_cut, cut_widths, first_of}

-- runs of their widths, and numbers by their rules
pub record HeadFits (w : ℕ) (q : Quote) : Type 0 where
  pub source : length q.key.source ≡ 6
  pub name : length (take w q.key.token) ≡ w
  pub padded : take w q.key.token ++ replicate (20 - w) 32 ≡ q.key.token
  pub root : length q.series.root ≡ 6
  pub date : keeps_rule 18 (num q.series.date) ≡ true
  pub year : keeps_rule 19 (num q.series.year) ≡ true
  pub strike : lawful_strike q.series.denominator q.series.strike ≡ true

sum : (w : ℕ) → total (head_widths w) ≡ head_width w
sum w = omega arith

-- ---- what is written is read back

module _ {w : ℕ} {q : Quote} (h : HeadFits w q) where
  widths : widths_of (head_runs w q) ≡ head_widths w
  widths = rw (h.source, h.name, h.root, length_filled 48 2 q.series.date, length_filled 48 2 q.series.year, length_filled 48 6 q.series.strike)

  pub head_long : length (head_bytes w q) ≡ head_width w
  head_long = length_glued (head_runs w q) ∙ ap total widths ∙ sum w

  runs_read : head_from w (head_runs w q) ≡ taken q (head_width w)
  runs_read =
      rw (
        (writes_reads (digits 1 31) 2 (num q.series.date) refl h.date).0,
        (writes_reads (digits 0 99) 2 (num q.series.year) refl h.year).0,
        (writes_reads (strike_under q.series.denominator) 6 (num q.series.strike) refl h.strike).0,
        h.padded,
      )

  pub head_back : (s : List ℕ) → head_in w (head_bytes w q ++ s) ≡ taken q (head_width w)
  head_back s =
      let long : head_width w ≤ length (head_bytes w q ++ s) = rw (length-append (head_bytes w q) s, head_long) (omega arith) in
      let runs : cut (head_widths w) (head_bytes w q ++ s) ≡ head_runs w q =
      ap (λ (ns : List ℕ). cut ns (head_bytes w q ++ s)) (sym widths) ∙ cut_glued (head_runs w q) s in
      rw (le-ltb (length (head_bytes w q ++ s)) (head_width w) long) (ap (head_from w) runs ∙ runs_read)

-- ---- what is read is written as the very bytes

pub not_taken : {A : Type 0} {a : A} {u : ℕ} → none ≡ taken a u → ⊥
not_taken e = let z : ◌≡◌ {A = ℕ} 0 1 = cc in omega arith

pub same_taken : {A : Type 0} {a b : A} {u v : ℕ} → taken a u ≡ taken b v → (a ≡ b) × (u ≡ v)
same_taken e = (cc, cc)

one_number : {A : Type 0} (g : Option Value) (next : ℕ → Taken A) (q : A) (u : ℕ) → on_number g next ≡ taken q u
    → (v : Value) × (g ≡ Some v) × (next (num_of v) ≡ taken q u)
one_number (Some v) next q u e = (v, refl, e)
one_number None next q u e = absurd (not_taken e)

number_run : (least most : ℕ) (b : List ℕ) (v : Value) → reads (digits least most) b ≡ Some v → filled 48 (length b) (num_of v) ≡ b
number_run least most b (num n) e = (reads_writes (digits least most) b (num n) e).1
number_run least most b (run x) e = absurd (false≢true (reads_writes (digits least most) b (run x) e).0)

run_of_one : (b : List ℕ) → length b ≡ 1 → get_or b 0 0 ∷ [] ≡ b
run_of_one [] h = let z : ⊥ = omega arith in absurd z
run_of_one (x ∷ []) h = refl
run_of_one (x ∷ y ∷ b) h = let z : ⊥ = omega arith in absurd z

pub record HeadRead (w : ℕ) (s : List ℕ) (q : Quote) (u : ℕ) : Type 0 where
  pub width : u ≡ head_width w
  pub inside : head_width w ≤ length s
  pub long : length (head_bytes w q) ≡ head_width w
  pub bytes : head_bytes w q ++ drop (head_width w) s ≡ s

-- the series that runs say is written as they are
module _ (r : List ℕ) (long : 18 ≤ length r) where
  wide_series : (i : ℕ) → get_or (widths_of (cut series_widths r)) i 0 ≡ get_or series_widths i 0
  wide_series i = ap (λ (ns : List ℕ). get_or ns i 0) (cut_widths series_widths r long)

  digits_run : (least most i n : ℕ) (v : Value) → let runs = cut series_widths r in length (run_no runs i) ≡ n → reads (digits least most) (run_no runs i) ≡ Some v
      → filled 48 n (num_of v) ≡ run_no runs i
  digits_run least most i n v l e = rw (← l) (number_run least most (run_no (cut series_widths r) i) v e)

  series_runs_lem : (date year strike : ℕ) → let runs = cut series_widths r in filled 48 2 date ≡ run_no runs 2 → filled 48 2 year ≡ run_no runs 3
      → filled 48 6 strike ≡ run_no runs 5
      → series_runs (record { root = run_no runs 0; month = byte_no runs 1; date = date; year = year; denominator = byte_no runs 4; strike = strike }) ≡ runs
  series_runs_lem date year strike d y k =
      let runs = cut series_widths r in
      rw (run_of_one (run_no runs 1) (wide_series 1), d, y, run_of_one (run_no runs 4) (wide_series 4), k)

  series_forth : (x : Series) (n : ℕ) → series_from (cut series_widths r) ≡ taken x n → series_runs x ≡ cut series_widths r
  series_forth x n e =
      let (d, de, e1) = one_number _ _ x n e in
      let (y, ye, e2) = one_number _ _ x n e1 in
      let (k, ke, e3) = one_number _ _ x n e2 in
      ap series_runs (sym (same_taken e3).0)
      ∙ series_runs_lem (num_of d) (num_of y) (num_of k) (digits_run 1 31 2 2 d (wide_series 2) de) (digits_run 0 99 3 2 y (wide_series 3) ye) (digits_run _ 999999 5 6 k (wide_series 5) ke)

module _ (w : ℕ) (s : List ℕ) (long : head_width w ≤ length s) where
  all_there : total (head_widths w) ≤ length s
  all_there = omega arith

  series_there : 18 ≤ length (drop 1 (drop w (drop 6 s)))
  series_there = rw (length-drop 1 (drop w (drop 6 s)), length-drop w (drop 6 s), length-drop 6 s) (omega arith)

  wide : (i : ℕ) → get_or (widths_of (cut (head_widths w) s)) i 0 ≡ get_or (head_widths w) i 0
  wide i = ap (λ (ns : List ℕ). get_or ns i 0) (cut_widths (head_widths w) s all_there)

  -- what the runs say is written as they are
  head_runs_lem : (x : Series) → let runs = cut (head_widths w) s in series_runs x ≡ drop 3 runs → head_runs w (quote_from w runs x) ≡ runs
  head_runs_lem x e =
      let runs = cut (head_widths w) s in
      rw (first_of w (run_no runs 1) (replicate (20 - w) 32) (wide 1), run_of_one (run_no runs 2) (wide 2))
      (ap (λ (l : List (List ℕ)). run_no runs 0 ∷ run_no runs 1 ∷ run_no runs 2 ∷ l) e)

  runs_forth : (q : Quote) (u : ℕ) → head_from w (cut (head_widths w) s) ≡ taken q u → HeadRead w s q u
  runs_forth q u e = go (series_from (drop 3 (cut (head_widths w) s))) refl e
    where
      go : (x : Taken Series) → let runs = cut (head_widths w) s in series_from (drop 3 runs) ≡ x
          → behind x (λ series n. taken (quote_from w runs series) (head_width w)) ≡ taken q u → HeadRead w s q u
      go none p e = absurd (not_taken e)
      go (taken x n) p e =
          let (said, width) = same_taken e in
          let same = ap (head_runs w) (sym said) ∙ head_runs_lem x (series_forth (drop 1 (drop w (drop 6 s))) series_there x n p) in
          record {
            width = sym width;
            inside = long;
            long = length_glued (head_runs w q) ∙ ap (λ (r : List (List ℕ)). total (widths_of r)) same ∙ ap total (cut_widths (head_widths w) s all_there) ∙ sum w;
            bytes = ap (λ (r : List (List ℕ)). glued r ++ drop (head_width w) s) same ∙ rw (← sum w) (glued_cut (head_widths w) s all_there);
          }

pub head_forth : (w : ℕ) (s : List ℕ) (q : Quote) (u : ℕ) → head_in w s ≡ taken q u → HeadRead w s q u
head_forth w s q u e = go (ltb (length s) (head_width w)) refl e
  where
    go : (t : Bool) → ltb (length s) (head_width w) ≡ t → cond t none (head_from w (cut (head_widths w) s)) ≡ taken q u → HeadRead w s q u
    go true l e = absurd (not_taken e)
    go false l e = runs_forth w s (ltb-false (length s) (head_width w) l) q u e
