-- Pages of the sheet: one behind another they are one page, row by row the family section; and each answer of a page keeps its promise.
use Prim.Native.Nat.{ℕ, zero, suc, ◌+◌, ◌≤◌}
use native.Mathlib.Omega.{arith}
use mathlib.Core.Path.{◌≡◌, refl, sym, ap, ◌∙◌}
use mathlib.Core.Bool.{Bool, true, false, cond}
use mathlib.Core.List.{List, [], ◌∷◌, ◌++◌, append_assoc}
use borrow.Author.Tests.{leb-false, leb-true, le-ltb, lt-ltb}
use lib.Dec.{leb, ltb}
use lib.ListN.{length, drop, take, length-drop}
use lib.Seq.{drop-drop, take-add, take_all}
use Rattle.std.specs.Prelude.{Option, Result, Ok, Err}
use Rattle.refusal.specs.Answer.{Answer, value, refused, answer_of}
use Rattle.refusal.specs.declared.Refusal.{Refusal}
use Rattle.refusal.specs.declared.Refusal.TheVariants.{NoRoom}
use Rattle.order.specs.declared.Order.{Order}
use Rattle.day.specs.Case.{WholeCase, whole_case}
use Rattle.day.specs.Demand3.{table_after}
use Rattle.day.specs.Listing.{Member, Row, Sheet}
use Rattle.day.specs.Tables.{Booked, Table}
use Rattle.day.specs.Walk.{families, row_before, row_of, rows_for, sheet_of}
use Rattle.day.proofs.Shown.{Inside, families_inside}
use Rattle.row.specs.Texts.{heading, row_text}
use Rattle.row.specs.Writes.{Wrote}
use Rattle.slot.specs.Places.{orders_in}
use Rattle.slot.proofs.Laws.{length_orders}
use Rattle.table.specs.Tables.{count_in, sound, table_in}
use Rattle.sheet.specs.Pages.{Pages, page_of, page_of_sheet, row_by_row}
use Rattle.sheet.specs.Promises.{text_answer, text_from}
use Rattle.sheet.specs.Texts.{families_text, rows_text}
use Rattle.sheet.specs.Walk.{elders_in, members_left, stretch_text, text_left}
use Rattle.sheet.specs.declared.Turn.{Turn}
use Rattle.sheet.proofs.Answering.{families_counted}
use Rattle.sheet.proofs.Rowing.{walk_rows}
use Rattle.sheet.proofs.Seeking.{length_elders_in}

-- ---- pages joined

rows_joined : (a b : List Row) → rows_text (a ++ b) ≡ rows_text a ++ rows_text b
rows_joined [] b = refl
rows_joined (q ∷ a) b = ap (λ (l : List ℕ). row_text q ++ l) (rows_joined a b) ∙ sym (append_assoc (row_text q) (rows_text a) (rows_text b))

pub pages_joined : (s : List ℕ) (passed a b : ℕ) → page_of s passed (a + b) ≡ page_of s passed a ++ page_of s (passed + a) b
pages_joined s passed a b =
    let rows = (sheet_of (table_in s)).rows in
    ap rows_text (take-add a b (drop passed rows)) ∙ rows_joined (take a (drop passed rows)) (take b (drop a (drop passed rows)))
    ∙ ap (λ (l : List Row). rows_text (take a (drop passed rows)) ++ rows_text (take b l)) (drop-drop a passed rows)

-- "1.2 60 0 0 10 0 50 ABCD01 T2"
abbrev pub second_row : List ℕ
second_row =
    49 ∷ 46 ∷ 50 ∷ 32 ∷ 54 ∷ 48 ∷ 32 ∷ 48 ∷ 32 ∷ 48 ∷ 32 ∷ 49 ∷ 48 ∷ 32 ∷ 48 ∷ 32 ∷ 53 ∷ 48 ∷ 32 ∷ 65 ∷ 66 ∷ 67 ∷ 68 ∷ 48 ∷ 49 ∷ 32 ∷ 84 ∷ 50 ∷ 10 ∷ []

-- 01, Whole case: that is the page of one row behind the first
pub second_row_lem : (book : Table → List ℕ → Booked) (sheet : Table → Sheet) → WholeCase book sheet
    → page_of_sheet (sheet (table_after book whole_case)) 1 1 ≡ second_row
second_row_lem book sheet w = ap (λ (q : Sheet). page_of_sheet q 1 1) w.shows

row_by_row_lem : (s : List ℕ) (passed k : ℕ) → row_by_row s passed k ≡ page_of s passed k
row_by_row_lem s passed zero = refl
row_by_row_lem s passed (suc k) =
    let one : suc k ≡ 1 + k = omega arith in
    ap (λ (l : List ℕ). page_of s passed 1 ++ l) (row_by_row_lem s (passed + 1) k) ∙ sym (pages_joined s passed 1 k) ∙ ap (page_of s passed) (sym one)

-- ---- the rows of some members are some of the rows

rows_taken : (os : List Order) (most : ℕ) (members : List Member) → Inside (length os) members
    → rows_for os (take most members) ≡ take most (rows_for os members)
rows_taken os zero members h = refl
rows_taken os (suc most) [] h = refl
rows_taken os (suc most) (m ∷ members) h = go (drop m.at os) refl (rows_taken os most members h.1)
  where
    go : (l : List Order) → drop m.at os ≡ l → rows_for os (take most members) ≡ take most (rows_for os members)
        → row_before m l (rows_for os (take most members)) ≡ take (suc most) (row_before m l (rows_for os members))
    go [] e ih = absurd (omega (arith, h.0, simp length-drop at (ap length e)))
    go (o ∷ l) e ih = ap (λ (rows : List Row). row_of m o ∷ rows) ih

rows_paged : (os : List Order) (passed most : ℕ) (members : List Member) → Inside (length os) members
    → rows_for os (take most (drop passed members)) ≡ take most (drop passed (rows_for os members))
rows_paged os zero most members h = rows_taken os most members h
rows_paged os (suc passed) zero [] h = refl
rows_paged os (suc passed) (suc most) [] h = refl
rows_paged os (suc passed) most (m ∷ members) h = go (drop m.at os) refl (rows_paged os passed most members h.1)
  where
    go : (l : List Order) → drop m.at os ≡ l → rows_for os (take most (drop passed members)) ≡ take most (drop passed (rows_for os members))
        → rows_for os (take most (drop passed members)) ≡ take most (drop (suc passed) (row_before m l (rows_for os members)))
    go [] e ih = absurd (omega (arith, h.0, simp length-drop at (ap length e)))
    go (o ∷ l) e ih = ih

-- ---- the page of a turn

all_inside : (n : ℕ) (s : List ℕ) → Inside (length (orders_in 0 n s)) (families 1 0 (elders_in n s))
all_inside n s = families_inside (length (orders_in 0 n s)) 1 0 (elders_in n s) (omega (arith, length_elders_in n s, length_orders 0 n s))

pub page_text : (s : List ℕ) (n passed most : ℕ) (x : Option Turn) → n ≡ count_in s
    → members_left (elders_in n s) x ≡ drop passed (families 1 0 (elders_in n s)) → text_left n s most x ≡ page_of s passed most
page_text s n passed most x p q =
    let os = orders_in 0 n s in
    let members = families 1 0 (elders_in n s) in
    ap (stretch_text n s most) q ∙ walk_rows os (take most (drop passed members)) ∙ ap rows_text (rows_paged os passed most members (all_inside n s))
    ∙ ap (λ (k : ℕ). rows_text (take most (drop passed (rows_for (orders_in 0 k s) (families 1 0 (elders_in k s)))))) p

-- 02, ticket 10: "Heading and rows joined in order are today's family section byte for byte"
pub heading_and_rows : (s : List ℕ) → sound s ≡ true
    → families_text (sheet_of (table_in s)) ≡ heading (sheet_of (table_in s)).orders (sheet_of (table_in s)).families ++ row_by_row s 0 (count_in s)
heading_and_rows s e =
    let os = orders_in 0 (count_in s) s in
    let members = families 1 0 (elders_in (count_in s) s) in
    let all = take_all (count_in s) members (omega (arith, families_counted s e)) in
    let rows = sym (rows_taken os (count_in s) members (all_inside (count_in s) s)) ∙ ap (rows_for os) all in
    ap (λ (l : List ℕ). heading (sheet_of (table_in s)).orders (sheet_of (table_in s)).families ++ l)
    (ap rows_text (sym rows) ∙ sym (row_by_row_lem s 0 (count_in s)))

-- ---- the answers

module _ (text before : List ℕ) where
  fitted : (t : Bool) → ltb (length before) (length text) ≡ t → text_answer text before ≡ cond t (refused 4 0) (value (length text))
  fitted t e = rw e

  answered : (after : List ℕ) (x : Result ℕ Refusal) (answer : Answer ℕ) → text_answer text before ≡ answer → answer_of x ≡ answer
      → after ≡ text_from answer text before → Pages text before x after
  answered after x answer e p q = record { said = p ∙ sym e; out = q ∙ ap (λ (a : Answer ℕ). text_from a text before) (sym e) }

  module _ (r : Bool) (e : r ≡ leb (length text) (length before)) where
    pub page_refused : r ≡ false → Pages text before (Err NoRoom) before
    page_refused f =
        let l = leb-false (length text) (length before) (sym e ∙ f) in
        answered before (Err NoRoom) (refused 4 0) (fitted true (lt-ltb (length before) (length text) l)) refl refl

    pub page_room : r ≡ true → length text ≤ length before
    page_room t = leb-true (length text) (length before) (sym e ∙ t)

    pub page_written : {after : List ℕ} {k : ℕ} → r ≡ true → Wrote text before after k → Pages text before (Ok k) after
    page_written {after} {k} t w =
        answered after (Ok k) (value (length text)) (fitted false (le-ltb (length before) (length text) (page_room t))) (ap value w.long) w.out
