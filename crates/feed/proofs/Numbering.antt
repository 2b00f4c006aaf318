-- Over the bytes of a sound table, with a number of 64 bits for the line, no other text is left than 01 says.
use Prim.Native.Nat.{ℕ, ◌+◌, ◌-◌, ◌^◌, ◌≤◌, ◌<◌}
use native.Mathlib.Omega.{arith}
use mathlib.Core.Path.{◌≡◌, refl, sym, ap, ◌∙◌}
use mathlib.Core.Bool.{Bool, true, false, cond}
use mathlib.Core.List.{List, [], ◌∷◌, ◌++◌}
use borrow.Author.Tests.{lt-ltb}
use lib.Dec.{ltb}
use lib.ListN.{length}
use Rattle.refusal.specs.Answer.{Answer}
use Rattle.day.specs.Machine.{book}
use Rattle.day.specs.Tables.{Table}
use Rattle.table.specs.Tables.{limit_of, table_in, sound}
use Rattle.book.specs.Bytes.{book_bytes}
use Rattle.book.proofs.Lengths.{booked_length}
use Rattle.book.proofs.Machine.{booked_answer, booked_table, booked_sound}
use Rattle.feed.specs.Printed.{report, printed_from}
use Rattle.feed.specs.Steps.{next_line}
use Rattle.feed.proofs.Remaining.{left_from}

-- ---- the number of a piece

line_up : (l : ℕ) → l < 2 ^ 64 - 1 → l + 1 ≡ next_line l
line_up l h = rw (lt-ltb l (2 ^ 64 - 1) h)

-- where a piece is left, the number goes up by 1
next_is : (limit l : ℕ) (t : Table) (ps : List (List ℕ)) → l + (1 + length ps) ≤ 2 ^ 64
    → printed_from limit (next_line l) t ps ≡ printed_from limit (l + 1) t ps
next_is limit l t [] h = refl
next_is limit l t (p ∷ ps) h = ap (λ n. printed_from limit n t (p ∷ ps)) (sym (line_up l (omega arith)))

next_most : (l : ℕ) → next_line l ≤ l + 1
next_most l = go (ltb l (2 ^ 64 - 1))
  where
    go : (b : Bool) → cond b (l + 1) l ≤ l + 1
    go true = omega arith
    go false = omega arith

-- ---- the pieces left

pub left_printed : (limit l : ℕ) (s : List ℕ) (ps : List (List ℕ)) → limit_of (length s) ≡ limit → sound s ≡ true → l + length ps ≤ 2 ^ 64
    → left_from l s ps ≡ printed_from limit l (table_in s) ps
left_printed limit l s [] q e h = refl
left_printed limit l s (p ∷ ps) q e h =
    let after = book_bytes s p in
    let same = ap limit_of (booked_length s p) ∙ q in
    let rest = left_printed limit (next_line l) after ps same (booked_sound s p e) (omega (arith, next_most l)) in
    let answer = booked_answer s p e ∙ ap (λ n. (book n (table_in s) p).answer) q in
    let table = booked_table s p e ∙ ap (λ n. (book n (table_in s) p).table) q in
    ap (λ (a : Answer (Unit {0})). report l a ++ left_from (next_line l) after ps) answer
    ∙ ap (λ t. report l (book limit (table_in s) p).answer ++ t)
    (rest ∙ next_is limit l (table_in after) ps (omega arith) ∙ ap (λ (t : Table). printed_from limit (l + 1) t ps) table)
