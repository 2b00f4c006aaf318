-- `feed::report::refused` meets its contract: words and numbers, each right behind the other; the longest line has 46 bytes.
use Prim.Native.Nat.{ℕ, ◌+◌, ◌≤◌}
use native.Mathlib.Omega.{arith}
use mathlib.Core.Path.{ap}
use mathlib.Core.List.{[], ◌∷◌}
use borrow.Author.Rules.{rules}
use lib.ListN.{length}
use Rattle.refusal.specs.Numbers.{number_of, field_of}
use Rattle.refusal.specs.declared.Refusal.{Refusal}
use Rattle.row.specs.Texts.{decimal}
use Rattle.row.proofs.Decimals.{decimal_most}
use Rattle.row.proofs.Puts.{run_put, then, from_front}
use Rattle.feed.specs.Printed.{line_word, refused_word, field_text}
use Rattle.feed.proofs.Reporting.{short}
use Rattle.feed.proofs.report.refused.Goals as goal
use Rattle.feed.proofs.report.refused.Goals.{After-number, After-put_field-field, After-put_number-number, After-put_number-refusal}

line_ends : (c : After-put_number-number) → c.put_number-number.result ≤ 25
line_ends c = omega (arith, decimal_most c.args.line, c.put_number-number.ensures.end)

-- a refusal's number, and what is written of its field, are short
abbrev Short : Refusal → ℕ → Type 0
Short x n = (length (decimal n) ≤ 2) × (length (decimal n) + length (field_text (number_of x) (field_of x)) ≤ 11)

number_most : (c : After-number) → Short c.args.x c.number.result
number_most c =
    let same = ap (λ n. length (decimal n)) c.number.ensures in
    let most = short c.args.x c.well_formed.1.0 in
    (omega (arith, same, most), omega (arith, same, most))

number_ends : (c : After-put_number-refusal) → c.put_number-number.result ≤ 25 → Short c.args.x c.number.result
    → (c.put_number-refusal.result ≤ 36) × (c.put_number-refusal.result + length (field_text (number_of c.args.x) (field_of c.args.x)) ≤ 45)
number_ends c line most = (omega (arith, most, line, c.put_number-refusal.ensures.end), omega (arith, most, line, c.put_number-refusal.ensures.end))

field_ends : (c : After-put_field-field) → c.put_number-refusal.result + length (field_text (number_of c.args.x) (field_of c.args.x)) ≤ 45 → c.put_field-field.result ≤ 45
field_ends c most = omega (arith, most, c.put_field-field.ensures.end)

pub put_number-number-requires : goal.put_number-number-requires
put_number-number-requires c = omega (arith, decimal_most c.args.line)

pub store-requires-2 : goal.store-requires-2
store-requires-2 c = omega (arith, line_ends (goal.at.store-requires-2 c).After-put_number-number)

pub overflow_add-number : goal.overflow_add-number
overflow_add-number c = search (rules, line_ends (goal.at.overflow_add-number c).After-put_number-number)

pub put_number-refusal-requires : goal.put_number-refusal-requires
put_number-refusal-requires c = omega (arith, line_ends (goal.at.put_number-refusal-requires c).After-put_number-number, number_most (goal.at.put_number-refusal-requires c).After-number)

pub put_field-field-requires : goal.put_field-field-requires
put_field-field-requires c = omega (arith, number_ends (goal.at.put_field-field-requires c).After-put_number-refusal (line_ends (goal.at.put_field-field-requires c).After-put_number-number) (number_most (goal.at.put_field-field-requires c).After-number))

pub store-requires-3 : goal.store-requires-3
store-requires-3 c = omega (arith, field_ends (goal.at.store-requires-3 c).After-put_field-field (number_ends (goal.at.store-requires-3 c).After-put_number-refusal (line_ends (goal.at.store-requires-3 c).After-put_number-number) (number_most (goal.at.store-requires-3 c).After-number)).1)

pub overflow_add-result : goal.overflow_add-result
overflow_add-result c = omega (arith, field_ends (goal.at.overflow_add-result c).After-put_field-field (number_ends (goal.at.overflow_add-result c).After-put_number-refusal (line_ends (goal.at.overflow_add-result c).After-put_number-number) (number_most (goal.at.overflow_add-result c).After-number)).1)

pub returns : goal.returns
returns c =
    let first = run_put {before = c.args.out.now} {at = 0} line_word c.store.ensures in
    let second = run_put {at = c.put_number-number.result} refused_word c.store-2.ensures in
    let third = rw c.number.ensures at c.put_number-refusal.ensures in
    let last = run_put {at = c.put_field-field.result} (10 ∷ []) c.store-3.ensures in
    from_front (then (then (then {ys = decimal (number_of c.args.x)} (then (then first c.put_number-number.ensures) second) third) c.put_field-field.ensures) last)
