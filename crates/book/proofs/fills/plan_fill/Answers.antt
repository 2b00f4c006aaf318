-- `book::fills::plan_fill` meets its contract: no quote is named, or the plan is by the row of the quote.
use mathlib.Core.Path.{sym}
use borrow.Author.Rules.{rules}
use Rattle.quote.specs.Quotes.{quote_of}
use Rattle.quote_slot.proofs.Laws.{length_rows}
use Rattle.quote_slot.proofs.Room.{line_fits}
use Rattle.table.specs.Tables.{base_in, row_count_in, table_in}
use Rattle.table.proofs.RowLookups.{none_seen}
use Rattle.book.proofs.Planned.{unknown_key, by_first, by_row}
use Rattle.book.proofs.There.{RowThere, row_there}
use Rattle.book.proofs.fills.plan_fill.Goals as goal
use Rattle.book.proofs.fills.plan_fill.Goals.{In-Some}

here : (c : In-Some) → RowThere c.args.t.now (quote_of c.args.r) c.in-Some.i
here c = row_there _ _ _ c.requires.t_value (sym (rw c.quote_of.ensures at c.in-Some.ensures))

pub returns-then-not-is_of_quote : goal.returns-then-not-is_of_quote
returns-then-not-is_of_quote c = unknown_key c.args.t.now c.args.r c.requires.older c.requires.absent (search rules)

pub find_row-requires-clause-fits_quote : goal.find_row-requires-clause-fits_quote
find_row-requires-clause-fits_quote c = rw c.quote_of.ensures (line_fits c.args.r c.requires.lawful_record)

pub returns-in_default : goal.returns-in_default
returns-in_default c =
    let s = c.args.t.now in
    let r = c.args.r in
    let unseen = none_seen (quote_of r) (table_in s).quotes (sym (rw c.quote_of.ensures at c.in_default.ensures)) in
    rw (c.plan_first.ensures, c.row_count.ensures, ← length_rows (base_in s) (row_count_in s) s)
    (by_first s r c.requires.older c.requires.absent (search rules) c.requires.t_value unseen)

pub row_at-requires : goal.row_at-requires
row_at-requires c = (here c).inside

pub plan_row-requires-clause-executed_le_most_executed : goal.plan_row-requires-clause-executed_le_most_executed
plan_row-requires-clause-executed_le_most_executed c =
    rw c.row_at.ensures (here (goal.at.plan_row-requires-clause-executed_le_most_executed c).In-Some).most

pub plan_row-requires-clause-broken_le_executed : goal.plan_row-requires-clause-broken_le_executed
plan_row-requires-clause-broken_le_executed c = rw c.row_at.ensures (here (goal.at.plan_row-requires-clause-broken_le_executed c).In-Some).sums

pub returns : goal.returns
returns c =
    rw (c.plan_row.ensures, c.row_at.ensures)
    (by_row c.args.t.now c.args.r c.requires.older c.requires.absent (search rules) c.requires.t_value c.in-Some.i (here (goal.at.returns c).In-Some))
