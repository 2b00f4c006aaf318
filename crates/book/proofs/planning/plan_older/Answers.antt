-- `book::planning::plan_older` meets its contract: no order has the key and the plan is by quote rows, or it is by the order at its place.
use mathlib.Core.Path.{refl, sym}
use Rattle.day.specs.Refusals.{subject}
use Rattle.slot.proofs.Lookups.{nobody_found}
use Rattle.table.specs.Tables.{table_in}
use Rattle.book.proofs.There.{There, there}
use Rattle.book.proofs.Planned.{about}
use Rattle.book.proofs.planning.plan_older.Goals as goal
use Rattle.book.proofs.planning.plan_older.Goals.{In-Some}

here : (c : In-Some) → There c.args.day.now.table.now (subject c.args.r) c.in-Some.i
here c = there _ _ _ c.args.day.now.sound (sym c.in-Some.ensures)

pub plan_fill-requires-clause-absent : goal.plan_fill-requires-clause-absent
plan_fill-requires-clause-absent c = nobody_found (subject c.args.r) (table_in c.args.day.now.table.now).orders (sym c.in_default.ensures)

pub asked_at-requires : goal.asked_at-requires
asked_at-requires c = (here c).inside

pub plan_about-requires : goal.plan_about-requires
plan_about-requires c = rw c.asked_at.ensures (here (goal.at.plan_about-requires c).In-Some).sums

pub returns : goal.returns
returns c =
    let there = here (goal.at.returns c).In-Some in
    rw (c.plan_about.ensures, c.asked_at.ensures)
    (about c.args.day.now.table.now c.args.r c.requires.older c.in-Some.i _ there.is there.at refl there.inside c.is_full.result c.is_full.ensures)
