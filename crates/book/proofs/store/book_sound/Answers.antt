-- `book::store::book_sound` meets its contract, and leaves a sound table and its index: each way out keeps the promise of a piece, and a piece leaves a sound table sound.
use mathlib.Core.Path.{◌≡◌, sym}
use mathlib.Core.Bool.{true}
use mathlib.Core.List.{List}
use Prim.Native.Nat.{ℕ}
use borrow.Author.Rules.{rules}
use Rattle.std.specs.Prelude.{Result, Ok, Err}
use Rattle.refusal.specs.Answer.{value}
use Rattle.refusal.specs.declared.Refusal.{Refusal}
use Rattle.layout.specs.Line.{end_of_day, line, read}
use Rattle.layout.proofs.Demand2.{demand2}
use Rattle.table.specs.Tables.{sound}
use Rattle.book.specs.Promises.{Books}
use Rattle.book.proofs.Booked.{own_place, read_as, unread, end_beside, planned, unplanned}
use Rattle.book.proofs.Machine.{booked_sound}
use Rattle.book.proofs.store.book_sound.Goals as goal
use Rattle.book.proofs.store.book_sound.Goals.{In-Line, After-book_end, After-carry_out}

still_sound : {s piece after : List ℕ} {b : Result (Unit {0}) Refusal} → sound s ≡ true → Books s piece b after → sound after ≡ true
still_sound {s} {piece} e books = rw books.out (booked_sound s piece e)

said : (c : In-Line) → value (line c.in-Line.r) ≡ read c.args.piece.now
said c = rw c.in-Line.is at c.in_ok-read_in.ensures.said

ended : (c : After-book_end) → Books c.args.day.now.table.now c.args.piece.now c.book_end.result c.book_end.new.t
ended c = read_as _ _ c.args.day.now.sound end_of_day _ _ (rw c.in-EndOfDay.is at c.in_ok-read_in.ensures.said) c.book_end.ensures

carried : (c : After-carry_out) → Books c.args.day.now.table.now c.args.piece.now (Ok tt) c.carry_out.new.t
carried c =
    read_as _ _ c.args.day.now.sound (line c.in-Line.r) _ _ (rw c.in-Line.is at c.in_ok-read_in.ensures.said)
    (planned c.in_ok-plan-in-Line.ensures c.carry_out.ensures.t_after)

pub returns-in_err-read_in-clause-books : goal.returns-in_err-read_in-clause-books
returns-in_err-read_in-clause-books c =
    let same : c.from_residual.result ≡ Err c.in_err-read_in.field-0.0 = search rules in
    rw same (unread _ _ c.args.day.now.sound _ c.in_err-read_in.ensures.said)

pub invariant_of-day : goal.invariant_of-day
invariant_of-day c =
    record {
      sound = still_sound c.args.day.now.sound (ended (goal.at.invariant_of-day c).After-book_end);
      beside = end_beside c.book_end.ensures c.args.day.now.beside;
    }

pub plan-requires-clause-own_value : goal.plan-requires-clause-own_value
plan-requires-clause-own_value c =
    own_place c.args.piece.now c.in-Line.r _ _ (sym (said (goal.at.plan-requires-clause-own_value c).In-Line)) c.own-own.ensures

pub plan-requires-clause-lawful_record : goal.plan-requires-clause-lawful_record
plan-requires-clause-lawful_record c =
    (demand2.read_back c.args.piece.now c.in-Line.r (sym (said (goal.at.plan-requires-clause-lawful_record c).In-Line))).0

pub returns-in_err-plan-in-Line-clause-books : goal.returns-in_err-plan-in-Line-clause-books
returns-in_err-plan-in-Line-clause-books c =
    let same : c.from_residual-in_err-plan-in-Line.result ≡ Err c.in_err-plan-in-Line.field-0.0 = search rules in
    rw same
    (read_as _ _ c.args.day.now.sound (line c.in-Line.r) _ _ (said (goal.at.returns-in_err-plan-in-Line-clause-books c).In-Line)
    (unplanned c.in_err-plan-in-Line.ensures))

pub invariant_of-day-in-Line : goal.invariant_of-day-in-Line
invariant_of-day-in-Line c =
    record {
      sound = still_sound c.args.day.now.sound (carried (goal.at.invariant_of-day-in-Line c).After-carry_out);
      beside = c.carry_out.ensures.beside_2;
    }

pub returns-in-EndOfDay-clause-books : goal.returns-in-EndOfDay-clause-books
returns-in-EndOfDay-clause-books c = ended (goal.at.returns-in-EndOfDay-clause-books c).After-book_end

pub returns-in_ok-plan-in-Line-clause-books : goal.returns-in_ok-plan-in-Line-clause-books
returns-in_ok-plan-in-Line-clause-books c = carried (goal.at.returns-in_ok-plan-in-Line-clause-books c).After-carry_out
