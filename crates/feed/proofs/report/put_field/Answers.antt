-- `feed::report::put_field` meets its contract: only a 3 has a field.
use native.Mathlib.Omega.{arith}
use borrow.Author.Rules.{rules}
use Rattle.row.proofs.Decimals.{decimal_length}
use Rattle.feed.proofs.Reporting.{other_put, field_put}
use Rattle.feed.proofs.report.put_field.Goals as goal

pub returns-in_default : goal.returns-in_default
returns-in_default c =
    let a = c.args in
    other_put a.x a.at a.out.now c.in_default.not-Field

pub put_number-requires : goal.put_number-requires
put_number-requires c = omega (arith, decimal_length c.in-Field.f 3 (omega arith) (search rules))

pub returns : goal.returns
returns c =
    let a = c.args in
    field_put a.x c.in-Field.f a.at a.out.now _ _ _ c.in-Field.is c.store.ensures c.put_number.ensures
