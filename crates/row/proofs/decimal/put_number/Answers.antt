-- `row::decimal::put_number` meets its contract: filled to the width of its digits, a number has no fill.
use borrow.Author.Rules.{rules}
use Rattle.row.proofs.Puts.{number_put}
use Rattle.row.proofs.decimal.put_number.Goals as goal

pub returns : goal.returns
returns c =
    let digits = c.digits-width in
    number_put c.args.n digits.result (search rules) digits.ensures c.filled.ensures
