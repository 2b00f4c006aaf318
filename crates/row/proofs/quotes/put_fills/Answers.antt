-- `row::quotes::put_fills` meets its contract: the word, the id and two columns, each right behind the other.
use Rattle.row.specs.Texts.{column, decimal, quote_word}
use Rattle.row.specs.Writes.{Put}
use Rattle.row.proofs.Puts.{run_put, then}
use Rattle.row.proofs.quotes.put_fills.Goals as goal

pub returns : goal.returns
returns c =
    let a = c.args in
    let word = run_put {before = a.out.now} {at = 0} quote_word c.store.ensures in
    let id = run_put {at = 6} a.id.now c.store-2.ensures in
    let executed : Put (column (decimal a.executed)) _ _ _ _ = c.put_column-end.ensures in
    let broken : Put (column (decimal a.broken)) _ _ _ _ = c.put_column.ensures in
    then (then (then word id) executed) broken
