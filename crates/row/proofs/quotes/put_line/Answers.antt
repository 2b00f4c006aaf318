-- `row::quotes::put_line` meets its contract: behind the fills one more column, and an LF.
use Rattle.row.proofs.Puts.{line_put}
use Rattle.row.proofs.quotes.put_line.Goals as goal
use Rattle.row.proofs.quotes.put_line.Goals.{After-put_fills-end}

-- all of it has room, and numbers up to its end fit
pub returns : goal.returns
returns c =
    let fills = c.put_fills-end in let a = c.args in
    line_put a.id.now a.source.now a.out.now _ _ _ _ a.executed a.broken fills.result fills.ensures c.store.ensures c.store-2.ensures c.store-3.ensures
