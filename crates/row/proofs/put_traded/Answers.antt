-- `row::put_traded` meets its contract: three columns, each right behind the other.
use Rattle.row.specs.Texts.{column, decimal}
use Rattle.row.specs.Writes.{Put}
use Rattle.row.proofs.Puts.{then}
use Rattle.row.proofs.put_traded.Goals as goal

pub returns : goal.returns
returns c =
    let f = c.args.f in
    let size : Put (column (decimal f.size)) _ _ _ _ = c.put_column-size.ensures in
    let executed : Put (column (decimal f.executed)) _ _ _ _ = c.put_column-executed.ensures in
    let broken : Put (column (decimal f.broken)) _ _ _ _ = c.put_column.ensures in
    then (then size executed) broken
