-- `row::put_figures` meets its contract: three columns behind the first three.
use Rattle.row.specs.Texts.{column, decimal, traded_text}
use Rattle.row.specs.Writes.{Put}
use Rattle.row.proofs.Puts.{then}
use Rattle.row.proofs.put_figures.Goals as goal

pub returns : goal.returns
returns c =
    let f = c.args.f in
    let traded : Put (traded_text f) _ _ _ _ = c.put_traded-traded.ensures in
    let cancelled : Put (column (decimal f.cancelled)) _ _ _ _ = c.put_column-cancelled.ensures in
    let passed : Put (column (decimal f.passed)) _ _ _ _ = c.put_column-passed.ensures in
    let left : Put (column (decimal f.«open»)) _ _ _ _ = c.put_column.ensures in
    then (then (then traded cancelled) passed) left
