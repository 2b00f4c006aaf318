-- `row::quotes::write` meets its contract: the line, from the parts of the table that are lent.
use Rattle.row.proofs.LentQuote.{line_room, line_wrote}
use Rattle.row.proofs.quotes.write.Goals as goal

pub put_line-requires : goal.put_line-requires
put_line-requires c =
    let a = c.args in
    let executed = c.get in
    let broken = c.get-2 in
    line_room a.t.now a.base a.i executed.result broken.result executed.ensures broken.ensures _ c.requires.i_in_bounds

pub returns : goal.returns
returns c =
    let line = c.put_line in
    let broken = c.get-2 in
    let executed = c.get in
    let a = c.args in
    line_wrote a.t.now a.base a.i executed.result broken.result executed.ensures broken.ensures _ _ _ line.ensures
