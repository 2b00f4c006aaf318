-- `piece::fields_printable` meets its contract.
use Rattle.piece.proofs.Begun.{overlapped}
use Rattle.piece.proofs.fields_printable.Goals as goal

pub returns : goal.returns
returns c =
    let a = c.args in
    overlapped a.text.now a.at _ _ c.all_of.ensures c.all_of-2.ensures
