-- `piece::end_by_bytes` meets its contract: the piece ends behind the first LF, or with the text.
use Rattle.std.proofs.Common.{sym, ◌∙◌, arith}
use Rattle.piece.proofs.Lengths.{lf_found, no_lf}
use Rattle.piece.proofs.end_by_bytes.Goals as goal

pub returns-in-Some : goal.returns-in-Some
returns-in-Some c =
    omega (arith, lf_found c.args.text.now c.args.at c.requires c.in-Some.i (sym c.first_lf.ensures.first ∙ c.in-Some.is))

pub returns-in-None : goal.returns-in-None
returns-in-None c = no_lf c.args.text.now c.args.at c.requires (sym c.first_lf.ensures.first ∙ c.in-None.is)
