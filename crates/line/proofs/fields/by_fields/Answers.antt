-- `line::fields::by_fields` meets its contract.
use mathlib.Core.Path.{◌∙◌, ap}
use Rattle.std.specs.Prelude.{Ok}
use Rattle.std.proofs.lemmas.Result.{err_from_is_err_and}
use Rattle.layout.specs.declared.Record.{Record}
use Rattle.line.specs.declared.Said.TheVariants.{Line}
use Rattle.line.proofs.Groups.{line_said, line_refused}
use Rattle.line.proofs.fields.by_fields.Goals as goal

pub returns-in_err-n : goal.returns-in_err-n
returns-in_err-n c =
    let p = err_from_is_err_and c.from_residual.result c.from_residual.ensures.1 in
    rw (p.1, p.2) (line_refused c.args.s.now _ c.in_err-n.ensures)

pub returns : goal.returns
returns c = ap (λ (r : Record). Ok (Line r)) c.record_of.ensures ∙ line_said c.args.s.now _ c.in_ok-n.ensures
