-- `run::same` meets its contract.
use mathlib.Core.Path.{◌∙◌}
use borrow.Author.Rules.{rules}
use Rattle.run.proofs.Sameness.{same_whole}
use Rattle.run.proofs.same.Goals as goal

pub returns : goal.returns
returns c = c.same_at.ensures ∙ same_whole c.args.s.now c.args.other.now (search rules)
