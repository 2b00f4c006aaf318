-- `field::digits::number` meets its contract.
use mathlib.Core.Path.{◌∙◌, ap}
use Rattle.field.specs.Number.{within}
use Rattle.field.proofs.digits.number.Goals as goal

pub returns : goal.returns
returns c = c.within.ensures ∙ ap (within _ _) c.spaced.ensures
