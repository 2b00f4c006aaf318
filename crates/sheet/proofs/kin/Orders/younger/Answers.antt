-- `sheet::kin::Orders::younger` meets its contract: it reads what is noted.
use mathlib.Core.Path.{sym, ◌∙◌}
use borrow.Author.Rules.{rules}
use Rattle.sheet.specs.Walk.{elders_in}
use Rattle.sheet.proofs.Turning.{none_noted, younger_noted}
use Rattle.sheet.proofs.kin.Orders.younger.Goals as goal

pub returns-in-0 : goal.returns-in-0
returns-in-0 c =
    let x = c.args.self.now in
    none_noted (elders_in x.n x.t.now) c.args.i (sym c.in-0.is ∙ x.noted.each c.args.i c.requires)

pub returns-in_default : goal.returns-in_default
returns-in_default c =
    let x = c.args.self.now in
    younger_noted (elders_in x.n x.t.now) c.args.i (x.noted.each c.args.i c.requires) (search rules)
