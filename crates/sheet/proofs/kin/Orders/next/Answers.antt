-- `sheet::kin::Orders::next` meets its contract: the members behind a member begin with the younger order that is noted, else with the next family.
use mathlib.Core.Path.{◌∙◌}
use Rattle.sheet.specs.Walk.{elders_in}
use Rattle.sheet.proofs.Seeking.{length_elders_in}
use Rattle.sheet.proofs.Turning.{last_members, younger_members, younger_stands}
use Rattle.sheet.proofs.kin.Orders.next.Goals as goal

pub returns-in-Some : goal.returns-in-Some
returns-in-Some c =
    let o = c.args.self.now in
    let es = elders_in o.n o.t.now in
    let long = length_elders_in o.n o.t.now in
    let y = c.in-Some.ensures in
    record { result_value = rw c.below.ensures (younger_members es o.n long c.args.x y); stands_or_ends = rw c.below.ensures (younger_stands es o.n long c.args.x y c.requires) }

pub returns-in-None-clause-result_value : goal.returns-in-None-clause-result_value
returns-in-None-clause-result_value c =
    let o = c.args.self.now in
    c.family_from.ensures.result_value ∙ last_members (elders_in o.n o.t.now) o.n (length_elders_in o.n o.t.now) c.args.x c.in-None.ensures
