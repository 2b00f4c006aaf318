-- `sheet::kin::Orders::family_from` meets its contract: the first order that has no elder heads the next family.
use Rattle.sheet.specs.Walk.{elders_in}
use Rattle.sheet.proofs.Seeking.{length_elders_in}
use Rattle.sheet.proofs.Turning.{family_members, family_none, first_stands}
use Rattle.sheet.proofs.kin.Orders.family_from.Goals as goal

pub returns-in_err-root-clause-result_value : goal.returns-in_err-root-clause-result_value
returns-in_err-root-clause-result_value c =
    let a = c.args in
    let x = a.self.now in
    rw c.from_residual.ensures (family_none (elders_in x.n x.t.now) x.n (length_elders_in x.n x.t.now) a.family a.from c.in_err-root.ensures)

pub returns : goal.returns
returns c =
    let a = c.args in
    let x = a.self.now in
    let es = elders_in x.n x.t.now in
    let long = length_elders_in x.n x.t.now in
    let root = c.in_ok-root.ensures in
    record { result_value = family_members es x.n long a.family a.from root; stands_or_ends = first_stands es x.n long a.family a.from root c.requires.family_bound }
