-- `index::chain::Index::is_earliest` meets its contract: its key, which is lent, leads to the record exactly where no earlier one has it.
use Rattle.std.proofs.Common.{◌+◌, eqb, ap, ◌∙◌}
use Rattle.index.specs.Searches.{earliest}
use Rattle.index.proofs.Repeats.{own_earliest, place_alike}
use Rattle.index.proofs.chain.Index.is_earliest.Goals as goal

pub returns : goal.returns
returns c =
    let x = c.args.self.now in
    let i = c.args.i in
    c.eq.ensures
    ∙ place_alike c.find.result i
    ∙ ap (λ r. eqb r (i + 1)) (c.find.ensures ∙ ap (earliest x.keys x.t.now x.n) c.record.ensures)
    ∙ own_earliest x.keys x.t.now x.n i c.requires
