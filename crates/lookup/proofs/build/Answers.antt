-- `lookup::build` meets its contract.
use Rattle.table.proofs.Sound.{header_there}
use Rattle.lookup.proofs.Beside.{build_needs}
use borrow.Author.Rules.{rules}
use Rattle.lookup.proofs.build.Goals as goal

pub count-requires : goal.count-requires
count-requires c = header_there c.args.t.now (search rules)

pub build-requires : goal.build-requires
build-requires c =
    build_needs c.args.t.now c.keys.ensures c.count.ensures _ _ c.requires.t_value c.requires.in_bounds c.requires.t_in_bounds
