-- `table::flags::mark` meets its contract.
use borrow.Author.Rules.{rules}
use Rattle.table.proofs.Marking.{marks_set}
use Rattle.table.proofs.flags.mark.Goals as goal

pub returns : goal.returns
returns c = marks_set _ c.args.e (search rules)
