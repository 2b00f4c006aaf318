-- `entry::read::head_at` meets its contract.
use mathlib.Core.Path.{ap, ◌∙◌}
use borrow.Author.Rules.{rules}
use Rattle.entry.specs.Reads.{found}
use Rattle.entry.proofs.Heads.{head_there}
use Rattle.entry.proofs.read.head_at.Goals as goal

pub returns : goal.returns
returns c = let a = c.args in c.head_in.ensures ∙ ap found (head_there a.w a.at a.s.now (search rules))
