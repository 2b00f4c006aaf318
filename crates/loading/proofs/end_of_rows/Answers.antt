-- `loading::end_of_rows` meets its contract: rows in scratch are unlike where those read are.
use mathlib.Core.Bool.{not}
use mathlib.Core.Path.{ap}
use Rattle.table.proofs.Answers.{upheld}
use Rattle.loading.proofs.Rows.{unlike_end}
use Rattle.loading.proofs.end_of_rows.Goals as goal

pub returns : goal.returns
returns c =
    unlike_end c.in_ok-end.ensures c.requires.n_bound
    (upheld _ _ c.unlike.ensures (ap not c.if-not-unlike.false))
