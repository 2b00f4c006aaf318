-- `groups::get_all` meets its contract: the numbers read so far are the first of the list.
use borrow.Author.Rules.{rules}
use Rattle.std.proofs.lemmas.List.{set-get_or}
use Rattle.groups.proofs.ReadingAll.{got_next, got_stop}
use Rattle.groups.proofs.get_all.Goals as goal

pub returns-in_err-value : goal.returns-in_err-value
returns-in_err-value c =
    rw (c.from_residual.ensures, set-get_or) (got_stop c.loop-v.invariant (search rules) c.in_err-value.ensures)

pub loop-v-preserved : goal.loop-v-preserved
loop-v-preserved c = got_next c.loop-v.invariant c.in_ok-value.value c.in_ok-value.next (search rules) c.in_ok-value.ensures
