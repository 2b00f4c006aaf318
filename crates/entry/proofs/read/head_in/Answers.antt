-- `entry::read::head_in` meets its contract.
use Rattle.entry.proofs.Heads.{head_said}
use Rattle.entry.proofs.read.head_in.Goals as goal

pub returns-in_err-series : goal.returns-in_err-series
returns-in_err-series c = rw (c.from_residual.ensures, head_said c.args.w c.args.b.now c.requires.b_len, ← c.in_err-series.ensures)

pub returns : goal.returns
returns c = rw (head_said c.args.w c.args.b.now c.requires.b_len, ← c.in_ok-series.ensures, c.key_in.ensures)
