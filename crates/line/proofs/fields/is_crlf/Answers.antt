-- `line::fields::is_crlf` meets its contract.
use borrow.Author.Tests.{ne_eqb}
use Rattle.line.proofs.Readings.{not_two}
use Rattle.line.proofs.fields.is_crlf.Goals as goal

pub returns-else-s-eq2 : goal.returns-else-s-eq2
returns-else-s-eq2 c = rw (ne_eqb _ 2 c.if-s-eq2.false) (not_two c.args.s.now c.if-s-eq2.false)
