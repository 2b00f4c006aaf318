-- `line::fields::event_fields` meets its contract.
use lib.Dec.{lit<}
use Rattle.line.proofs.Printable.{printable_field}
use Rattle.line.proofs.fields.event_fields.Goals as goal

pub text_in-requires : goal.text_in-requires
text_in-requires c = printable_field c.args.s.now 9 4 (lit< tt) c.requires.s_value
