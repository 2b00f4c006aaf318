-- `line::fields::trade_fields` meets its contract.
use borrow.Author.Rules.{rules}
use Rattle.line.proofs.Groups.{trade_group}
use Rattle.line.proofs.fields.trade_fields.Goals as goal

pub returns-in_default-id : goal.returns-in_default-id
returns-in_default-id c = search (rules, trade_group c.args.s.now)

pub returns : goal.returns
returns c = search (rules, trade_group c.args.s.now)
