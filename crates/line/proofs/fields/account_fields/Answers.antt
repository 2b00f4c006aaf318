-- `line::fields::account_fields` meets its contract.
use mathlib.Core.Path.{◌≡◌, ◌∙◌, ap}
use mathlib.Core.Bool.{Bool}
use lib.Dec.{lit<}
use borrow.Author.Rules.{rules}
use Rattle.run.specs.Runs.{part}
use Rattle.message.specs.Rule.{verbatim, text}
use Rattle.layout.specs.ByType.{bytes_on}
use Rattle.line.specs.Groups.{none_by, group}
use Rattle.line.proofs.Groups.{account_by, account_group}
use Rattle.line.proofs.Printable.{printable_field}
use Rattle.line.proofs.fields.account_fields.Goals as goal
use Rattle.line.proofs.fields.account_fields.Goals.{After-replaced}

pub text_in-requires : goal.text_in-requires
text_in-requires c = printable_field c.args.s.now 30 6 (lit< tt) c.requires.s_value

pub text_in-requires-2 : goal.text_in-requires-2
text_in-requires-2 c = printable_field c.args.s.now 36 20 (lit< tt) c.requires.s_value

-- the answers about the six fields say what the fields say
six : (c : After-replaced)
    → account_by c.text_or_blank_in.result c.digits_or_blank.result c.digits_or_blank-2.result c.text_in.result c.text_in-2.result c.replaced.result
    ≡ none_by (group 6 12 c.args.s.now)
six c =
    let s = c.args.s.now in
    account_group s c.text_or_blank_in.ensures c.digits_or_blank.ensures c.digits_or_blank-2.ensures c.text_in.ensures c.text_in-2.ensures
    (c.replaced.ensures ∙ ap (λ (t : Bool). bytes_on t (verbatim text) (part s 56 20)) c.is_replace.ensures)

pub returns-in_default-replaced : goal.returns-in_default-replaced
returns-in_default-replaced c = search (rules, six (goal.at.returns-in_default-replaced c).After-replaced)

pub returns : goal.returns
returns c = search (rules, six (goal.at.returns c).After-replaced)
