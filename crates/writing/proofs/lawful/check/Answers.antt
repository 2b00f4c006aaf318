-- `writing::lawful::check` meets its contract.
use mathlib.Core.Path.{◌≡◌, ◌∙◌, sym}
use borrow.Author.Rules.{rules}
use Rattle.std.specs.Prelude.{Result}
use Rattle.refusal.specs.declared.Refusal.{Refusal}
use Rattle.layout.specs.Line.{unlawful}
use Rattle.layout.specs.declared.Record.{Record}
use Rattle.writing.specs.Writes.{check_of, check_group}
use Rattle.writing.proofs.Checks.{then_check, all_groups}
use Rattle.writing.proofs.lawful.check.Goals as goal

abbrev groups : Record → Result (Unit {0}) Refusal
groups r = then_check (check_group 0 6 r) (then_check (check_group 6 12 r) (then_check (check_group 12 17 r) (then_check (check_group 17 22 r) (check_group 22 24 r))))

by_groups : (r : Record) {x : Result (Unit {0}) Refusal} → x ≡ groups r → x ≡ check_of (unlawful r)
by_groups r e = e ∙ sym (all_groups r)

pub returns-in_err-event_fields : goal.returns-in_err-event_fields
returns-in_err-event_fields c = by_groups c.args.r (search rules)

pub returns-in_err-account_fields : goal.returns-in_err-account_fields
returns-in_err-account_fields c = by_groups c.args.r (search rules)

pub returns-in_err-order_fields : goal.returns-in_err-order_fields
returns-in_err-order_fields c = by_groups c.args.r (search rules)

pub returns-in_err-price_fields : goal.returns-in_err-price_fields
returns-in_err-price_fields c = by_groups c.args.r (search rules)

pub returns-in_err-trade_fields : goal.returns-in_err-trade_fields
returns-in_err-trade_fields c = by_groups c.args.r (search rules)

pub returns : goal.returns
returns c = by_groups c.args.r (search rules)
