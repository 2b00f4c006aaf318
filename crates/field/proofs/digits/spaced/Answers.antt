-- `field::digits::spaced` meets its contract.
use mathlib.Core.Path.{◌∙◌, sym}
use borrow.Author.Rules.{rules}
use Rattle.field.proofs.Returns.{spaces_only, zero_alone, led_by_zero, led_by_digit}
use Rattle.field.proofs.digits.spaced.Goals as goal

pub returns-in_err-at : goal.returns-in_err-at
returns-in_err-at c = c.from_residual.ensures ∙ sym (spaces_only c.args.s.now (sym c.in_err-at.ensures))

pub returns-then-at-s : goal.returns-then-at-s
returns-then-at-s c = zero_alone _ _ (sym c.in_ok-at.ensures) c.if-s-at-eq48.true c.if-at-s.true

pub returns-else-at-s : goal.returns-else-at-s
returns-else-at-s c = led_by_zero _ _ (sym c.in_ok-at.ensures) (search rules) c.if-s-at-eq48.true c.if-at-s.false

pub returns-else-at-eq0 : goal.returns-else-at-eq0
returns-else-at-eq0 c = c.digits_only-else-at-eq0.ensures ∙ led_by_digit _ _ (sym c.in_ok-at.ensures) c.if-s-at-eq48.false
