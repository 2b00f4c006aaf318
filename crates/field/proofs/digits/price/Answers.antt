-- `field::digits::price` meets its contract: what the two parts of nineteen bytes at the most can say.
use mathlib.Core.Path.{sym}
use native.Mathlib.Omega.{arith}
use Rattle.field.proofs.Returns.{spaced_below, digits_below}
use Rattle.field.proofs.digits.price.Goals as goal

pub overflow_mul-result : goal.overflow_mul-result
overflow_mul-result c =
    let a = c.in_ok-checked_sub.ensures in
    let b = c.in_ok-dollars.ensures.cases in
    omega (arith, spaced_below c.in_ok-dollars.dollars.now c.in_ok-spaced.field-0 15 (omega arith) (sym c.in_ok-spaced.ensures))

pub overflow_add-result : goal.overflow_add-result
overflow_add-result c =
    let a = c.in_ok-checked_sub.ensures in
    let b = c.in_ok-dollars.ensures.cases in
    let dollars = spaced_below c.in_ok-dollars.dollars.now c.in_ok-spaced.field-0 15 (omega arith) (sym c.in_ok-spaced.ensures) in
    let rest = digits_below c.in_ok-dollars.rest.now c.in_ok-digits_only.field-0 4 (omega arith) (sym c.in_ok-digits_only.ensures) in
    omega arith
