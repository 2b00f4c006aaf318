-- `loading::front_of` meets its contract: what the code tests is whether the front is lawful.
use mathlib.Core.Path.{◌≡◌}
use mathlib.Core.Bool.{true, false}
use Rattle.quote.specs.Quotes.{most_rows}
use Rattle.saved.specs.Days.{front_lawful}
use Rattle.loading.proofs.front_of.Goals as goal

pub returns-then-form-mark : goal.returns-then-form-mark
unfolding most_rows
returns-then-form-mark c =
    let lawful : front_lawful 512 c.args.values ≡ true = c.if-form-mark.true in
    rw lawful

pub returns-else-form-mark : goal.returns-else-form-mark
unfolding most_rows
returns-else-form-mark c =
    let unlawful : front_lawful 512 c.args.values ≡ false = c.if-form-mark.false in
    rw unlawful
