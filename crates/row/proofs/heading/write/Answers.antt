-- `row::heading::write` meets its contract: words and numbers, each right behind the other, and an LF.
use mathlib.Core.List.{[], ◌∷◌}
use Rattle.row.specs.Texts.{orders_word, families_word}
use Rattle.row.proofs.Puts.{run_put, then, from_front}
use Rattle.row.proofs.heading.write.Goals as goal

pub returns : goal.returns
returns c =
    let first = run_put {before = c.args.out.now} {at = 0} orders_word c.store.ensures in
    let orders = c.put_number-mid in
    let second = run_put {at = orders.result} families_word c.store-2.ensures in
    let families = c.put_number-end in
    let third = run_put {at = families.result} (10 ∷ []) c.store-3.ensures in
    from_front (then (then (then (then first orders.ensures) second) families.ensures) third)
