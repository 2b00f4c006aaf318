-- `lookup::find_key` meets its contract: the run that is asked for says the key.
use Prim.Native.Nat.{ℕ}
use mathlib.Core.Path.{◌≡◌, ap, ◌∙◌}
use borrow.Author.Rules.{rules}
use lib.ListN.{length, replicate, length-replicate}
use Rattle.order.specs.declared.Key.{Key}
use Rattle.day.specs.Machine.{place}
use Rattle.table.specs.Tables.{table_in}
use Rattle.slot.proofs.Keyed.{key_joined}
use Rattle.lookup.proofs.find_key.Goals as goal

pub returns : goal.returns
returns c =
    let k = c.args.k in
    let source : length k.source ≡ 6 = search rules in
    let token : length k.token ≡ 20 = search rules in
    c.find.ensures
    ∙ ap (λ (l : Key). place l (table_in c.args.t.now).orders) (key_joined (replicate 26 0) _ k (length-replicate {A = ℕ} 26 0) source token c.put_key.ensures)
