-- `entry::write::put_head` meets its contract.
use native.Mathlib.Nat.{sub-zero}
use mathlib.Core.Path.{◌∙◌}
use borrow.Author.Rules.{rules}
use Rattle.entry.proofs.Stores.{head_stored}
use Rattle.entry.proofs.write.put_head.Goals as goal

pub returns : goal.returns
returns c =
    let a = c.args in
    head_stored a.w a.q (search rules) (search rules) a.out.now c.store.ensures (c.store-2.ensures ∙ rw sub-zero) c.byte.ensures c.put_series.ensures
