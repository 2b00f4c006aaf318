-- `run::store` meets its contract: what is stored, and what is left to store, give the same end.
use mathlib.Core.Path.{refl, sym, ◌∙◌}
use native.Mathlib.Nat.{add-zero}
use borrow.Author.Rules.{rules}
use lib.ListN.{length-set}
use Rattle.run.proofs.Stores.{store_next, store_end}
use Rattle.run.proofs.store.Goals as goal

pub loop-i-init : goal.loop-i-init
loop-i-init c = (refl, rw add-zero)

pub loop-i-preserved : goal.loop-i-preserved
loop-i-preserved c =
    let l = c.loop-i in
    let a = c.args in
    (simp length-set l.invariant.0, store_next l.out a.s.now a.at l.i (search rules) ∙ l.invariant.1)

pub returns : goal.returns
returns c = let l = c.loop-i in let a = c.args in sym (store_end l.out a.s.now a.at l.i (search rules)) ∙ l.invariant.1
