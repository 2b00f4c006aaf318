-- `index::chain::Index::walk` meets its contract: what is found so far, and the records up to the one it stands at, give the answer.
use Rattle.index.proofs.Chains.{Walked}
use Rattle.index.proofs.chain.Index.walk.Given as goal

abbrev pub invariant-loop-at : goal.invariant-loop-at
invariant-loop-at l = Walked l.self.keys l.self.t.now l.self.n l.self.heads.now l.self.nexts.now l.key l.best l.at

abbrev pub decreases-loop-at : goal.decreases-loop-at
decreases-loop-at l = l.at
