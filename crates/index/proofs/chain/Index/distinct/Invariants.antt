-- `index::chain::Index::distinct` meets its contract: what was said so far is whether the records passed have keys that all differ.
use Rattle.std.proofs.Common.{◌≡◌}
use Rattle.index.specs.Searches.{all_distinct}
use Rattle.index.proofs.chain.Index.distinct.Given as goal

abbrev pub invariant-loop-i : goal.invariant-loop-i
invariant-loop-i l = l.differ ≡ all_distinct l.self.keys l.self.t.now l.i
