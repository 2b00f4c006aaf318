-- `index::chain::Index::find_in` meets its contract: the walk and the scan have the same promise.
use Rattle.std.proofs.Common.{◌<◌, length, rules}
use Rattle.index.proofs.Tagging.{bucket_under}
use Rattle.index.proofs.Chains.{chain_falls}
use Rattle.index.proofs.chain.Index.find_in.Goals as goal
use Rattle.index.proofs.chain.Index.find_in.Goals.{Start}

-- the bucket is one of the index's
under : (c : Start) → c.args.b < length c.args.self.now.heads.now
under c = bucket_under _ _ _ c.args.self.now.indexed.some c.requires.b_value

pub offset_bounds-self-b : goal.offset_bounds-self-b
offset_bounds-self-b c = search (rules, under (goal.at.offset_bounds-self-b c).Start)

pub bounds-self-b : goal.bounds-self-b
bounds-self-b c = under (goal.at.bounds-self-b c).Start

pub is_long-requires : goal.is_long-requires
is_long-requires c = chain_falls c.args.self.now.indexed c.args.b (under (goal.at.is_long-requires c).Start)
