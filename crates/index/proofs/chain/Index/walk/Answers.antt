-- `index::chain::Index::walk` meets its contract: what is found so far, and the records up to the one it stands at, give the answer.
use Rattle.std.proofs.Common.{◌<◌, true, false, length, arith, rules}
use Rattle.index.proofs.Tagging.{bucket_under}
use Rattle.index.proofs.Chains.{walk_first, walk_next, walk_falls}
use Rattle.index.proofs.chain.Index.walk.Goals as goal
use Rattle.index.proofs.chain.Index.walk.Goals.{Start, then-same, else-same}

-- the bucket is one of the index's
under : (c : Start) → c.args.b < length c.args.self.now.heads.now
under c = bucket_under _ _ _ c.args.self.now.indexed.some c.requires.b_value

pub offset_bounds-self-b : goal.offset_bounds-self-b
offset_bounds-self-b c = search (rules, under (goal.at.offset_bounds-self-b c).Start)

pub bounds-self-b : goal.bounds-self-b
bounds-self-b c = under (goal.at.bounds-self-b c).Start

pub loop-at-init : goal.loop-at-init
loop-at-init c =
    let x = c.args.self.now in
    walk_first x.keys x.t.now x.n x.heads.now x.nexts.now c.args.key.now x.indexed c.args.b c.requires.b_value (under (goal.at.loop-at-init c).Start)

pub loop-at-smaller : goal.loop-at-smaller
loop-at-smaller c =
    let x = c.args.self.now in
    walk_falls x.keys x.t.now x.n x.heads.now x.nexts.now c.args.key.now x.indexed c.args.b c.requires.b_value c.loop-at.invariant (omega arith)

pub loop-at-preserved : goal.loop-at-preserved
loop-at-preserved c =
    let x = c.args.self.now in
    let next = walk_next x.keys x.t.now x.n x.heads.now x.nexts.now c.args.key.now x.indexed c.args.b c.requires.b_value c.loop-at.invariant (omega arith) c.same.ensures in
    elim c.if-same.branch [ then-same w ↦ rw w.best-is (next true w.if-same.true) | else-same w ↦ rw w.best-is (next false w.if-same.false) ]
