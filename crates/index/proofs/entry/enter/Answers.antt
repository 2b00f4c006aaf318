-- `index::entry::enter` meets its contract: the record is linked into the bucket of its key, which is lent.
use Rattle.std.proofs.Common.{◌≡◌, length, ap, ◌∙◌}
use Rattle.index.specs.Tags.{bucket_of}
use Rattle.index.specs.Indexes.{bucket_in}
use Rattle.index.proofs.Tagging.{bucket_under}
use Rattle.index.proofs.Entering.{entered}
use Rattle.index.proofs.entry.enter.Goals as goal
use Rattle.index.proofs.entry.enter.Goals.{After-bucket-b}

-- the bucket is that of record n
own : (c : After-bucket-b) → c.bucket-b.result ≡ bucket_in c.args.keys c.args.t.now (length c.args.heads.now) c.args.n
own c = c.bucket-b.ensures ∙ ap (bucket_of (length c.args.heads.now)) c.record.ensures

pub link-requires-clause-b_in_bounds : goal.link-requires-clause-b_in_bounds
link-requires-clause-b_in_bounds c = bucket_under _ _ _ c.requires.indexed.some (own (goal.at.link-requires-clause-b_in_bounds c).After-bucket-b)

pub returns : goal.returns
returns c =
    let x = c.requires in let linked = c.link.ensures in
    entered x.indexed x.enters (own (goal.at.returns c).After-bucket-b) linked.heads_after linked.nexts_after
