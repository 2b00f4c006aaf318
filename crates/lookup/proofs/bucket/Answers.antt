-- `lookup::bucket` meets its contract: without heads there is nothing to say.
use Rattle.std.proofs.Common.{length, ap, ◌∙◌}
use Rattle.index.specs.Tags.{bucket_of}
use Rattle.slot.proofs.Keyed.{key_whole}
use Rattle.lookup.proofs.bucket.Goals as goal

pub returns : goal.returns
returns c =
    λ h. c.bucket.ensures ∙ ap (bucket_of (length c.args.heads.now)) (key_whole c.args.key.now c.requires)
