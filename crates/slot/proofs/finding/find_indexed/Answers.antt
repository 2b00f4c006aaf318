-- `slot::finding::find_indexed` meets its contract: the earliest record with the key is the place of its order.
use mathlib.Core.Path.{sym, ap, ◌∙◌}
use Rattle.index.specs.Tags.{bucket_of}
use Rattle.slot.proofs.Keyed.{key_whole, found_place}
use Rattle.slot.proofs.finding.find_indexed.Goals as goal

pub find_in-requires-clause-b_value : goal.find_in-requires-clause-b_value
find_in-requires-clause-b_value c = c.requires.b_value ∙ sym (ap (bucket_of _) (key_whole c.args.key.now c.requires.key_len))

pub returns : goal.returns
returns c =
    found_place c.keys.ensures c.args.t.now c.args.n c.args.key.now c.requires.key_len c.find_in.ensures
