-- `slot::finding::find` meets its contract: the earliest record with the key is the place of its order.
use Rattle.slot.proofs.Keyed.{found_place}
use Rattle.slot.proofs.finding.find.Goals as goal

pub returns : goal.returns
returns c =
    found_place c.keys.ensures c.args.t.now c.args.n c.args.key.now c.requires.key_len c.scan.ensures
