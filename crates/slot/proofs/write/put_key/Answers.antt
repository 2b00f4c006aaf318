-- `slot::write::put_key` meets its contract.
use Rattle.std.proofs.Common.{rules, arith}
use Rattle.slot.proofs.Runs.{Stored, then}
use Rattle.slot.proofs.write.put_key.Goals as goal

pub returns : goal.returns
returns c =
    let k = c.args.k in
    let source : Stored _ _ 6 k.source _ = record { wide = search rules; stored = c.store.ensures } in
    let token : Stored _ _ 20 k.token _ = record { wide = search rules; stored = c.store-2.ensures } in
    (then source token (omega arith)).stored
