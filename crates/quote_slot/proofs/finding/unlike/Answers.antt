-- `quote_slot::finding::unlike` meets its contract: rows are unlike where their quotes, as bytes, all differ.
use Rattle.std.proofs.Common.{arith}
use Rattle.quote_slot.proofs.Alike.{all_bytes, unlike_told}
use Rattle.quote_slot.proofs.finding.unlike.Goals as goal

pub returns : goal.returns
returns c =
    let s = c.args.t.now in
    let bytes = all_bytes s (λ i. omega (arith, c.type_inv.t i)) in
    unlike_told c.quotes-keys.ensures s c.args.n c.requires.n_in_bounds bytes c.distinct.ensures
