-- `entry::read::key_in` meets its contract.
use Rattle.entry.proofs.Heads.{key_made}
use Rattle.entry.proofs.read.key_in.Goals as goal

pub returns : goal.returns
returns c =
    key_made c.args.w c.args.b.now _ _ c.requires.w_bound c.requires.w_in_bounds c.array.ensures c.store.ensures
