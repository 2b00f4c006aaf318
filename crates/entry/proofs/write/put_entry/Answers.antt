-- `entry::write::put_entry` meets its contract.
use native.Mathlib.Omega.{arith}
use borrow.Author.Rules.{rules}
use Rattle.entry.proofs.Stores.{entry_put, numbers_upto}
use Rattle.entry.proofs.write.put_entry.Goals as goal

pub put_all-requires : goal.put_all-requires
put_all-requires c = omega (arith, numbers_upto c.args.numbers.now)

pub returns : goal.returns
returns c =
    let a = c.args in
    entry_put a.w a.q (search rules) (search rules) a.numbers.now a.out.now c.put_head.ensures c.put_all.ensures
