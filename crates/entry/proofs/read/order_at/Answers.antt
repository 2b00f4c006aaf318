-- `entry::read::order_at` meets its contract: an entry is there, and what is made of it is sound.
use lib.ListN.{drop}
use Rattle.order.specs.Stored.{sound_order}
use Rattle.saved.specs.Entries.{order_from}
use Rattle.entry.proofs.Entries.{made_at}
use Rattle.entry.proofs.read.order_at.Goals as goal

pub returns-in_err-order_from : goal.returns-in_err-order_from
returns-in_err-order_from c =
    let a = c.args in
    rw
    (c.from_residual-in_err-order_from.ensures, made_at sound_order order_from 20 7 a.at (drop a.at a.s.now), ← c.in_ok-quote.ensures, ← c.in_err-order_from.ensures)

pub returns : goal.returns
returns c =
    let a = c.args in
    rw (made_at sound_order order_from 20 7 a.at (drop a.at a.s.now), ← c.in_ok-quote.ensures, ← c.in_ok-order_from.ensures)
