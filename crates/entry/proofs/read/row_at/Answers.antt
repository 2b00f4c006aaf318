-- `entry::read::row_at` meets its contract: an entry is there, and what is made of it is sound.
use lib.ListN.{drop}
use Rattle.quote.specs.Quotes.{sound_row}
use Rattle.saved.specs.Entries.{row_from}
use Rattle.entry.proofs.Entries.{made_at}
use Rattle.entry.proofs.read.row_at.Goals as goal

pub returns-in_err-row_from : goal.returns-in_err-row_from
returns-in_err-row_from c =
    let a = c.args in
    rw
    (c.from_residual-in_err-row_from.ensures, made_at sound_row row_from 16 2 a.at (drop a.at a.s.now), ← c.in_ok-quote.ensures, ← c.in_err-row_from.ensures)

pub returns : goal.returns
returns c =
    let a = c.args in
    rw (made_at sound_row row_from 16 2 a.at (drop a.at a.s.now), ← c.in_ok-quote.ensures, ← c.in_ok-row_from.ensures)
