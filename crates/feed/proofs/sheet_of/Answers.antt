-- `feed::sheet_of` meets its contract: the sheet of a sound table has room in what its limit asks for, so it is not refused.
use Rattle.feed.proofs.Finishing.{never_refused, sheet_written}
use Rattle.feed.proofs.sheet_of.Goals as goal

pub unwrap-requires : goal.unwrap-requires
unwrap-requires c =
    let a = c.args in
    never_refused a.day.now.table.now a.out.now a.day.now.sound c.requires c.write_sound.result c.write_sound.ensures

pub returns : goal.returns
returns c =
    let a = c.args in
    sheet_written a.day.now.table.now a.out.now a.day.now.sound c.requires c.unwrap.ensures c.write_sound.ensures
