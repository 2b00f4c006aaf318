-- `drop_sheet::run` meets its contract: from the empty table, over what is read, to the end.
use mathlib.Core.Path.{◌∙◌}
use Rattle.sheet_run.proofs.Leading.{begun_long, room_kept, all_printed}
use Rattle.drop_sheet.proofs.run.Goals as goal

pub returns : goal.returns
returns g c =
    let reads = rw c.at-hold.ensures at c.in_ok-read_all.ensures.reads in
    let begun = c.read_all.ensures.long ∙ begun_long c.args.t.now c.begin-day.ensures.t_after in
    let room = room_kept begun c.read_all.auto.out c.requires.t_in_bounds in
    all_printed c.args.t.now c.begin-day.ensures.t_after reads c.end.ensures.ends room
