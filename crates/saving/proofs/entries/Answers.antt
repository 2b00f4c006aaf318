-- `saving::entries` meets its contract.
use native.Mathlib.Omega.{arith}
use lib.ListN.{length}
use Rattle.quote.proofs.Named.{row_number}
use Rattle.table.proofs.Limits.{limit_small}
use Rattle.table.proofs.Sound.{sound_apart}
use Rattle.saving.proofs.entries.Goals as goal

pub overflow_add-result : goal.overflow_add-result
overflow_add-result c =
    let s = c.args.t.now in
    let bytes = (sound_apart s c.requires).bytes in
    omega (arith, bytes.few, limit_small (length s), bytes.few_rows, row_number)
