-- `saving::lay_entry` meets its contract.
use Prim.Native.Nat.{◌≤◌}
use native.Mathlib.Omega.{arith}
use lib.ListN.{length}
use Rattle.saving.specs.Saving.{entry_no}
use Rattle.saving.proofs.Bounds.{entry_room}
use Rattle.saving.proofs.Steps.{text_inside, text_laid}
use Rattle.saving.proofs.lay_entry.Goals as goal
use Rattle.saving.proofs.lay_entry.Goals.{Start}

-- the buffer has room for the entry
has_room : (c : Start) → length (entry_no c.args.t.now c.args.k) ≤ length c.args.buffer.now
has_room c = omega (arith, entry_room c.args.t.now c.requires.t_value c.args.k c.requires.k_bound, c.requires.in_bounds)

pub slice_bounds-store-end : goal.slice_bounds-store-end
slice_bounds-store-end c = text_inside c.put_entry-long.ensures (has_room (goal.at.slice_bounds-store-end c).Start)

pub returns : goal.returns
returns c =
    text_laid c.put_entry-long.ensures (has_room (goal.at.returns c).Start) c.store.ensures
