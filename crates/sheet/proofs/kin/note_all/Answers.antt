-- `sheet::kin::note_all` meets its contract: what is noted of the first i orders is what is to be noted of that many.
use native.Mathlib.Omega.{arith}
use mathlib.Core.Path.{refl}
use Rattle.sheet.proofs.Noting.{kin_all, kin_more, kin_none}
use Rattle.sheet.proofs.kin.note_all.Goals as goal

pub loop-i-init : goal.loop-i-init
loop-i-init c = (refl, kin_none (omega arith))

pub note-requires : goal.note-requires
note-requires c =
    record { i_in_bounds = omega arith; i_bound = omega arith }

pub loop-i-preserved : goal.loop-i-preserved
loop-i-preserved c =
    let v = c.loop-i.invariant in
    let w = c.note.ensures in
    (omega (arith, w.long), kin_more v.1 (omega arith) (omega arith) c.elder_at.ensures w)

pub shape_of-kin : goal.shape_of-kin
shape_of-kin c = c.loop-i.invariant.0

pub returns : goal.returns
returns c = kin_all c.loop-i.invariant.1 (omega arith)
