-- `table::damage::is_sound` meets its contract.
use mathlib.Core.Path.{sym, ap₂, ◌∙◌, ap}
use mathlib.Core.Bool.{◌&&◌, not}
use native.Mathlib.Omega.{arith}
use lib.ListN.{length}
use Rattle.table.proofs.Answers.{refuted, upheld, no_limit, too_many, bad_header, good_header}
use Rattle.table.proofs.Limits.{slot_inside}
use Rattle.table.proofs.damage.is_sound.Goals as goal

pub returns-then-most-eq0 : goal.returns-then-most-eq0
returns-then-most-eq0 c = no_limit c.args.t.now (sym c.limit-most.ensures ∙ c.if-most-eq0.true)

pub count-n-requires : goal.count-n-requires
count-n-requires c = let s = c.args.t.now in omega (arith, slot_inside (length s) 0 (omega arith))

pub returns-then-most-n : goal.returns-then-most-n
returns-then-most-n c = too_many c.args.t.now (omega arith)

pub sound_header-requires : goal.sound_header-requires
sound_header-requires c = let s = c.args.t.now in omega (arith, slot_inside (length s) 0 (omega arith))

pub returns-then-not-sound_header : goal.returns-then-not-sound_header
returns-then-not-sound_header c = bad_header c.args.t.now (refuted _ _ c.sound_header.ensures (ap not c.if-not-sound_header.true))

pub returns : goal.returns
returns c =
    ap₂ ◌&&◌ c.sound_slots.ensures c.sound_rows.ensures
    ∙ good_header c.args.t.now (omega arith) (omega arith) (upheld _ _ c.sound_header.ensures (ap not c.if-not-sound_header.false))
