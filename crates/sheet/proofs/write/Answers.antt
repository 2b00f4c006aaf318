-- `sheet::write` meets its contract: it asks for damage first.
use mathlib.Core.Bool.{not}
use mathlib.Core.Path.{ap}
use Rattle.table.proofs.Answers.{refuted, upheld}
use Rattle.sheet.proofs.Answering.{damaged}
use Rattle.sheet.proofs.write.Goals as goal

pub returns-then-not-is_sound : goal.returns-then-not-is_sound
returns-then-not-is_sound c =
    let a = c.args in
    damaged a.t.now a.out.now (refuted _ _ c.is_sound.ensures (ap not c.if-not-is_sound.true))

pub write_sound-requires : goal.write_sound-requires
write_sound-requires c = upheld _ _ c.is_sound.ensures (ap not c.if-not-is_sound.false)
