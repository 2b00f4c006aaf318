-- `saving::save` meets its contract: a damaged table first, then the room, then the bytes.
use Rattle.std.proofs.Common.{sym, ◌∙◌}
use Rattle.saving.proofs.Answering.{damaged, no_room, done}
use Rattle.saving.proofs.save.Goals as goal

pub returns-then-not-is_sound : goal.returns-then-not-is_sound
returns-then-not-is_sound c = damaged c.args.t.now c.args.out.now (sym c.is_sound.ensures ∙ c.if-not-is_sound.true)

pub returns-then-not-fits : goal.returns-then-not-fits
returns-then-not-fits c =
    no_room c.args.t.now c.args.out.now (sym c.is_sound.ensures ∙ c.if-not-is_sound.false) (sym c.fits.ensures ∙ c.if-not-fits.true)

pub returns : goal.returns
returns c =
    done c.args.t.now c.args.out.now (sym c.is_sound.ensures ∙ c.if-not-is_sound.false) (sym c.fits.ensures ∙ c.if-not-fits.false) c.put_day.ensures
