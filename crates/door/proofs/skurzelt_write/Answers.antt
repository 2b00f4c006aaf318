-- `door::skurzelt_write` meets its contract: room first, then the length, then the bytes without meaning with the rules before them, then crate
-- `writing` on the record that the bytes say.
use Rattle.std.proofs.Common.{sym, ◌∙◌}
use Rattle.image.proofs.Odd.{odd_field}
use Rattle.door.proofs.Writings.{no_record, odd_byte, written}
use Rattle.door.proofs.skurzelt_write.Goals as goal

pub returns-then-record-ne-RECORD : goal.returns-then-record-ne-RECORD
returns-then-record-ne-RECORD c =
    no_record c.args.«record».now c.args.line.now c.if-line-lt-LINE.false c.if-record-ne-RECORD.true c.code-then-record-ne-RECORD.ensures

pub first_field-requires-clause-le_odd : goal.first_field-requires-clause-le_odd
first_field-requires-clause-le_odd c = odd_field c.args.«record».now c.in-Some.odd (sym c.unmeant.ensures ∙ c.in-Some.is)

pub returns-in-Some : goal.returns-in-Some
returns-in-Some c =
    odd_byte c.args.«record».now c.args.line.now c.if-line-lt-LINE.false c.if-record-ne-RECORD.false (sym c.unmeant.ensures ∙ c.in-Some.is)
    c.first_field.ensures c.code-in-Some.ensures

pub returns-in-None : goal.returns-in-None
returns-in-None c =
    written c.args.«record».now c.args.line.now c.if-line-lt-LINE.false c.if-record-ne-RECORD.false (sym c.unmeant.ensures ∙ c.in-None.is)
    c.load.ensures c.write.ensures c.code_of.ensures
