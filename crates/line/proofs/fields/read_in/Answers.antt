-- `line::fields::read_in` meets its contract.
use Rattle.line.proofs.Readings.{end_of_day, other_length, other_end, odd_byte, by_fields}
use Rattle.line.proofs.fields.read_in.Goals as goal

pub returns-then-is_crlf : goal.returns-then-is_crlf
returns-then-is_crlf c = end_of_day c.args.piece.now _ c.is_crlf.ensures c.if-is_crlf.true

pub returns-then-piece-ne-LINE : goal.returns-then-piece-ne-LINE
returns-then-piece-ne-LINE c = other_length c.args.piece.now _ c.is_crlf.ensures c.if-is_crlf.false c.if-piece-ne-LINE.true

pub returns-then-not-is_crlf : goal.returns-then-not-is_crlf
returns-then-not-is_crlf c = other_end c.args.piece.now _ c.is_crlf.ensures c.if-is_crlf.false c.if-piece-ne-LINE.false _ c.is_crlf-2.ensures c.if-not-is_crlf.true

pub returns-then-not-is_printable : goal.returns-then-not-is_printable
returns-then-not-is_printable c =
    odd_byte c.args.piece.now _ c.is_crlf.ensures c.if-is_crlf.false c.if-piece-ne-LINE.false
    _ c.is_crlf-2.ensures c.if-not-is_crlf.false _ c.is_printable.ensures c.if-not-is_printable.true

pub returns : goal.returns
returns c =
    by_fields c.args.piece.now _ c.is_crlf.ensures c.if-is_crlf.false c.if-piece-ne-LINE.false
    _ c.is_crlf-2.ensures c.if-not-is_crlf.false _ c.is_printable.ensures _ c.if-not-is_printable.false c.by_fields.ensures
