-- `reader::cutter::cut` meets its contract: the part of the text from the place to the piece's end.
use Rattle.std.proofs.Common.{ℕ, ◌+◌, length, sym, ap, ◌∙◌, arith}
use Rattle.reader.proofs.Standing.{piece_ahead, nothing_ahead, behind_inside, part_said, end_said, place_inside, place_at_end}
use Rattle.reader.proofs.cutter.cut.Goals as goal

pub slice_bounds-result-end : goal.slice_bounds-result-end
slice_bounds-result-end c =
    let a = c.args in
    let p = piece_ahead a.text.now a.at c.in-Some.end (sym c.next.ensures.said ∙ c.in-Some.is) in
    omega (arith, behind_inside a.text.now a.at (omega arith))

pub returns-in-Some : goal.returns-in-Some
returns-in-Some c =
    let t = c.args.text in
    let at = c.args.at in
    let p = piece_ahead t.now at c.in-Some.end (sym c.next.ensures.said ∙ c.in-Some.is) in
    record { said = part_said t.now at _ p.1; place = ap (λ (i : ℕ). (t.ref_ptr.0, i + t.ref_ptr.1)) (sym (place_inside t.now at p.0)) }

pub returns-in-None : goal.returns-in-None
returns-in-None c =
    let t = c.args.text in
    let at = c.args.at in
    let p = nothing_ahead t.now at (sym c.next.ensures.said ∙ c.in-None.is) in
    record { said = end_said t.now at (length t.now) p.0; place = ap (λ (i : ℕ). (t.ref_ptr.0, i + t.ref_ptr.1)) (sym (place_at_end t.now at p.0)) }
