-- What the stores of a record's bytes and numbers leave, over plain lists.
use Prim.Native.Nat.{ℕ, ◌≤◌}
use native.Mathlib.Omega.{arith}
use mathlib.Core.Path.{◌≡◌, ap, ◌∙◌}
use mathlib.Core.Bool.{true}
use mathlib.Core.List.{List}
use lib.ListN.{length, take}
use lib.Seq.{sets, length-take-le}
use Rattle.refusal.specs.Answer.{value}
use Rattle.layout.specs.Line.{line, read}
use Rattle.layout.specs.declared.Record.{Record}
use Rattle.layout.proofs.Answers.{read_back}
use Rattle.layout.proofs.Demand2.{demand2}
use Rattle.layout.proofs.Lines.{line_length}
use Rattle.image.specs.Images.{numbers_set, image_of}
use Rattle.image.proofs.Cells.{cells, fitting, numbers_are_cells, cells_inside}

-- a piece that says a record is 140 bytes long
pub said_length : (p : List ℕ) (r : Record) → read p ≡ value (line r) → length p ≡ 140
said_length p r e = line_length p ((demand2.lawful_reads p).1 (r, e)).shape

pub image_stored : (p b : List ℕ) (r : Record) (c d : List ℕ) → read p ≡ value (line r) → 138 ≤ length b
    → c ≡ sets b 0 (take 138 p) → d ≡ numbers_set r c → d ≡ sets b 0 (image_of r)
unfolding image_of
image_stored p b r c d says room bytes numbers =
    let wide : length (take 138 p) ≡ 138 = length-take-le 138 p (omega (arith, said_length p r says)) in
    let fits : fitting (length (take 138 p)) (cells r) ≡ true = rw wide in
    numbers
    ∙ ap (numbers_set r) bytes
    ∙ numbers_are_cells r (sets b 0 (take 138 p))
    ∙ cells_inside (cells r) b (take 138 p) (rw wide room) fits
    ∙ rw (numbers_are_cells, (read_back p r says).1)
