-- Over any division of a text into chunks, and any stops, what the steps write is what 01 says.
use Prim.Native.Nat.{ℕ}
use native.Mathlib.Omega.{arith}
use mathlib.Core.Path.{◌≡◌, refl, sym, ap, ◌∙◌}
use mathlib.Core.List.{List, [], ◌++◌, append_assoc}
use lib.ListN.{length}
use Rattle.day.specs.Tables.{Table}
use Rattle.table.specs.Tables.{limit_of}
use Rattle.table.proofs.Making.{empty_holds, empty_sound}
use Rattle.book.specs.Bytes.{bytes_after}
use Rattle.book.proofs.Lengths.{day_length}
use Rattle.piece.specs.Pieces.{pieces}
use Rattle.feed.specs.Printed.{printed_from}
use Rattle.feed.specs.Steps.{Between, text_in, step_from, finished}
use Rattle.feed.specs.Whole.{Calls, Whole}
use Rattle.feed.specs.Whole.Calls.{none, call}
use Rattle.feed.proofs.Numbering.{left_printed}
use Rattle.feed.proofs.Remaining.{Unbroken, left, one_call, at_end}

all_calls : {x y : Between} {text out : List ℕ} → Calls x text y out → Unbroken x → out ++ finished y ≡ left x text
all_calls (none {x}) u = sym (at_end x u)
all_calls (call {x} {y} {out} chunk rest room c) u =
    let g = one_call room x chunk u in
    let said = text_in (step_from room x chunk) in
    append_assoc said out (finished y) ∙ ap (λ q. said ++ q) (all_calls c g.unbroken) ∙ sym (g.says rest)

pub whole : Whole
whole before text out y meant few c =
    let limit = limit_of (length before) in
    let begun = bytes_after before [] in
    all_calls c refl ∙ left_printed limit 1 begun (pieces text) (ap limit_of (day_length before [])) (empty_sound before meant) (omega arith)
    ∙ ap (λ (t : Table). printed_from limit 1 t (pieces text)) (empty_holds before meant).says
