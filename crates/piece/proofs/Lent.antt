-- The next piece of a text as a loop lends it: the part up to the place behind it.
use Prim.Native.Nat.{ℕ, ◌+◌, ◌-◌, ◌≤◌, ◌<◌}
use native.Mathlib.Omega.{arith}
use mathlib.Core.Path.{◌≡◌, sym, ap, ◌∙◌}
use mathlib.Core.Bool.{true}
use mathlib.Core.List.{List, ◌∷◌}
use lib.ListN.{length, get_or, take, drop, length-drop}
use lib.Seq.{length-take-le, take-take}
use Rattle.run.specs.Runs.{all}
use Rattle.run.proofs.Scan.{at_next}
use Rattle.field.specs.Byte.{is_of}
use Rattle.field.specs.declared.Class.TheVariants.{Printable}
use Rattle.piece.specs.Pieces.{pieces, piece_length}
use Rattle.piece.specs.Promises.{Plain}
use Rattle.piece.proofs.Firsts.{first_piece_at}
use Rattle.piece.proofs.Lengths.{piece_some, piece_inside}

abbrev pub part : List ℕ → ℕ → ℕ → List ℕ
part text at end = take (end - at) (drop at text)

module _ (text : List ℕ) (at end : ℕ) (more : at < length text) (e : end ≡ at + piece_length (drop at text)) where
  pub piece_bounds : (at < end) × (end ≤ length text)
  piece_bounds =
      let some : 1 ≤ piece_length (drop at text) = rw (at_next text at more) (piece_some (get_or text at 0) (drop (at + 1) text)) in
      (omega arith, omega (arith, piece_inside (drop at text), length-drop at text))

  pub part_long : at + length (part text at end) ≡ end
  part_long =
      let b = piece_bounds in
      ap (λ n. at + n) (length-take-le (end - at) (drop at text) (rw length-drop (omega arith))) ∙ omega arith

  pub next_piece : pieces (drop at text) ≡ part text at end ∷ pieces (drop end text)
  next_piece =
      let n : piece_length (drop at text) ≡ end - at = omega arith in
      first_piece_at text at more
      ∙ ap (λ k. take k (drop at text) ∷ pieces (drop (at + piece_length (drop at text)) text)) n
      ∙ ap (λ k. part text at end ∷ pieces (drop k text)) (sym e)

-- what is lent of a plain piece is printable but for its last two bytes
pub plain_lent : (text : List ℕ) (at end : ℕ) → end ≡ at + piece_length (drop at text) → Plain (drop at text)
    → all (is_of Printable) (take 138 (part text at end)) ≡ true
plain_lent text at end e p =
    let n : end - at ≡ 140 = omega (arith, p.long) in
    let few : 138 ≤ 140 = omega arith in
    rw (n, take-take) p.printable
