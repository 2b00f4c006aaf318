-- The promise of `piece::next`, and what each case of its answer says in the paper's terms; the promise of `piece::cut`.
use Rattle.std.specs.Prelude.{ℕ, ◌+◌, ◌-◌, ◌≡◌, true, Option, Some, None, List, [], ◌∷◌, take, drop}
use Rattle.run.specs.Runs.{all}
use Rattle.field.specs.Byte.{is_of}
use Rattle.field.specs.declared.Class.TheVariants.{Printable}
use Rattle.piece.specs.Pieces.{pieces, piece_length, next_piece}
use Rattle.piece.specs.declared.Span.{Span}

-- what a text has from a place on: a piece, by its own bytes, or "nothing is left"
pub data Left : Type 0 where
  piece : (bytes : List ℕ) → Left
  nothing_left : Left

-- each case of the answer: the bytes from the place that was asked for up to the one that it names
abbrev pub left_by : List ℕ → ℕ → Option ℕ → Left
left_by s at (Some e) = piece (take (e - at) (drop at s))
left_by s at None = nothing_left

-- the first of the pieces
abbrev pub first_of : List (List ℕ) → Left
first_of [] = nothing_left
first_of (p ∷ ps) = piece p

pub record Nexts (text : List ℕ) (at : ℕ) (r : Option ℕ) : Type 0 where
  -- "At or past the end it answers that nothing is left."
  pub said : r ≡ next_piece text at
  -- it says the first of the pieces that the text has from the place on
  pub told : left_by text at r ≡ first_of (pieces (drop at text))

-- a text begins with a piece of a line's length, printable but for its last two bytes
pub record Plain (s : List ℕ) : Type 0 where
  pub long : piece_length s ≡ 140
  pub printable : all (is_of Printable) (take 138 s) ≡ true

pub record CutAt (text : List ℕ) (at : ℕ) (r : Span) : Type 0 where
  pub ends : r.end ≡ at + piece_length (drop at text)
  -- it may leave a plain piece unsaid
  pub plain : r.plain ≡ true → Plain (drop at text)
