-- 01, The line: "A reader stands over lent text": the piece handed over is a part of that text, and no copy.
use Rattle.std.specs.Prelude.{ℕ, ◌+◌, ◌≡◌, List}
use Rattle.std.specs.Borrow.{Bor}
use Rattle.reader.specs.Starting.{piece_from, place_in}

-- p is the piece of the lent text that starts at a place
pub record VeryBytes (text : Bor (List ℕ)) (at : ℕ) (p : Bor (List ℕ)) : Type 0 where
  pub said : p.now ≡ piece_from text.now at
  pub place : p.ref_ptr ≡ (text.ref_ptr.0, place_in text.now at + text.ref_ptr.1)
