-- What a function that writes text into a lent buffer leaves there.
use Rattle.std.specs.Prelude.{ℕ, ◌+◌, ◌≡◌, List, length}
use Rattle.std.proofs.lemmas.List.Edits.{sets}

-- from a place on; r is the place behind the text
pub record Put (text : List ℕ) (at : ℕ) (before after : List ℕ) (r : ℕ) : Type 0 where
  pub end : r ≡ at + length text
  pub out : after ≡ sets before at text

-- from the front; r is the length of the text
pub record Wrote (text before after : List ℕ) (r : ℕ) : Type 0 where
  pub long : r ≡ length text
  pub out : after ≡ sets before 0 text
