-- 01, The line: "A reader stands over lent text and knows its next place".
use Rattle.std.specs.Prelude.{ℕ, ◌≡◌, Option, Some, None, List, [], ◌∷◌, drop}
use Rattle.std.specs.Borrow.{Bor}
use Rattle.piece.specs.Cuts.{Cuts}
use Rattle.piece.specs.Pieces.{pieces, next_piece}
use Rattle.reader.specs.Starting.{piece_from, place_behind}
use Rattle.reader.specs.declared.Reader.{Reader}

-- a reader over a text, before its first piece
abbrev pub over_text : Bor (List ℕ) → Reader
over_text t = record { text = t; at = 0 }

-- "At or past the end it answers that nothing is left."
abbrev pub ahead : Reader → Option ℕ
ahead r = next_piece r.text.now r.at

-- the next piece, none where nothing is left
abbrev pub piece : Reader → List ℕ
piece r = piece_from r.text.now r.at

-- the reader past it
abbrev pub past_piece : Reader → Reader
past_piece r = record { text = r.text; at = place_behind r.text.now r.at }

-- the pieces that are left
abbrev pub pieces_left : Reader → List (List ℕ)
pieces_left r = pieces (drop r.at r.text.now)

-- what a reader gives, one piece after the other, until it answers that nothing is left
pub data Gives : Reader → List (List ℕ) → Type 0 where
  no_more : {r : Reader} → ahead r ≡ None → Gives r []
  one_more : {r : Reader} {e : ℕ} {ps : List (List ℕ)} → ahead r ≡ Some e → Gives (past_piece r) ps → Gives r (piece r ∷ ps)

-- "a piece runs up to and including the next LF, or to the end of the text": what a reader over a text gives are the pieces of the text, and no others;
-- joined they are the text, none is empty, and each but the last ends in LF
pub record ReadsAll (t : Bor (List ℕ)) : Type 0 where
  pub gives : Gives (over_text t) (pieces t.now)
  pub only : (ps : List (List ℕ)) → Gives (over_text t) ps → ps ≡ pieces t.now
  pub cut : (ps : List (List ℕ)) → Gives (over_text t) ps → Cuts t.now ps
