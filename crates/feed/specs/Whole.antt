-- The whole program: over any division of a text into chunks, and any stops, what the steps write is what 01 says.
use Rattle.std.specs.Prelude.{ℕ, ◌^◌, ◌<◌, ◌≡◌, List, [], ◌++◌, length, drop}
use Rattle.table.specs.Tables.{limit_of}
use Rattle.book.specs.Bytes.{bytes_after}
use Rattle.piece.specs.Pieces.{pieces}
use Rattle.feed.specs.Printed.{printed}
use Rattle.feed.specs.Steps.{Between, between, used_of, text_in, kept_in, step_from, finished}

-- calls of the step, one after another, that use up a text and write `out`. Each is given as much of what is left of the text as one
-- likes, and as much room
pub data Calls : Between → List ℕ → Between → List ℕ → Type 0 where
  none : {x : Between} → Calls x [] x []
  call : {x y : Between} {out : List ℕ} (chunk rest : List ℕ) (room : ℕ)
      → Calls (kept_in (step_from room x chunk)) (drop (used_of (step_from room x chunk)) chunk ++ rest) y out
      → Calls x (chunk ++ rest) y (text_in (step_from room x chunk) ++ out)

-- the empty table in a lent buffer, whatever it held before
abbrev pub start : List ℕ → Between
start before = between [] 1 (bytes_after before [])

abbrev pub Whole : Type 0
Whole =
    (before text out : List ℕ) (y : Between) → 0 < limit_of (length before) → length (pieces text) < 2 ^ 64 → Calls (start before) text y out
    → out ++ finished y ≡ printed (limit_of (length before)) text
