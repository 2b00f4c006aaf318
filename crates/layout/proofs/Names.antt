-- Source and Token stand in a record as they stand in its line: 01, The line: 10, 11.
use Rattle.std.specs.Prelude.{Some}
use Rattle.std.specs.Bool.{then_some}
use Prim.Native.Nat.{ℕ}
use native.Mathlib.Omega.{arith}
use mathlib.Core.Path.{◌≡◌}
use mathlib.Core.Bool.{Bool, true, false}
use mathlib.Core.List.{List}
use lib.ListN.{length}
use Rattle.run.specs.Runs.{part}
use Rattle.refusal.specs.Answer.{value}
use Rattle.field.specs.Verbatim.{is_text}
use Rattle.message.specs.Rule.{run}
use Rattle.layout.specs.Line.{line, read}
use Rattle.layout.specs.declared.Record.{Record}
use Rattle.layout.proofs.Answers.{field_said, read_says}
use Rattle.layout.proofs.Lines.{line_length}

-- bytes that are kept are the value
kept : (t : Bool) (b v : List ℕ) → then_some t (run b) ≡ Some (run v) → b ≡ v
kept true b v e = cc
kept false b v e = cc

module _ (s : List ℕ) (r : Record) (e : read s ≡ value (line r)) where
  pub source_said : part s 30 6 ≡ r.source
  source_said = kept (is_text (part s 30 6)) (part s 30 6) r.source (field_said s r e 10 (omega arith) (omega arith))

  pub token_said : part s 36 20 ≡ r.token
  token_said = kept (is_text (part s 36 20)) (part s 36 20) r.token (field_said s r e 11 (omega arith) (omega arith))

  pub said_length : length s ≡ 140
  said_length = line_length s (read_says s e).0.shape
