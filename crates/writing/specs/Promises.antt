-- What writing a record promises: its answer in the paper's numbers, and each lent byte.
use Rattle.std.specs.Prelude.{ℕ, ◌≡◌, List, Result}
use Rattle.refusal.specs.Answer.{answer_of}
use Rattle.refusal.specs.declared.Refusal.{Refusal}
use Rattle.layout.specs.Line.{out_after}
use Rattle.layout.specs.Line.{write as write_line}
use Rattle.layout.specs.declared.Record.{Record}

-- `writing::write`: `after` is the lent buffer when it returns
pub record Write (r : Record) (before : List ℕ) (x : Result (Unit {0}) Refusal) (after : List ℕ) : Type 0 where
  pub said : answer_of x ≡ write_line r before
  pub out : after ≡ out_after (write_line r before) r before
