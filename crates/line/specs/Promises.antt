-- What each public entry of this crate promises: its answer in the paper's numbers and values.
use Rattle.std.specs.Prelude.{ℕ, ◌≡◌, List, Result}
use Rattle.refusal.specs.Answer.{answer_of, answer_by}
use Rattle.refusal.specs.declared.Refusal.{Refusal}
use Rattle.layout.specs.Clocks.{clock}
use Rattle.layout.specs.Line.{line, end_of_day}
use Rattle.layout.specs.Line.{Said as Line-Said, read as read_line}
use Rattle.layout.specs.Strikes.{strike_value, strike_form}
use Rattle.layout.specs.declared.Clock.{Clock}
use Rattle.layout.specs.declared.Strike.{Strike}
use Rattle.line.specs.declared.Said.{Said}
use Rattle.line.specs.declared.Said.TheVariants.{EndOfDay, Line}

-- what code says of a piece, in the paper's terms
abbrev pub said_of : Said → Line-Said
said_of EndOfDay = end_of_day
said_of (Line r) = line r

-- `line::read`
pub record Read (s : List ℕ) (x : Result Said Refusal) : Type 0 where
  pub said : answer_by said_of x ≡ read_line s

-- `line::strike_value`: hundred-thousandths of a dollar
pub record StrikeValued (d n : ℕ) (x : Result ℕ Refusal) : Type 0 where
  pub said : answer_of x ≡ strike_value d n

-- `line::strike_form`
pub record StrikeFormed (v : ℕ) (x : Result Strike Refusal) : Type 0 where
  pub said : answer_of x ≡ strike_form v

-- `line::clock`
pub record Clocked (ms : ℕ) (x : Result Clock Refusal) : Type 0 where
  pub said : answer_of x ≡ clock ms
