-- Two answers that a promise allows are equal.
use Prim.Native.Nat.{ℕ}
use mathlib.Core.Path.{◌≡◌, sym, ◌∙◌}
use mathlib.Core.List.{List}
use Rattle.std.specs.Prelude.{Result}
use Rattle.refusal.specs.declared.Refusal.{Refusal}
use Rattle.layout.specs.declared.Clock.{Clock}
use Rattle.layout.specs.declared.Strike.{Strike}
use Rattle.layout.proofs.OneAnswer.{one_answer, one_answer_by}
use Rattle.line.specs.Promises.{said_of, Read, StrikeValued, StrikeFormed, Clocked}
use Rattle.line.specs.declared.Said.{Said}
use Rattle.line.specs.declared.Said.TheVariants.{EndOfDay, Line}

one_said : (x y : Said) → said_of x ≡ said_of y → x ≡ y
one_said EndOfDay EndOfDay e = cc
one_said EndOfDay (Line r) e = cc
one_said (Line r) EndOfDay e = cc
one_said (Line r) (Line q) e = cc

pub read_determined : (s : List ℕ) (x y : Result Said Refusal) → Read s x → Read s y → x ≡ y
read_determined s x y p q = one_answer_by said_of one_said x y (p.said ∙ sym q.said)

pub strike_value_determined : (d n : ℕ) (x y : Result ℕ Refusal) → StrikeValued d n x → StrikeValued d n y → x ≡ y
strike_value_determined d n x y p q = one_answer x y (p.said ∙ sym q.said)

pub strike_form_determined : (v : ℕ) (x y : Result Strike Refusal) → StrikeFormed v x → StrikeFormed v y → x ≡ y
strike_form_determined v x y p q = one_answer x y (p.said ∙ sym q.said)

pub clock_determined : (ms : ℕ) (x y : Result Clock Refusal) → Clocked ms x → Clocked ms y → x ≡ y
clock_determined ms x y p q = one_answer x y (p.said ∙ sym q.said)
