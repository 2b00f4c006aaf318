-- Two answers that the promise allows are equal.
use Prim.Native.Nat.{ℕ}
use mathlib.Core.Path.{◌≡◌, sym, ◌∙◌}
use mathlib.Core.List.{List}
use Rattle.std.specs.Prelude.{Result}
use Rattle.refusal.specs.declared.Refusal.{Refusal}
use Rattle.layout.specs.declared.Record.{Record}
use Rattle.layout.proofs.OneAnswer.{one_answer}
use Rattle.writing.specs.Promises.{Write}

pub write_determined : (r : Record) (before : List ℕ) (x y : Result (Unit {0}) Refusal) (a b : List ℕ) → Write r before x a → Write r before y b → (x ≡ y) × (a ≡ b)
write_determined r before x y a b p q = (one_answer x y (p.said ∙ sym q.said), p.out ∙ sym q.out)
