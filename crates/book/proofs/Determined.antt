-- Two outcomes that the promise of booking allows are equal.
use Prim.Native.Nat.{ℕ}
use mathlib.Core.Path.{◌≡◌, sym, ◌∙◌}
use mathlib.Core.List.{List}
use Rattle.std.specs.Prelude.{Result}
use Rattle.refusal.specs.declared.Refusal.{Refusal}
use Rattle.layout.proofs.OneAnswer.{one_answer}
use Rattle.book.specs.Promises.{Books}

pub book_determined : (before piece : List ℕ) (x y : Result (Unit {0}) Refusal) (a b : List ℕ)
    → Books before piece x a → Books before piece y b → (x ≡ y) × (a ≡ b)
book_determined before piece x y a b p q = (one_answer x y (p.said ∙ sym q.said), p.out ∙ sym q.out)
