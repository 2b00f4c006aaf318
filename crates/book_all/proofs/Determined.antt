-- Two outcomes that the promise allows are equal.
use mathlib.Core.Path.{◌≡◌, sym, ◌∙◌}
use mathlib.Core.List.{List}
use Prim.Native.Nat.{ℕ}
use Rattle.std.specs.Prelude.{Result}
use Rattle.refusal.specs.declared.Refusal.{Refusal}
use Rattle.layout.proofs.OneAnswer.{one_answer}
use Rattle.book_all.specs.Promises.{BooksAll}
use Rattle.book_all.specs.declared.Used.{Used}

pub book_all_determined : (table text answers : List ℕ) (x y : Result Used Refusal) (a b g h : List ℕ)
    → BooksAll table text answers x a g → BooksAll table text answers y b h → (x ≡ y) × (a ≡ b) × (g ≡ h)
book_all_determined table text answers x y a b g h p q =
    (one_answer x y (p.said ∙ sym q.said), p.out ∙ sym q.out, p.told ∙ sym q.told)
