-- Two outcomes that the promise of an entry allows are equal.
use Prim.Native.Nat.{ℕ}
use mathlib.Core.Path.{◌≡◌, sym, ◌∙◌}
use mathlib.Core.List.{List}
use Rattle.std.specs.Prelude.{Result}
use Rattle.refusal.specs.declared.Refusal.{Refusal}
use Rattle.layout.proofs.OneAnswer.{one_answer}
use Rattle.section.specs.declared.Section.{Section}
use Rattle.table.specs.Promises.{Makes, LooksUp, CopiesOf}

pub make_determined : (before : List ℕ) (x y : Result (Unit {0}) Refusal) (a b : List ℕ) → Makes before x a → Makes before y b → (x ≡ y) × (a ≡ b)
make_determined before x y a b p q = (one_answer x y (p.said ∙ sym q.said), p.out ∙ sym q.out)

pub look_up_determined : (table key : List ℕ) (x y : Result ℕ Refusal) → LooksUp table key x → LooksUp table key y → x ≡ y
look_up_determined table key x y p q = one_answer x y (p.said ∙ sym q.said)

-- an order as well as a quote row
pub copy_determined : (c : Section) (n : ℕ) (table : List ℕ) (i : ℕ) (before : List ℕ) (x y : Result (Unit {0}) Refusal) (a b : List ℕ)
    → CopiesOf c n table i before x a → CopiesOf c n table i before y b → (x ≡ y) × (a ≡ b)
copy_determined c n table i before x y a b p q = (one_answer x y (p.said ∙ sym q.said), p.out ∙ sym q.out)
