-- Two outcomes that the promise of `next` allows are equal.
use Prim.Native.Nat.{ℕ}
use mathlib.Core.Path.{◌≡◌, sym, ◌∙◌}
use mathlib.Core.List.{List}
use Rattle.std.proofs.Common.{Option}
use Rattle.piece.specs.Promises.{Nexts}

pub next_determined : (text : List ℕ) (at : ℕ) (x y : Option ℕ) → Nexts text at x → Nexts text at y → x ≡ y
next_determined text at x y p q = p.said ∙ sym q.said
