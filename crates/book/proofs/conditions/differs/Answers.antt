-- `book::conditions::differs` meets its contract.
use Prim.Native.Nat.{ℕ}
use mathlib.Core.Path.{◌≡◌, refl, ap}
use mathlib.Core.Bool.{◌&&◌, and_assoc}
use mathlib.Core.List.{List, [], ◌∷◌}
use lib.Dec.{eqb}
use lib.Pointwise.{pointwise}
use Rattle.run.specs.Runs.{same}
use Rattle.book.proofs.conditions.differs.Goals as goal

-- what a derived `==` compares of a run
same_run : (s t : List ℕ) → pointwise eqb s t ≡ same s t
same_run [] [] = refl
same_run [] (b ∷ t) = refl
same_run (a ∷ s) [] = refl
same_run (a ∷ s) (b ∷ t) = ap (λ x. eqb a b && x) (same_run s t)

pub returns : goal.returns
returns c = rw (c.eq.ensures, c.series_of.ensures, same_run) (simp and_assoc)
