-- Flags of numbers: none is up at first, and marking one puts up that one and no other.
use Prim.Native.Nat.{ℕ, zero, suc, ◌<◌}
use mathlib.Core.Path.{◌≡◌, refl, ap}
use mathlib.Core.Bool.{Bool, true, false, ◌||◌}
use mathlib.Core.List.{List}
use borrow.Author.Tests.{eqb-true, eqb-false}
use lib.Dec.{eqb}
use lib.ListN.{length, get_or, set, replicate, length-set}
use lib.Seq.{get_or-set_same, get_or-set_other}
use Rattle.table.specs.Passing.{Marks, is_marked}

pub none_marked : (n x : ℕ) → is_marked (replicate n 0) x ≡ false
unfolding is_marked
none_marked zero x = refl
none_marked (suc n) zero = refl
none_marked (suc n) (suc x) = none_marked n x

marked_set : (flags : List ℕ) (e x : ℕ) → e < length flags → is_marked (set flags e 1) x ≡ (eqb x e || is_marked flags x)
unfolding is_marked
marked_set flags e x h = go (eqb x e) refl
  where
    go : (t : Bool) → eqb x e ≡ t → eqb (get_or (set flags e 1) x 0) 1 ≡ (t || eqb (get_or flags x 0) 1)
    go true q = rw (eqb-true x e q, get_or-set_same flags e 1 0 h)
    go false q = ap (λ b. eqb b 1) (get_or-set_other flags e x 1 0 (eqb-false x e q))

pub marks_set : (flags : List ℕ) (e : ℕ) → e < length flags → Marks e flags (set flags e 1)
marks_set flags e h = record { room = length-set flags e 1; says = λ x. marked_set flags e x h }
