-- The answers that are given, one by one.
use Prim.Native.Nat.{ℕ, zero, suc, ◌≤◌, ◌<◌}
use native.Mathlib.Omega.{arith}
use mathlib.Core.Path.{◌≡◌, refl, ap, ◌∙◌}
use mathlib.Core.List.{List, [], ◌∷◌}
use lib.ListN.{length, get_or, take, drop, get_or-append}
use lib.Seq.{sets}
use Rattle.run.proofs.Stores.{sets_start}
use Rattle.book.specs.Bytes.{book_bytes}
use Rattle.book_all.specs.InTurn.{answers_to}

-- one for each piece
pub answers_long : (table : List ℕ) (ps : List (List ℕ)) → length (answers_to table ps) ≡ length ps
answers_long table [] = refl
answers_long table (p ∷ ps) = ap suc (answers_long (book_bytes table p) ps)

-- so many pieces at most
pub first_few : (n : ℕ) (ps : List (List ℕ)) → length (take n ps) ≤ n
first_few zero ps = omega arith
first_few (suc n) [] = omega arith
first_few (suc n) (p ∷ ps) = omega (arith, first_few n ps)

-- the answer to piece i stands at place i
pub first_of : (answers table : List ℕ) (ps : List (List ℕ)) (i : ℕ) → i < length ps → length ps ≤ length answers
    → get_or (sets answers 0 (answers_to table ps)) i 0 ≡ get_or (answers_to table ps) i 0
first_of answers table ps i h k =
    ap (λ (xs : List ℕ). get_or xs i 0) (sets_start answers (answers_to table ps) (omega (arith, answers_long table ps)))
    ∙ get_or-append (answers_to table ps) (drop (length (answers_to table ps)) answers) 0 i (omega (arith, answers_long table ps))
