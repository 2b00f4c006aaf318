-- `pieces` are the pieces of a text as they are described, and no others are.
use Prim.Native.Nat.{ℕ}
use mathlib.Core.Path.{◌≡◌, refl, sym}
use mathlib.Core.Bool.{Bool, true, false, cond}
use mathlib.Core.List.{List, [], ◌∷◌}
use native.Mathlib.Omega.{arith}
use borrow.Author.Tests.{eqb-true}
use lib.Dec.{eqb}
use Rattle.piece.specs.Cuts.{Cuts}
use Rattle.piece.specs.Cuts.Cuts.{nothing, last, more}
use Rattle.piece.specs.Pieces.{join_first, pieces}
use Rattle.piece.proofs.Begun.{none_more, unended_alone, ended_then}

filled_cons : (b : ℕ) (p : List ℕ) → b ∷ p ≡ [] → ⊥
filled_cons b p e = let z : ◌≡◌ {A = ℕ} 0 1 = cc in omega arith

-- a byte that is no LF goes into the first piece
byte_more : (b : ℕ) → eqb b 10 ≡ false → {s : List ℕ} {ps : List (List ℕ)} → Cuts s ps → Cuts (b ∷ s) (join_first b ps)
byte_more b e nothing = last (record { filled = filled_cons b []; unbroken = none_more b [] e refl })
byte_more b e (last {p} u) = last (record { filled = filled_cons b p; unbroken = none_more b p e u.unbroken })
byte_more b e (more {p} (q, f, n) c) = more {p = b ∷ p} (b ∷ q, rw f, none_more b q e n) c

pub pieces_cut : (s : List ℕ) → Cuts s (pieces s)
pieces_cut [] = nothing
pieces_cut (b ∷ s) = go (eqb b 10) refl (pieces_cut s)
  where
    go : (t : Bool) → eqb b 10 ≡ t → Cuts s (pieces s) → Cuts (b ∷ s) (cond t ((b ∷ []) ∷ pieces s) (join_first b (pieces s)))
    go true e c = more {p = b ∷ []} ([], rw (eqb-true b 10 e), refl) c
    go false e c = byte_more b e c

only_cut : {s : List ℕ} {ps : List (List ℕ)} → Cuts s ps → ps ≡ pieces s
only_cut nothing = refl
only_cut (last {p} u) = sym (unended_alone p u)
only_cut (more {p} {s} e c) = rw (only_cut c) (sym (ended_then p s e))

pub only_so : (s : List ℕ) (ps : List (List ℕ)) → Cuts s ps → ps ≡ pieces s
only_so s ps c = only_cut c
