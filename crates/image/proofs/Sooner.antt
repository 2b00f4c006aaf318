-- The field that stands in the way of writing the bytes of a record, and what it says that there is none.
use Prim.Native.Nat.{ℕ}
use Rattle.std.proofs.Common.{Option, Some, None, unwrap_or}
use native.Mathlib.Omega.{arith}
use mathlib.Core.Path.{◌≡◌, refl, ◌∙◌}
use mathlib.Core.Bool.{Bool, true, false, cond}
use mathlib.Core.List.{List}
use borrow.Author.Tests.{eqb-true, eqb-false, eq-eqb, ne_eqb}
use lib.Dec.{ltb, eqb}
use lib.ListN.{length}
use Rattle.layout.specs.Line.{unlawful}
use Rattle.image.specs.Images.{record_in, sooner, unmeant, unwritable}
use Rattle.image.proofs.Odd.{odd_field}

neither : (m n : ℕ) → sooner m n ≡ 0 → (m ≡ 0) × (n ≡ 0)
neither m n = go (eqb m 0) (eqb n 0) (ltb n m) refl refl
  where
    go : (s t l : Bool) → eqb m 0 ≡ s → eqb n 0 ≡ t → cond s n (cond t m (cond l n m)) ≡ 0 → (m ≡ 0) × (n ≡ 0)
    go true t l a b e = (eqb-true m 0 a, e)
    go false true l a b e = absurd (eqb-false m 0 a e)
    go false false true a b e = absurd (eqb-false n 0 b e)
    go false false false a b e = absurd (eqb-false m 0 a e)

module _ (b : List ℕ) where
  pub other_length : (length b ≡ 138 → ⊥) → 24 ≡ unwritable b
  unfolding unwritable
  other_length h = rw (ne_eqb (length b) 138 h)

  module _ (h : length b ≡ 138) where
    pub in_the_way : sooner (unwrap_or (unmeant b) 0) (unlawful (record_in b)) ≡ unwritable b
    unfolding unwritable
    in_the_way = rw (eq-eqb (length b) 138 h)

    pub odd_in_the_way : (k : ℕ) → unmeant b ≡ Some k → (sooner k (unlawful (record_in b)) ≡ unwritable b) × (unwritable b ≡ 0 → ⊥)
    odd_in_the_way k q =
        let says = rw q at in_the_way in
        (says, λ e. let none = (neither k (unlawful (record_in b)) (says ∙ e)).0 in absurd (omega (arith, odd_field b k q)))

    pub rule_in_the_way : unmeant b ≡ None → unlawful (record_in b) ≡ unwritable b
    rule_in_the_way e = rw e at in_the_way

-- what may be written is 138 bytes with a meaning each, and they say a lawful record
no_field : (b : List ℕ) → unwrap_or (unmeant b) 0 ≡ 0 → unmeant b ≡ None
no_field b e = go (unmeant b) refl e
  where
    go : (o : Option ℕ) → unmeant b ≡ o → unwrap_or o 0 ≡ 0 → o ≡ None
    go None q e = refl
    go (Some k) q e = absurd (omega (arith, odd_field b k q))

pub writable : (b : List ℕ) → unwritable b ≡ 0 → (length b ≡ 138) × (unmeant b ≡ None) × (unlawful (record_in b) ≡ 0)
writable b e = go (eqb (length b) 138) refl
  where
    go : (t : Bool) → eqb (length b) 138 ≡ t → (length b ≡ 138) × (unmeant b ≡ None) × (unlawful (record_in b) ≡ 0)
    go true q = let h = eqb-true (length b) 138 q in let n = neither (unwrap_or (unmeant b) 0) (unlawful (record_in b)) (in_the_way b h ∙ e) in (h, no_field b n.0, n.1)
    go false q = absurd (omega (arith, other_length b (eqb-false (length b) 138 q)))
