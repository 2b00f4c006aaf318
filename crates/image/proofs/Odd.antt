-- What it says that no byte of a record is without meaning, and of one that is.
use Rattle.std.proofs.Common.{ℕ, ◌≡◌, Option, Some, None, Bool, true, false, cond, not, List, ◌<◌, refl, arith}
use borrow.Author.Tests.{not-false}
use lib.ListN.{get_or}
use Rattle.run.specs.Runs.{part, all, is_zero, member}
use Rattle.layout.specs.Layout.{types}
use Rattle.image.specs.Images.{odd, odd_id, odd_liquidity, unmeant}

pub record Meant (b : List ℕ) : Type 0 where
  pub of_type : member (get_or b 8 0) types ≡ true
  pub of_liquidity : odd_liquidity b ≡ false
  pub of_price : all is_zero (part b 118 2) ≡ true
  pub of_match : odd_id b 120 ≡ false
  pub of_cross : odd_id b 129 ≡ false

pub all_meant : (b : List ℕ) → member (get_or b 8 0) types ≡ true → odd_liquidity b ≡ false → all is_zero (part b 118 2) ≡ true → odd_id b 120 ≡ false
    → odd_id b 129 ≡ false → unmeant b ≡ None
unfolding unmeant
all_meant b t l p m c = rw (t, l, p, m, c)

passed : (t : Bool) (n : ℕ) {rest : Option ℕ} → cond t (Some n) rest ≡ None → (t ≡ false) × (rest ≡ None)
passed true n e = cc
passed false n e = (refl, e)

pub meant : (b : List ℕ) → unmeant b ≡ None → Meant b
unfolding unmeant
meant b e =
    let a = passed (not (member (get_or b 8 0) types)) 2 e in
    let l = passed (odd_liquidity b) 6 a.1 in
    let p = passed (not (all is_zero (part b 118 2))) 22 l.1 in
    let i = passed (odd_id b 120) 23 p.1 in
    record {
      of_type = not-false (member (get_or b 8 0) types) a.0;
      of_liquidity = l.0;
      of_price = not-false (all is_zero (part b 118 2)) p.0;
      of_match = i.0;
      of_cross = (passed (odd_id b 129) 24 i.1).0;
    }

-- a field that has one is a field: its number is not 0
numbered : (t : Bool) (n : ℕ) {rest : Option ℕ} → 0 < n → ((k : ℕ) → rest ≡ Some k → 0 < k) → (k : ℕ) → cond t (Some n) rest ≡ Some k → 0 < k
numbered true n h f k e = let same : n ≡ k = cc in omega arith
numbered false n h f k e = f k e

pub odd_field : (b : List ℕ) (k : ℕ) → unmeant b ≡ Some k → 0 < k
unfolding unmeant
odd_field b =
    numbered (odd b 2) 2 (omega arith)
    (numbered (odd b 6) 6 (omega arith)
    (numbered (odd b 22) 22 (omega arith) (numbered (odd b 23) 23 (omega arith) (numbered (odd b 24) 24 (omega arith) (λ k e. cc)))))
