-- The tests of keys and of series say that they are equal.
use mathlib.Core.Path.{◌≡◌, refl, subst}
use mathlib.Core.Bool.{true, ◌&&◌}
use mathlib.Core.Logic.{◌↔◌}
use borrow.Author.Tests.{eqb-true, eq-eqb}
use lib.Dec.{eqb}
use Rattle.run.specs.Runs.{same}
use Rattle.order.specs.Names.{same_key, same_series}
use Rattle.order.specs.declared.Key.{Key}
use Rattle.order.specs.declared.Series.{Series}
use Rattle.run.proofs.Tests.{both, agree}
use Rattle.run.proofs.Sameness.{same_self, same_true}

-- ---- keys

pub key_self : (k : Key) → same_key k k ≡ true
key_self k = rw (same_self k.source, same_self k.token)

pub key_eq : (a b : Key) → same_key a b ≡ true → a ≡ b
key_eq a b e =
    let h = both (same a.source b.source) (same a.token b.token) e in
    λ i. record { source = same_true a.source b.source h.0 i; token = same_true a.token b.token h.1 i }

pub key_comm : (a b : Key) → same_key a b ≡ same_key b a
key_comm a b = agree (same_key a b) (same_key b a) (back a b) (back b a)
  where
    back : (x y : Key) → same_key x y ≡ true → same_key y x ≡ true
    back x y e = subst (λ (k : Key). same_key k x ≡ true) (key_eq x y e) (key_self x)

-- ---- series

series_self : (s : Series) → same_series s s ≡ true
series_self s =
    rw (
      same_self s.root,
      eq-eqb s.month s.month refl,
      eq-eqb s.date s.date refl,
      eq-eqb s.year s.year refl,
      eq-eqb s.denominator s.denominator refl,
      eq-eqb s.strike s.strike refl,
    )

series_eq : (a b : Series) → same_series a b ≡ true → a ≡ b
series_eq a b e =
    let root = same a.root b.root in
    let month = eqb a.month b.month in
    let date = eqb a.date b.date in
    let year = eqb a.year b.year in
    let denominator = eqb a.denominator b.denominator in
    let h = both (root && month && date && year && denominator) (eqb a.strike b.strike) e in
    let d = both (root && month && date && year) denominator h.0 in
    let y = both (root && month && date) year d.0 in
    let t = both (root && month) date y.0 in
    let m = both root month t.0 in
    λ i. record {
      root = same_true a.root b.root m.0 i;
      month = eqb-true a.month b.month m.1 i;
      date = eqb-true a.date b.date t.1 i;
      year = eqb-true a.year b.year y.1 i;
      denominator = eqb-true a.denominator b.denominator d.1 i;
      strike = eqb-true a.strike b.strike h.1 i;
    }

pub series_same : (a b : Series) → (same_series a b ≡ true) ↔ (a ≡ b)
series_same a b = (series_eq a b, λ e. subst (λ (s : Series). same_series a s ≡ true) e (series_self a))
