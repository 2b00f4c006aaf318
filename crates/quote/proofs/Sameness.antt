-- The test of two quotes says that they are equal.
use mathlib.Core.Path.{◌≡◌, refl, subst}
use mathlib.Core.Bool.{true, ◌&&◌}
use borrow.Author.Tests.{eqb-true, eq-eqb}
use lib.Dec.{eqb}
use Rattle.order.specs.Names.{same_key, same_series}
use Rattle.run.proofs.Tests.{both, agree}
use Rattle.order.proofs.Sameness.{key_self, key_eq, series_same}
use Rattle.quote.specs.Quotes.{same_quote}
use Rattle.quote.specs.declared.Quote.{Quote}

pub quote_self : (q : Quote) → same_quote q q ≡ true
quote_self q = rw (key_self q.key, eq-eqb q.side q.side refl, (series_same q.series q.series).1 refl)

pub quote_eq : (a b : Quote) → same_quote a b ≡ true → a ≡ b
quote_eq a b e =
    let h = both (same_key a.key b.key && eqb a.side b.side) (same_series a.series b.series) e in
    let k = both (same_key a.key b.key) (eqb a.side b.side) h.0 in
    λ i.
    record {
      key = key_eq a.key b.key k.0 i;
      side = eqb-true a.side b.side k.1 i;
      series = (series_same a.series b.series).0 h.1 i;
    }

pub quote_comm : (a b : Quote) → same_quote a b ≡ same_quote b a
quote_comm a b = agree (same_quote a b) (same_quote b a) (back a b) (back b a)
  where
    back : (x y : Quote) → same_quote x y ≡ true → same_quote y x ≡ true
    back x y e = subst (λ (q : Quote). same_quote q x ≡ true) (quote_eq x y e) (quote_self x)
