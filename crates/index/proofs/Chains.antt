-- The walk down a chain: no record of its bucket is passed over, so the last hit is the earliest once the chain ends.
use Rattle.std.proofs.Common.{◌≡◌, ℕ, zero, suc, ◌-◌, ◌<◌, ◌≤◌, Bool, true, false, cond, eqb, List, Option, Some, None, length, get_or, sym, refl, ap, ◌∙◌, add-one, le_refl, arith, eqb-true}
use borrow.Author.Tests.{eqb-false}
use Rattle.section.specs.Sections.{record_of}
use Rattle.section.specs.declared.Section.{Section}
use Rattle.run.specs.Found.{or_else}
use Rattle.run.proofs.Found.{or_none}
use Rattle.index.specs.Searches.{first_of, has_key, earliest, place_no}
use Rattle.index.specs.Tags.{bucket_of}
use Rattle.index.specs.Indexes.{latest, bucket_in, Indexed, Falls}
use Rattle.run.proofs.Sameness.{same_true}
use Rattle.index.proofs.Firsts.{first_past}

-- ---- one place or else another

or_or : (a : ℕ) (t : Bool) (i : ℕ) (best : Option ℕ)
    → or_else (or_else a (cond t (suc i) 0)) (place_no best) ≡ or_else a (place_no (cond t (Some i) best))
or_or zero true i best = sym (add-one i)
or_or zero false i best = refl
or_or (suc a) t i best = refl

-- ---- the latest record of a bucket

module _ (f : ℕ → ℕ) where
  pub latest_most : (n b : ℕ) → latest f n b ≤ n
  latest_most zero b = le_refl 0
  latest_most (suc n) b = go (eqb (f n) b) (latest_most n b)
    where
      go : (t : Bool) → latest f n b ≤ n → cond t (suc n) (latest f n b) ≤ suc n
      go true h = le_refl (suc n)
      go false h = omega arith

  latest_in : (n b i : ℕ) → latest f n b ≡ suc i → f i ≡ b
  latest_in zero b i e = absurd (omega arith)
  latest_in (suc n) b i e = go (eqb (f n) b) refl e (latest_in n b i)
    where
      go : (t : Bool) → eqb (f n) b ≡ t → cond t (suc n) (latest f n b) ≡ suc i → (latest f n b ≡ suc i → f i ≡ b) → f i ≡ b
      go true q h k = let e : n ≡ i = omega arith in rw e at (eqb-true (f n) b q)
      go false q h k = k h

  pub latest_same : (g : ℕ → ℕ) (n b : ℕ) → ((i : ℕ) → i < n → f i ≡ g i) → latest f n b ≡ latest g n b
  latest_same g zero b e = refl
  latest_same g (suc n) b e = rw (e n (omega arith), latest_same g n b (λ i h. e i (omega arith)))

  -- what p holds of is in bucket b: no record behind the latest of b need be looked at
  first_skips : (p : ℕ → Bool) (b : ℕ) → ((i : ℕ) → p i ≡ true → f i ≡ b) → (n : ℕ) → first_of p n ≡ first_of p (latest f n b)
  first_skips p b h zero = refl
  first_skips p b h (suc n) = go (eqb (f n) b) refl (p n) refl (first_skips p b h n)
    where
      go : (t : Bool) → eqb (f n) b ≡ t → (u : Bool) → p n ≡ u → first_of p n ≡ first_of p (latest f n b)
          → first_of p (suc n) ≡ first_of p (cond t (suc n) (latest f n b))
      go true q u r e = refl
      go false q true r e = absurd (eqb-false (f n) b q (h n r))
      go false q false r e = first_past p n r ∙ e

-- ---- the walk

module _ (keys : Section) (s : List ℕ) (n : ℕ) (heads nexts key : List ℕ) where
  -- the earliest is among the first `at` records, or else it is the best so far; record at - 1 is in the key's bucket
  pub record Walked (best : Option ℕ) (at : ℕ) : Type 0 where
    pub within : at ≤ n
    pub here : 0 < at → bucket_in keys s (length heads) (at - 1) ≡ bucket_of (length heads) key
    pub kept : earliest keys s n key ≡ or_else (earliest keys s at key) (place_no best)

  in_bucket : (i : ℕ) → has_key keys s key i ≡ true → bucket_in keys s (length heads) i ≡ bucket_of (length heads) key
  in_bucket i e = ap (bucket_of (length heads)) (same_true (record_of keys s i) key e)

  -- on to the latest of the first i records in the bucket
  to_latest : (i : ℕ) (best : Option ℕ) (at : ℕ) → i ≤ n → at ≡ latest (bucket_in keys s (length heads)) i (bucket_of (length heads) key)
      → earliest keys s n key ≡ or_else (earliest keys s i key) (place_no best) → Walked best at
  to_latest i best at l e h =
      let f = bucket_in keys s (length heads) in
      let b = bucket_of (length heads) key in
      let less : at ≤ i = rw e (latest_most f i b) in
      record {
        within = omega arith;
        here = λ p. latest_in f i b (at - 1) (let back : suc (at - 1) ≡ at = omega arith in sym (back ∙ e));
        kept = h ∙ rw (first_skips f (has_key keys s key) b in_bucket i, ← e);
      }

  module _ (x : Indexed keys s n heads nexts) (b : ℕ) (q : b ≡ bucket_of (length heads) key) where
    pub walk_first : b < length heads → Walked None (get_or heads b 0)
    walk_first l = to_latest n None (get_or heads b 0) (le_refl n) (x.firsts b l ∙ rw q) (sym (or_none (earliest keys s n key)))

    pub walk_next : {best : Option ℕ} {at : ℕ} → Walked best at → 0 < at → {hit : Bool} → hit ≡ has_key keys s key (at - 1) → (t : Bool) → hit ≡ t
        → Walked (cond t (Some (at - 1)) best) (get_or nexts (at - 1) 0)
    walk_next {best} {at} w l asked t told =
        let e : has_key keys s key (at - 1) ≡ t = sym asked ∙ told in
        let back : at ≡ suc (at - 1) = omega arith in
        let less : at - 1 < n = omega (arith, w.within) in
        to_latest (at - 1) (cond t (Some (at - 1)) best) (get_or nexts (at - 1) 0) (omega arith) (x.chains (at - 1) less ∙ rw (w.here l))
        (w.kept ∙ ap (λ i. or_else (earliest keys s i key) (place_no best)) back ∙ rw e (or_or (earliest keys s (at - 1) key) t (at - 1) best))

    -- each record is looked at once at most
    pub walk_falls : {best : Option ℕ} {at : ℕ} → Walked best at → 0 < at → get_or nexts (at - 1) 0 < at
    walk_falls {best} {at} w l =
        let f = bucket_in keys s (length heads) in
        let less : at - 1 < n = omega (arith, w.within) in
        omega (arith, x.chains (at - 1) less, latest_most f (at - 1) (f (at - 1)))

-- ---- what a bucket leads to

pub chain_falls : {keys : Section} {s : List ℕ} {n : ℕ} {heads nexts : List ℕ} → Indexed keys s n heads nexts → (b : ℕ) → b < length heads
    → Falls nexts (get_or heads b 0)
chain_falls {keys} {s} {n} {heads} {nexts} x b l =
    let f = bucket_in keys s (length heads) in
    let within : get_or heads b 0 ≤ n = omega (arith, x.firsts b l, latest_most f n b) in
    record {
      room = omega (arith, x.room);
      earlier = λ i h. omega (arith, x.chains i (omega arith), latest_most f i (f i));
    }
