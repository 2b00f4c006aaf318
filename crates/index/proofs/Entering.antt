-- The empty index, and one record more.
use Rattle.std.proofs.Common.{◌≡◌, ℕ, suc, ◌+◌, ◌<◌, ◌≤◌, Bool, true, false, cond, eqb, List, length, get_or, set, replicate, sym, refl, ap, ◌∙◌, add-one, arith, length-set, get_or-set_other, get_or-set_same, eqb-true}
use borrow.Author.Tests.{eqb-false}
use lib.ListN.{length-replicate, get_or-replicate}
use Rattle.section.specs.Sections.{record_of, Holds}
use Rattle.section.specs.declared.Section.{Section}
use Rattle.index.specs.Indexes.{latest, bucket_in, Indexed, Enters, Entered}
use Rattle.index.proofs.Tagging.{bucket_under}

pub index_none : (keys : Section) (s heads nexts : List ℕ) (m : ℕ) → Holds keys s 0 → heads ≡ replicate m 0 → 1 ≤ m → Indexed keys s 0 heads nexts
index_none keys s heads nexts m z e h =
    let long : length heads ≡ m = rw e (length-replicate {A = ℕ} m 0) in
    record {
      holds = z;
      some = omega arith;
      room = omega arith;
      firsts = λ b l. rw e (get_or-replicate m b 0 0 (omega arith));
      chains = λ i l. absurd (omega arith);
    }

module _ {keys : Section} {s : List ℕ} {n : ℕ} {heads nexts : List ℕ} (x : Indexed keys s n heads nexts) (b : ℕ)
    (q : b ≡ bucket_in keys s (length heads) n) (l : b < length heads) (r : n < length nexts)
    (z : Holds keys s (n + 1)) where
  new_heads : (a : ℕ) → a < length heads → get_or (set heads b (n + 1)) a 0 ≡ latest (bucket_in keys s (length heads)) (suc n) a
  new_heads a h = go (eqb (bucket_in keys s (length heads) n) a) refl
    where
      go : (t : Bool) → eqb (bucket_in keys s (length heads) n) a ≡ t
          → get_or (set heads b (n + 1)) a 0 ≡ cond t (suc n) (latest (bucket_in keys s (length heads)) n a)
      go true e =
          let one : a ≡ b = sym (q ∙ eqb-true (bucket_in keys s (length heads) n) a e) in
          rw one (get_or-set_same heads b (n + 1) 0 l) ∙ add-one n
      go false e =
          let other : a ≡ b → ⊥ = λ p. eqb-false (bucket_in keys s (length heads) n) a e (sym (p ∙ q)) in
          get_or-set_other heads b a (n + 1) 0 other ∙ x.firsts a h

  new_nexts : (i : ℕ) → i < n + 1
      → get_or (set nexts n (get_or heads b 0)) i 0 ≡ latest (bucket_in keys s (length heads)) i (bucket_in keys s (length heads) i)
  new_nexts i h = go (eqb i n) refl
    where
      go : (t : Bool) → eqb i n ≡ t
          → get_or (set nexts n (get_or heads b 0)) i 0 ≡ latest (bucket_in keys s (length heads)) i (bucket_in keys s (length heads) i)
      go true e = rw (eqb-true i n e) (get_or-set_same nexts n (get_or heads b 0) 0 r ∙ x.firsts b l ∙ rw q)
      go false e =
          let other = eqb-false i n e in
          get_or-set_other nexts n i (get_or heads b 0) 0 other ∙ x.chains i (omega (arith, other))

  index_next : Indexed keys s (n + 1) (set heads b (n + 1)) (set nexts n (get_or heads b 0))
  index_next =
      let long = length-set heads b (n + 1) in
      let wide = length-set nexts n (get_or heads b 0) in
      record {
        holds = z;
        some = omega (arith, x.some);
        room = omega arith;
        firsts = λ a h. rw long (new_heads a (rw long at h) ∙ ap (λ j. latest (bucket_in keys s (length heads)) j a) (sym (add-one n)));
        chains = λ i h. rw long (new_nexts i h);
      }

-- `index::entry::enter` returns: the record was linked into its key's bucket
pub entered : {keys : Section} {s : List ℕ} {n : ℕ} {heads nexts : List ℕ} → Indexed keys s n heads nexts → Enters keys s n nexts
    → {b : ℕ} → b ≡ bucket_in keys s (length heads) n → {heads' nexts' : List ℕ} → heads' ≡ set heads b (n + 1) → nexts' ≡ set nexts n (get_or heads b 0)
    → Entered keys s n heads nexts heads' nexts'
entered {keys} {s} {n} {heads} {nexts} x y {b} q h k =
    let under = bucket_under (length heads) b (record_of keys s n) x.some q in
    record {
      indexed = rw (h, k) (index_next x b q under y.room y.holds);
      heads_long = rw h (length-set heads b (n + 1));
      nexts_long = rw k (length-set nexts n (get_or heads b 0));
    }
