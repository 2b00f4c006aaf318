-- The key of a record leads to that record exactly where no earlier one has it.
use Rattle.std.proofs.Common.{◌≡◌, ℕ, zero, suc, ◌+◌, ◌<◌, Bool, true, eqb, List, Option, Some, None, sym, refl, ◌∙◌, add-one, arith, eq-eqb, ne_eqb}
use Rattle.std.proofs.Math.Dec.{eqb-zero-suc, eqb-suc-suc}
use Rattle.std.specs.Option.{option_eq}
use Rattle.run.proofs.Sameness.{same_self}
use Rattle.section.specs.Sections.{record_of}
use Rattle.section.specs.declared.Section.{Section}
use Rattle.index.specs.Searches.{first_of, has_key, earliest, place_no}
use Rattle.index.proofs.Firsts.{first_stays, first_hit}
use Rattle.index.proofs.Meanings.{first_found}

first_own : (p : ℕ → Bool) (n i : ℕ) → i < n → p i ≡ true → eqb (first_of p n) (i + 1) ≡ eqb (first_of p i) 0
first_own p n i l h = go (first_of p i) refl
  where
    go : (a : ℕ) → first_of p i ≡ a → eqb (first_of p n) (i + 1) ≡ eqb (first_of p i) 0
    go zero e = rw (first_hit p n i l e h, e) (eq-eqb (i + 1) (i + 1) refl)
    go (suc k) e =
        let less : k < i = (first_found p i k e).within in
        rw (first_stays p n i k (omega arith) e, e) (ne_eqb (suc k) (i + 1) (λ q. omega arith) ∙ sym (ne_eqb (suc k) 0 (λ q. omega arith)))

pub own_earliest : (keys : Section) (s : List ℕ) (n i : ℕ) → i < n
    → eqb (earliest keys s n (record_of keys s i)) (i + 1) ≡ eqb (earliest keys s i (record_of keys s i)) 0
own_earliest keys s n i l = first_own (has_key keys s (record_of keys s i)) n i l (same_self (record_of keys s i))

-- places are told apart as the numbers for them are
pub place_alike : (p : Option ℕ) (i : ℕ) → option_eq eqb p (Some i) ≡ eqb (place_no p) (i + 1)
place_alike None i = rw (add-one i) (sym (eqb-zero-suc i))
place_alike (Some j) i = rw (add-one j, add-one i) (sym (eqb-suc-suc j i))
