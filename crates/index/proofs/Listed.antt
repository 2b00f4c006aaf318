-- The earliest record with a key is the first of the list of records that passes a test, where the test says of each whether it has that key.
use Rattle.std.proofs.Common.{◌≡◌, ℕ, zero, suc, ◌<◌, Bool, cond, List, [], ◌∷◌, ◌++◌, length, sym, ap, ◌∙◌, zero-add, arith}
use Rattle.run.specs.Found.{or_else, one_more}
use Rattle.run.proofs.Found.{place_last}
use Rattle.section.specs.Sections.{record_of, records_in}
use Rattle.section.specs.declared.Section.{Section}
use Rattle.section.proofs.Lists.{records_last, length_records}
use Rattle.index.specs.Searches.{has_key, earliest}

module _ {A : Type 0} (test : A → Bool) (place : List A → ℕ) (none : place [] ≡ 0)
    (some : (x : A) (xs : List A) → place (x ∷ xs) ≡ cond (test x) 1 (one_more (place xs))) where
  module _ (read : List ℕ → A) (c keys : Section) (s key : List ℕ) where
    pub earliest_listed : (n : ℕ) → ((i : ℕ) → i < n → test (read (record_of c s i)) ≡ has_key keys s key i)
        → earliest keys s n key ≡ place (records_in read c s 0 n)
    earliest_listed zero h = sym none
    earliest_listed (suc n) h =
        let xs = records_in read c s 0 n in
        let last : or_else (earliest keys s n key) (cond (has_key keys s key n) (suc n) 0)
        ≡ or_else (place xs) (cond (test (read (record_of c s n))) (suc (length xs)) 0) =
        rw (earliest_listed n (λ i l. h i (omega arith)), h n (omega arith), length_records read c s 0 n) in
        last
        ∙ sym (place_last test place none some xs (read (record_of c s n)))
        ∙ ap place (sym (records_last read c s 0 n ∙ ap (λ i. xs ++ (read (record_of c s i) ∷ [])) (zero-add n)))
