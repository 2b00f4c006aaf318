-- 02, ticket 11: an index beside a section. The records of a bucket are a chain, the latest first; every entry is a function of the keys.
use Rattle.std.specs.Prelude.{◌≡◌, ℕ, zero, suc, ◌+◌, ◌<◌, ◌≤◌, cond, List, length, ◌==◌, slice_index}
use Rattle.std.proofs.lemmas.List.Edits.{sets}
use Rattle.section.specs.Sections.{start_of, record_of, Holds, KeyOf}
use Rattle.section.specs.declared.Section.{Section}
use Rattle.index.specs.Tags.{bucket_of}

-- the bucket of record i, of m
abbrev pub bucket_in : Section → List ℕ → ℕ → ℕ → ℕ
bucket_in keys s m i = bucket_of m (record_of keys s i)

-- one more than the latest of the first n records in bucket b, or 0, where f tells each record's bucket
abbrev pub latest : (ℕ → ℕ) → ℕ → ℕ → ℕ
latest f zero b = 0
latest f (suc n) b = cond (f n == b) (suc n) (latest f n b)

-- heads tells the latest record of each bucket, nexts the one before each record in its bucket
pub record Indexed (keys : Section) (s : List ℕ) (n : ℕ) (heads nexts : List ℕ) : Type 0 where
  pub holds : Holds keys s n
  pub some : 1 ≤ length heads
  pub room : n ≤ length nexts
  pub firsts : (b : ℕ) → b < length heads → slice_index heads b ≡ latest (bucket_in keys s (length heads)) n b
  pub chains : (i : ℕ) → i < n → slice_index nexts i ≡ latest (bucket_in keys s (length heads)) i (bucket_in keys s (length heads) i)

-- the first `at` records each lead to one before them, or to none
pub record Falls (nexts : List ℕ) (at : ℕ) : Type 0 where
  pub room : at ≤ length nexts
  pub earlier : (i : ℕ) → i < at → slice_index nexts i ≤ i

-- ---- one record more

-- record n is there, and there is room for its entry; an entry has 16 bits
pub record Enters (keys : Section) (s : List ℕ) (n : ℕ) (nexts : List ℕ) : Type 0 where
  pub holds : Holds keys s (n + 1)
  pub room : n < length nexts
  pub small : n < 65535

pub record Entered (keys : Section) (s : List ℕ) (n : ℕ) (heads₀ nexts₀ heads nexts : List ℕ) : Type 0 where
  pub indexed : Indexed keys s (n + 1) heads nexts
  pub heads_long : length heads ≡ length heads₀
  pub nexts_long : length nexts ≡ length nexts₀

-- ---- a record stored behind the others, its key in it

pub record Appends (records keys : Section) (s : List ℕ) (n : ℕ) (bytes nexts : List ℕ) : Type 0 where
  pub keyed : KeyOf keys records
  pub holds : Holds records s (n + 1)
  pub wide : length bytes ≡ records.width
  pub room : n < length nexts
  pub small : n < 65535

pub record Appended (records keys : Section) (s : List ℕ) (n : ℕ) (bytes heads₀ nexts₀ t heads nexts : List ℕ) : Type 0 where
  pub stored : t ≡ sets s (start_of records n) bytes
  pub indexed : Indexed keys t (n + 1) heads nexts
  pub heads_long : length heads ≡ length heads₀
  pub nexts_long : length nexts ≡ length nexts₀

-- ---- the index of n records, made anew

pub record Builds (keys : Section) (s : List ℕ) (n : ℕ) (heads nexts : List ℕ) : Type 0 where
  pub holds : Holds keys s n
  pub some : 1 ≤ length heads
  pub room : n ≤ length nexts
  pub small : n ≤ 65535

pub record Built (keys : Section) (s : List ℕ) (n : ℕ) (heads₀ nexts₀ heads nexts : List ℕ) : Type 0 where
  pub indexed : Indexed keys s n heads nexts
  pub heads_long : length heads ≡ length heads₀
  pub nexts_long : length nexts ≡ length nexts₀
