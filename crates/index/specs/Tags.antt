-- 02, ticket 11: a short tag of the key, made of sums that wrap at 2 to the 32.
use Rattle.std.specs.Prelude.{ℕ, zero, suc, ◌+◌, ◌*◌, ◌/◌, ◌%◌, ◌^◌, List, length, take, drop, fold}
use Rattle.cell.specs.Cells.{le}

-- what follows bytes whose tag is h is added, and the sum spread by an odd number over the bits above
abbrev pub more : ℕ → ℕ → ℕ
more h b = (h + b) % 2 ^ 32 * 2654435761 % 2 ^ 32

-- the tag of n words of four bytes behind others whose tag is h
abbrev pub over_words : ℕ → ℕ → List ℕ → ℕ
over_words zero h s = h
over_words (suc n) h s = over_words n (more h (le (take 4 s))) (drop 4 s)

-- and that of single bytes
abbrev pub over_bytes : ℕ → List ℕ → ℕ
over_bytes h s = fold more h s

-- a key by its words, then by the bytes that are left
abbrev pub tag_of : List ℕ → ℕ
tag_of s = over_bytes (over_words (length s / 4) 0 s) (drop (4 * (length s / 4)) s)

-- the bucket of a key, of m: by the upper part of its tag
unfoldable pub bucket_of : ℕ → List ℕ → ℕ
bucket_of m key = tag_of key / (2 ^ 32 / m + 1)
