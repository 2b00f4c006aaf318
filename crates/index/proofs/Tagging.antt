-- The tag by its words and by its last bytes, and the bucket by its upper part.
use Rattle.std.proofs.Common.{◌≡◌, ℕ, zero, suc, ◌+◌, ◌-◌, ◌*◌, ◌/◌, ◌%◌, ◌^◌, ◌<◌, ◌≤◌, List, [], ◌∷◌, length, take, drop, ap, ◌∙◌, lt_of_lt_of_le, le_of_lt, mod-lt, div-lt_iff_lt-mul, add_comm, arith, drop-drop}
use native.Mathlib.Nat.{mod-add-mod, lt-mul-div-succ}
use Rattle.run.specs.Runs.{part}
use Rattle.cell.specs.Cells.{le}
use Rattle.index.specs.Tags.{more, over_words, over_bytes, tag_of, bucket_of}

-- what is added may be cut to its lower 32 bits
pub more_cut : (h w : ℕ) → more h (w % 2 ^ 32) ≡ more h w
more_cut h w =
    ap (λ x. x * 2654435761 % 2 ^ 32)
    (ap (λ x. x % 2 ^ 32) (add_comm h (w % 2 ^ 32)) ∙ mod-add-mod w (2 ^ 32) h ∙ ap (λ x. x % 2 ^ 32) (add_comm w h))

-- word j is taken, and n - (j + 1) are left
pub word_next : (s : List ℕ) (n j h g : ℕ) → j < n → g ≡ more h (le (part s (4 * j) 4))
    → over_words (n - j) h (drop (4 * j) s) ≡ over_words (n - (j + 1)) g (drop (4 * (j + 1)) s)
word_next s n j h g l e =
    let left : n - j ≡ suc (n - (j + 1)) = omega arith in
    let on : 4 * (j + 1) ≡ 4 * j + 4 = omega arith in
    rw (left, on, e, ← drop-drop 4 (4 * j) s)

pub bucket_by : (m h b : ℕ) (k : List ℕ) → h ≡ tag_of k → b ≡ h / (2 ^ 32 / m + 1) → b ≡ bucket_of m k
unfolding bucket_of
bucket_by m h b k e q = q ∙ ap (λ x. x / (2 ^ 32 / m + 1)) e

-- a tag is a remainder by 2 to the 32
more_below : (h b : ℕ) → more h b < 2 ^ 32
more_below h b = mod-lt ((h + b) % 2 ^ 32 * 2654435761) (omega arith)

words_below : (n h : ℕ) (s : List ℕ) → h < 2 ^ 32 → over_words n h s < 2 ^ 32
words_below zero h s l = l
words_below (suc n) h s l = words_below n (more h (le (take 4 s))) (drop 4 s) (more_below h (le (take 4 s)))

bytes_below : (h : ℕ) (s : List ℕ) → h < 2 ^ 32 → over_bytes h s < 2 ^ 32
bytes_below h [] l = l
bytes_below h (b ∷ s) l = bytes_below (more h b) s (more_below h b)

tag_below : (s : List ℕ) → tag_of s < 2 ^ 32
tag_below s = bytes_below (over_words (length s / 4) 0 s) (drop (4 * (length s / 4)) s) (words_below (length s / 4) 0 s (omega arith))

-- one of m parts of the tags
part_under : (m t : ℕ) → 1 ≤ m → t < 2 ^ 32 → t / (2 ^ 32 / m + 1) < m
part_under m t l h = (div-lt_iff_lt-mul {k = 2 ^ 32 / m + 1} (omega arith)).1 (lt_of_lt_of_le h (le_of_lt (lt-mul-div-succ (2 ^ 32) l)))

pub bucket_under : (m b : ℕ) (k : List ℕ) → 1 ≤ m → b ≡ bucket_of m k → b < m
unfolding bucket_of
bucket_under m b k l q = rw q (part_under m (tag_of k) l (tag_below k))
