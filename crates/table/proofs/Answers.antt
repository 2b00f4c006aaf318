-- What the tests of the damage check say of its answer, over plain variables: one law for each way out.
use Prim.Native.Nat.{ℕ, ◌≤◌, ◌<◌}
use native.Mathlib.Omega.{arith}
use mathlib.Core.Path.{◌≡◌, refl, sym, ◌∙◌}
use mathlib.Core.Bool.{Bool, true, false, not, ◌&&◌, false≢true}
use mathlib.Core.List.{List}
use borrow.Author.Tests.{lt-ltb, le-leb, not-true, not-false}
use lib.ListN.{length, get_or}
use Rattle.table.specs.Tables.{limit_of, count_in, header_sound, slots_sound, rows_sound, sound}
use Rattle.table.proofs.Sound.{sound_apart}

-- ---- a test, and what it was said to be

pub refuted : (r t : Bool) → r ≡ t → not r ≡ true → t ≡ false
refuted r t e h = sym e ∙ not-true r h

pub upheld : (r t : Bool) → r ≡ t → not r ≡ false → t ≡ true
upheld r t e h = sym e ∙ not-false r h

-- ---- a table

never : (b : Bool) → (b ≡ true → ⊥) → false ≡ b
never true h = absurd (h refl)
never false h = refl

module _ (s : List ℕ) where
  pub no_limit : limit_of (length s) ≡ 0 → false ≡ sound s
  no_limit e = never (sound s) (λ good. omega (arith, (sound_apart s good).bytes.meant))

  pub too_many : limit_of (length s) < count_in s → false ≡ sound s
  too_many h = never (sound s) (λ good. omega (arith, (sound_apart s good).bytes.few))

  its_header : sound s ≡ true → header_sound s ≡ true
  its_header good = let b = (sound_apart s good).bytes in rw (le-leb (get_or s 4 0) 1 b.mark, b.spare)

  pub bad_header : header_sound s ≡ false → false ≡ sound s
  bad_header e = never (sound s) (λ good. false≢true (sym e ∙ its_header good))

  pub good_header : 0 < limit_of (length s) → count_in s ≤ limit_of (length s) → header_sound s ≡ true → (slots_sound s && rows_sound s) ≡ sound s
  unfolding sound
  good_header h k e = rw (lt-ltb 0 (limit_of (length s)) h, le-leb (count_in s) (limit_of (length s)) k, e)
