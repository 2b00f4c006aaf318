-- A part of a piece behind what is held of it: as much as there is room for is as much as is kept.
use Prim.Native.Nat.{ℕ, ◌+◌, ◌-◌, ◌≤◌}
use native.Mathlib.Nat.{min_comm, min-le_left, min-le_right}
use native.Mathlib.Omega.{arith}
use mathlib.Core.Path.{◌≡◌, sym, ap, ◌∙◌}
use mathlib.Core.List.{List, ◌++◌}
use lib.ListN.{length, take, length-append}
use lib.Seq.{sets, sets-eq, length-take-le, take_at, take-append-add}
use Rattle.std.specs.Prelude.{min}
use Rattle.std.proofs.lemmas.List.{take_min}
use Rattle.feed.specs.Steps.{held_in, hold_length, kept_of}

-- n bytes of the part are taken
module _ (hold part : List ℕ) (held n : ℕ) (long : length hold ≡ hold_length) (few : held ≤ hold_length) (least : n ≡ min (length part) (hold_length - held)) where
  taken : take n part ≡ take (hold_length - held) part
  taken = rw (least, min_comm (length part) (hold_length - held)) (take_min (hold_length - held) part)

  -- the front of what is held, and the part behind it
  held_then : held_in (sets hold held (take n part)) (held + n) ≡ held_in hold held ++ take n part
  held_then =
      let front : length (take held hold) ≡ held = length-take-le held hold (omega arith) in
      let run : length (take n part) ≡ n = length-take-le n part (omega (arith, min-le_left (length part) (hold_length - held))) in
      let fits : held + length (take n part) ≤ length hold = omega (arith, min-le_right (length part) (hold_length - held)) in
      let both : length (take held hold ++ take n part) ≡ held + n = length-append (take held hold) (take n part) ∙ rw (front, run) in
      ap (take (held + n)) (sets-eq (take n part) hold held fits)
      ∙ take_at (take held hold ++ take n part) _ (held + n) both

  verbatim_then : kept_of (held_in hold held ++ part) ≡ held_in hold held ++ take (hold_length - held) part
  verbatim_then =
      let front : length (take held hold) ≡ held = length-take-le held hold (omega arith) in
      let all : hold_length ≡ length (take held hold) + (hold_length - held) = omega arith in
      ap (λ k. take k (take held hold ++ part)) all ∙ take-append-add (take held hold) part (hold_length - held)

  pub keeps : {after : List ℕ} → after ≡ sets hold held (take n part) → held_in after (held + n) ≡ kept_of (held_in hold held ++ part)
  keeps e = rw e (held_then ∙ rw taken (sym verbatim_then))
