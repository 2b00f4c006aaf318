-- What the loops that write keep: what is stored, and what is left to store, give the same end.
use Prim.Native.Nat.{ℕ, suc, ◌+◌, ◌-◌, ◌/◌, ◌%◌, ◌^◌, ◌≤◌, ◌<◌}
use native.Mathlib.Nat.{pow-suc}
use native.Mathlib.Numerals.{add-one}
use native.Mathlib.Omega.{arith}
use mathlib.Core.Path.{◌≡◌, ◌∙◌}
use mathlib.Core.List.{List, [], ◌∷◌}
use lib.ListN.{length, drop, set, length-set}
use lib.Seq.{sets}
use Rattle.groups.specs.Taken.{joined}
use Rattle.groups.specs.Groups.{groups_of, number_bytes, Puts}
use Rattle.groups.proofs.Numbers.{written_last, written_more, some_group}

-- ---- the groups of a number

pub record Putting (before : List ℕ) (at v : ℕ) (out : List ℕ) (rest i : ℕ) : Type 0 where
  pub from : at ≤ i
  pub few : i - at ≤ 9
  pub small : rest < 128 ^ (10 - (i - at))
  pub long : length out ≡ length before
  pub ends : i + length (groups_of (10 - (i - at)) rest) ≡ at + length (number_bytes v)
  pub same_end : sets out i (groups_of (10 - (i - at)) rest) ≡ sets before at (number_bytes v)

module _ {before : List ℕ} {at v : ℕ} {out : List ℕ} {rest i : ℕ} (g : Putting before at v out rest i) where
  -- one group is left, or it and others
  left : 10 - (i - at) ≡ suc (9 - (i - at))
  left = omega (arith, g.few)

  left_last : rest < 128 → groups_of (10 - (i - at)) rest ≡ rest ∷ []
  left_last h = rw left (written_last (9 - (i - at)) rest h)

  left_more : 128 ≤ rest → groups_of (10 - (i - at)) rest ≡ (128 + rest % 128) ∷ groups_of (9 - (i - at)) (rest / 128)
  left_more h = rw left (written_more (9 - (i - at)) rest h)

  pub put_next : 128 ≤ rest → Putting before at v (set out i (128 + rest % 128)) (rest / 128) (i + 1)
  put_next h =
      let less : rest / 128 < 128 ^ (9 - (i - at)) = omega (arith, pow-suc 128 (9 - (i - at)), rw left at g.small) in
      let more = some_group (9 - (i - at)) (rest / 128) (omega arith) less in
      let next : 10 - (i + 1 - at) ≡ 9 - (i - at) = omega (arith, g.from) in
      let ends = rw (left_more h) at g.ends in
      record {
        from = omega (arith, g.from);
        few = omega (arith, g.from);
        small = rw next less;
        long = length-set out i (128 + rest % 128) ∙ g.long;
        ends = rw next (omega arith);
        same_end = rw (next, add-one i) (rw (left_more h) at g.same_end);
      }

  pub put_last : rest < 128 → Puts (number_bytes v) at before (i + 1) (set out i rest)
  put_last h = record { stored = rw (left_last h) at g.same_end; next = rw (left_last h) at g.ends }

-- ---- numbers one behind another

pub record PuttingAll (before : List ℕ) (at : ℕ) (values out : List ℕ) (place i : ℕ) : Type 0 where
  pub upto : i ≤ length values
  pub long : length out ≡ length before
  pub ends : place + length (joined number_bytes (drop i values)) ≡ at + length (joined number_bytes values)
  pub same_end : sets out place (joined number_bytes (drop i values)) ≡ sets before at (joined number_bytes values)
