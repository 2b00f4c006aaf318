-- Where a reader stands: what the answer about the next piece says of its place, and what is left behind it.
use Prim.Native.Nat.{ℕ, ◌+◌, ◌-◌, ◌≤◌, ◌<◌}
use native.Mathlib.Omega.{arith}
use mathlib.Core.Path.{◌≡◌, refl, sym, ap, ◌∙◌}
use mathlib.Core.Bool.{Bool, true, false, cond}
use mathlib.Core.List.{List}
use borrow.Author.Tests.{ltb-true, ltb-false, lt-ltb, le-ltb}
use lib.Dec.{ltb}
use lib.ListN.{length, get_or, take, drop, drop_of_length-le, length-drop}
use Rattle.piece.specs.Pieces.{pieces, piece_length, next_piece}
use Rattle.piece.specs.Promises.{Nexts}
use Rattle.std.proofs.Common.{Option, Some, None, is_some}
use Rattle.run.proofs.Scan.{at_next}
use Rattle.piece.proofs.Firsts.{first_piece_at}
use Rattle.piece.proofs.Lengths.{ends_at_end, piece_some, piece_inside}
use Rattle.reader.specs.Reading.{past_piece}
use Rattle.reader.specs.Starting.{piece_from, place_behind, place_in}
use Rattle.reader.specs.declared.Reader.{Reader}

module _ (s : List ℕ) (at : ℕ) where
  pub piece_ahead : (e : ℕ) → next_piece s at ≡ Some e → (at < length s) × (e ≡ place_behind s at)
  piece_ahead e h = go (ltb at (length s)) refl h
    where
      go : (t : Bool) → ltb at (length s) ≡ t → cond t (Some (place_behind s at)) None ≡ Some e → (at < length s) × (e ≡ place_behind s at)
      go true l h = (ltb-true at (length s) l, cc)
      go false l h = absurd (let z : ◌≡◌ {A = ℕ} 0 1 = cc in omega arith)

  pub nothing_ahead : next_piece s at ≡ None → (length s ≤ at) × (at ≡ place_behind s at)
  nothing_ahead h = go (ltb at (length s)) refl h
    where
      go : (t : Bool) → ltb at (length s) ≡ t → cond t (Some (place_behind s at)) None ≡ None → (length s ≤ at) × (at ≡ place_behind s at)
      go true l h = absurd (let z : ◌≡◌ {A = ℕ} 0 1 = cc in omega arith)
      go false l h = let past : length s ≤ at = ltb-false at (length s) l in (past, sym (ends_at_end s at past))

  some_ahead : is_some (next_piece s at) ≡ true → at < length s
  some_ahead h = go (ltb at (length s)) refl h
    where
      go : (t : Bool) → ltb at (length s) ≡ t → is_some (cond t (Some (place_behind s at)) None) ≡ true → at < length s
      go true l h = ltb-true at (length s) l
      go false l h = cc

  none_ahead : is_some (next_piece s at) ≡ false → length s ≤ at
  none_ahead h = go (ltb at (length s)) refl h
    where
      go : (t : Bool) → ltb at (length s) ≡ t → is_some (cond t (Some (place_behind s at)) None) ≡ false → length s ≤ at
      go true l h = cc
      go false l h = ltb-false at (length s) l

  pub behind_inside : at ≤ length s → place_behind s at ≤ length s
  behind_inside h = omega (arith, piece_inside (drop at s), length-drop at s)

  pub behind_later : at < length s → at < place_behind s at
  behind_later h = rw (at_next s at h) (omega (arith, piece_some (get_or s at 0) (drop (at + 1) s)))

  -- ---- the pieces that are left

  -- n pieces were counted before
  pub counted : (n e : ℕ) → at < length s → e ≡ place_behind s at → n + length (pieces (drop at s)) ≡ n + 1 + length (pieces (drop e s))
  counted n e h k = rw (first_piece_at s at h, k) (omega arith)

  -- ---- the piece that is handed over

  pub part_said : (e : ℕ) → e ≡ place_behind s at → take (e - at) (drop at s) ≡ piece_from s at
  part_said e h = let same : e - at ≡ piece_length (drop at s) = omega arith in rw same

  pub end_said : (a : ℕ) → length s ≤ at → take (a - a) (drop a s) ≡ piece_from s at
  end_said a h = let none : a - a ≡ 0 = omega arith in rw (none, drop_of_length-le s h)

  pub place_inside : at < length s → place_in s at ≡ at
  place_inside h = rw (lt-ltb at (length s) h)

  pub place_at_end : length s ≤ at → place_in s at ≡ length s
  place_at_end h = rw (le-ltb at (length s) h)

-- ---- a turn over the text s, by what its calls ensure

module _ (r : Reader) (s : List ℕ) {a : Option ℕ} (over : r.text.now ≡ s) (answer : Nexts r.text.now r.at a) where
  -- it goes past the piece ahead
  pub goes_past : {q : Reader} → is_some a ≡ true → q ≡ past_piece r → (r.at < length s) × (q.text ≡ r.text) × (q.at ≡ place_behind s r.at)
  goes_past h p =
      let some = rw (answer.said, over) at h in
      (some_ahead s r.at some, ap (λ (x : Reader). x.text) p, ap (λ (x : Reader). x.at) p ∙ ap (λ x. place_behind x r.at) over)

  -- it finds that nothing is left
  pub finds_none : is_some a ≡ false → length s ≤ r.at
  finds_none h = none_ahead s r.at (rw (answer.said, over) at h)
