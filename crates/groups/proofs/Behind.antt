-- Things read one behind another: what the answer for one of them says, and what a loop over them keeps.
use Prim.Native.Nat.{ℕ, ◌+◌, ◌-◌, ◌≤◌, ◌<◌}
use native.Mathlib.Nat.{sub_self}
use native.Mathlib.Omega.{arith}
use mathlib.Core.Path.{◌≡◌, refl, ap, ◌∙◌}
use mathlib.Core.List.{List, [], ◌∷◌, ◌++◌}
use lib.ListN.{length, drop, length-drop}
use lib.Seq.{drop-drop}
use Rattle.std.specs.Prelude.{Some, None}
use Rattle.std.proofs.lemmas.Option.{some_pair_parts}
use Rattle.groups.specs.Taken.{Taken, none, taken, list_in}
use Rattle.groups.specs.Groups.{taken_at, end_at}
use Rattle.groups.proofs.Lists.{Inside, further, list_behind, list_next, list_stop}

-- ---- what the answer for one of them says

-- a thing of w bytes at a place
pub record TakenAt {A : Type 0} (place : ℕ) (a : A) (next : ℕ) (t : Taken A) : Type 0 where
  pub w : ℕ
  pub said : t ≡ taken a w
  pub ends : next ≡ place + w

module _ {A : Type 0} (place : ℕ) where
  pub some_at : {a : A} {next : ℕ} (t : Taken A) → Some (a, next) ≡ taken_at place t → TakenAt place a next t
  some_at none e = cc
  some_at {a} {next} (taken x w) e =
      let p = some_pair_parts a x next (place + w) e in
      record { w = w; said = rw p.0; ends = p.1 }

  pub none_at : (t : Taken A) → None ≡ taken_at place t → t ≡ none
  none_at none e = refl
  none_at (taken x w) e = cc

-- ---- the loop

-- i things are read, from one place to another
pub record ReadTo {A : Type 0} (read : List ℕ → Taken A) (s : List ℕ) (at : ℕ) (xs : List A) (place i : ℕ) : Type 0 where
  pub from : at ≤ place
  pub inside : place ≤ length s
  pub so_far : list_in read i (drop at s) ≡ taken xs (place - at)

module _ {A : Type 0} (read : List ℕ → Taken A) where
  pub read_first : (s : List ℕ) (at : ℕ) → at ≤ length s → ReadTo read s at [] at 0
  read_first s at h = record { from = omega arith; inside = h; so_far = rw sub_self }

  module _ {s : List ℕ} {at : ℕ} {xs : List A} {place i : ℕ} (g : ReadTo read s at xs place i) where
    pub read_end : end_at at (list_in read i (drop at s)) ≡ Some place
    read_end = let back : at + (place - at) ≡ place = omega (arith, g.from) in rw (g.so_far, back)

    here : drop (place - at) (drop at s) ≡ drop place s
    here = let e : at + (place - at) ≡ place = omega (arith, g.from) in drop-drop (place - at) at s ∙ rw e

    -- none is there
    pub read_stop : None ≡ taken_at place (read (drop place s)) → (m : ℕ) → i < m → list_in read m (drop at s) ≡ none
    read_stop e m h = list_stop read i (drop at s) xs (place - at) g.so_far m h (rw here (none_at place (read (drop place s)) e))

    -- one is there
    module _ {a : A} {next : ℕ} (e : Some (a, next) ≡ taken_at place (read (drop place s))) where
      pub one_there : TakenAt place a next (read (drop place s))
      one_there = some_at place (read (drop place s)) e

      with_it : list_in read (i + 1) (drop at s) ≡ taken (xs ++ (a ∷ [])) (next - at)
      with_it =
          let p = one_there in
          let wide : place - at + p.w ≡ next - at = omega (arith, g.from, p.ends) in
          list_next read i (drop at s) xs (place - at) g.so_far a p.w (rw here p.said) ∙ rw wide

      pub read_next : Inside read → ReadTo read s at (xs ++ (a ∷ [])) next (i + 1)
      read_next h =
          let p = one_there in
          let room = h (drop place s) a p.w p.said in
          record { from = omega (arith, g.from, p.ends); inside = omega (arith, g.inside, p.ends, length-drop place s); so_far = with_it }

      -- and those behind it
      pub read_further : (m : ℕ) → i < m
          → list_in read m (drop at s) ≡ further (xs ++ (a ∷ [])) (next - at) (list_in read (m - (i + 1)) (drop (next - at) (drop at s)))
      read_further m h =
          let more : m ≡ i + 1 + (m - (i + 1)) = omega arith in
          ap (λ k. list_in read k (drop at s)) more ∙ list_behind read (i + 1) (m - (i + 1)) (drop at s) ∙ rw with_it
