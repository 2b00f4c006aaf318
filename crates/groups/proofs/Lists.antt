-- Things of one kind, one behind another: how many are read, what a loop over them keeps, and that writing and reading them fit where they fit for one.
use Prim.Native.Nat.{ℕ, zero, suc, ◌+◌, ◌-◌, ◌≤◌, ◌<◌}
use native.Mathlib.Nat.{add_assoc, suc-add, zero-add, add-zero}
use native.Mathlib.Omega.{arith}
use mathlib.Core.Path.{◌≡◌, refl, sym, ap, ◌∙◌}
use mathlib.Core.Bool.{Bool, true}
use mathlib.Core.List.{List, [], ◌∷◌, ◌++◌, append_assoc}
use borrow.Author.Tests.{eqb-true, eq-eqb}
use lib.Dec.{ltb, eqb}
use lib.ListN.{length, drop, length-append, length-drop}
use lib.Seq.{drop-append_seam, drop-drop}
use Rattle.groups.specs.Taken.{Taken, none, taken, ahead, behind, list_in, joined, all_of, AreBytes, Exact, lawful_list}
use Rattle.run.proofs.All.{all_drop}
use Rattle.run.proofs.Tests.{both}

-- what is read lies inside the bytes
abbrev pub Inside : {A : Type 0} → (List ℕ → Taken A) → Type 0
Inside {A} read = (s : List ℕ) (a : A) (w : ℕ) → read s ≡ taken a w → w ≤ length s

-- things read so far over w bytes, and those behind them
abbrev pub further : {A : Type 0} → List A → ℕ → Taken (List A) → Taken (List A)
further xs w none = none
further xs w (taken ys u) = taken (xs ++ ys) (w + u)

module _ {A : Type 0} (write : A → List ℕ) where
  pub joined_append : (xs ys : List A) → joined write (xs ++ ys) ≡ joined write xs ++ joined write ys
  joined_append [] ys = refl
  joined_append (a ∷ xs) ys = rw (joined_append xs ys) (sym (append_assoc (write a) (joined write xs) (joined write ys)))

-- the first thing of a list that is read, and the others
record Split {A : Type 0} (read : List ℕ → Taken A) (n : ℕ) (s : List ℕ) (xs : List A) (w : ℕ) : Type 0 where
  first : A
  others : List A
  u : ℕ
  v : ℕ
  one : read s ≡ taken first u
  more : list_in read n (drop u s) ≡ taken others v
  all_read : xs ≡ first ∷ others
  wide : w ≡ u + v

module _ {A : Type 0} (read : List ℕ → Taken A) where
  split : (n : ℕ) (s : List ℕ) (xs : List A) (w : ℕ) → list_in read (suc n) s ≡ taken xs w → Split read n s xs w
  split n s xs w e = go (read s) refl e
    where
      rest : (a : A) (u : ℕ) (t : Taken (List A)) → read s ≡ taken a u → list_in read n (drop u s) ≡ t → ahead a u t ≡ taken xs w → Split read n s xs w
      rest a u none p q r = cc
      rest a u (taken ys v) p q r = record { first = a; others = ys; u = u; v = v; one = p; more = q; all_read = cc; wide = cc }

      go : (t : Taken A) → read s ≡ t → behind t (λ a u. ahead a u (list_in read n (drop u s))) ≡ taken xs w → Split read n s xs w
      go none p r = cc
      go (taken a u) p r = rest a u (list_in read n (drop u s)) p refl r

  pub length_list_in : (n : ℕ) (s : List ℕ) (xs : List A) (w : ℕ) → list_in read n s ≡ taken xs w → length xs ≡ n
  length_list_in zero s xs w e = let z : xs ≡ [] = cc in rw z
  length_list_in (suc n) s xs w e =
      let p = split n s xs w e in
      rw p.all_read (ap suc (length_list_in n (drop p.u s) p.others p.v p.more))

  pub list_inside : Inside read → (n : ℕ) → Inside (list_in read n)
  list_inside h zero s xs w e = let z : w ≡ 0 = cc in omega arith
  list_inside h (suc n) s xs w e =
      let p = split n s xs w e in
      let one = h s p.first p.u p.one in
      let more = list_inside h n (drop p.u s) p.others p.v p.more in
      omega (arith, p.wide, length-drop p.u s)

  -- n things, and m behind them
  pub list_behind : (n m : ℕ) (s : List ℕ) → list_in read (n + m) s ≡ behind (list_in read n s) (λ xs w. further xs w (list_in read m (drop w s)))
  list_behind zero m s = rw zero-add (go (list_in read m s))
    where
      go : (t : Taken (List A)) → t ≡ further [] 0 t
      go none = refl
      go (taken ys u) = rw zero-add
  list_behind (suc n) m s = rw (suc-add n m) (go (read s) (list_behind n m))
    where
      whole : (a : A) (w : ℕ) (xs : List A) (u : ℕ) (t : Taken (List A)) → ahead a w (further xs u t) ≡ further (a ∷ xs) (w + u) t
      whole a w xs u none = refl
      whole a w xs u (taken ys v) = rw (add_assoc w u v)

      rest : (a : A) (w : ℕ) (t : Taken (List A)) → ahead a w (behind t (λ xs u. further xs u (list_in read m (drop u (drop w s))))) ≡ behind (ahead a w t) (λ xs u. further xs u (list_in read m (drop u s)))
      rest a w none = refl
      rest a w (taken xs u) = rw (drop-drop u w s) (whole a w xs u (list_in read m (drop (w + u) s)))

      go : (t : Taken A) → ((s : List ℕ) → list_in read (n + m) s ≡ behind (list_in read n s) (λ xs w. further xs w (list_in read m (drop w s))))
          → behind t (λ a w. ahead a w (list_in read (n + m) (drop w s)))
          ≡ behind (behind t (λ a w. ahead a w (list_in read n (drop w s)))) (λ xs w. further xs w (list_in read m (drop w s)))
      go none more = refl
      go (taken a w) more = rw (more (drop w s)) (rest a w (list_in read n (drop w s)))

  -- ---- what a loop keeps: n things are read, over w bytes; then there is one more, or none and so no longer list

  module _ (n : ℕ) (s : List ℕ) (xs : List A) (w : ℕ) (e : list_in read n s ≡ taken xs w) where
    pub list_next : (a : A) (u : ℕ) → read (drop w s) ≡ taken a u → list_in read (n + 1) s ≡ taken (xs ++ (a ∷ [])) (w + u)
    list_next a u p = list_behind n 1 s ∙ rw (e, p, add-zero u)

    pub list_stop : (m : ℕ) → n < m → read (drop w s) ≡ none → list_in read m s ≡ none
    list_stop m h p = let more : m ≡ n + suc (m - (n + 1)) = omega arith in rw more (list_behind n (suc (m - (n + 1))) s ∙ rw (e, p))

-- ---- writing and reading

module _ {A : Type 0} {lawful : A → Bool} {read : List ℕ → Taken A} {write : A → List ℕ} (exact : Exact lawful read write) where
  list_back : (n : ℕ) (xs : List A) (s : List ℕ) → lawful_list lawful n xs ≡ true → list_in read n (joined write xs ++ s) ≡ taken xs (length (joined write xs))
  list_back zero [] s h = refl
  list_back zero (a ∷ xs) s h = let z = eqb-true (suc (length xs)) 0 (both (eqb (suc (length xs)) 0) (all_of lawful (a ∷ xs)) h).0 in absurd (omega arith)
  list_back (suc n) [] s h = let z = eqb-true 0 (suc n) (both (eqb 0 (suc n)) true h).0 in absurd (omega arith)
  list_back (suc n) (a ∷ xs) s h =
      let p = both (eqb (suc (length xs)) (suc n)) (all_of lawful (a ∷ xs)) h in
      let q = both (lawful a) (all_of lawful xs) p.1 in
      let long : length xs ≡ n = let z = eqb-true (suc (length xs)) (suc n) p.0 in omega arith in
      let more : lawful_list lawful n xs ≡ true = rw (eq-eqb (length xs) n long) q.1 in
      rw (append_assoc (write a) (joined write xs) s, exact.back a (joined write xs ++ s) q.0, drop-append_seam (write a) (joined write xs ++ s), list_back n xs s more)
      (ap (taken (a ∷ xs)) (sym (length-append (write a) (joined write xs))))

  -- what is read is lawful, and is written as the very bytes
  record Written (s : List ℕ) (xs : List A) (w : ℕ) : Type 0 where
    each : all_of lawful xs ≡ true
    wide : w ≡ length (joined write xs)
    same : joined write xs ++ drop w s ≡ s

  written_ahead : (s : List ℕ) (xs ys : List A) (a : A) (w u v : ℕ) → AreBytes s → read s ≡ taken a u → xs ≡ a ∷ ys → w ≡ u + v
      → Written (drop u s) ys v → Written s xs w
  written_ahead s xs ys a w u v b one e d more =
      let used = exact.used s a u b one in
      record {
        each = rw (e, exact.sound s a u b one) more.each;
        wide = rw e (omega (arith, length-append (write a) (joined write ys), more.wide));
        same = rw (e, d, append_assoc (write a) (joined write ys) (drop (u + v) s), ← (drop-drop v u s), more.same) (exact.forth s a u b one);
      }

  list_forth : (n : ℕ) (s : List ℕ) (xs : List A) (w : ℕ) → AreBytes s → list_in read n s ≡ taken xs w → Written s xs w
  list_forth zero s xs w b e =
      let none_read : xs ≡ [] = cc in
      let no_byte : w ≡ 0 = cc in
      record { each = rw none_read; wide = rw (none_read, no_byte); same = rw (none_read, no_byte) }
  list_forth (suc n) s xs w b e =
      let p = split read n s xs w e in
      let more = list_forth n (drop p.u s) p.others p.v (all_drop (λ b. ltb b 256) s p.u b) p.more in
      written_ahead s xs p.others p.first w p.u p.v b p.one p.all_read p.wide more

pub list_exact : {A : Type 0} {lawful : A → Bool} {read : List ℕ → Taken A} {write : A → List ℕ} → Exact lawful read write → (n : ℕ)
    → Exact (lawful_list lawful n) (list_in read n) (joined write)
list_exact {A} {lawful} {read} {write} exact n =
    record {
      back = list_back exact n;
      sound = λ s xs w b e. rw (eq-eqb (length xs) n (length_list_in read n s xs w e)) (list_forth exact n s xs w b e).each;
      used = λ s xs w b e. (list_forth exact n s xs w b e).wide;
      forth = λ s xs w b e. (list_forth exact n s xs w b e).same;
    }
