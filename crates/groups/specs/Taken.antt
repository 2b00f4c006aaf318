-- What stands at the front of bytes and how many of them it takes, things of one kind one behind another, and when writing and reading them fit.
use Rattle.std.specs.Prelude.{ℕ, zero, suc, ◌+◌, ◌≡◌, Bool, true, ◌&&◌, List, [], ◌∷◌, ◌++◌, ltb, eqb, length, drop}
use Rattle.run.specs.Runs.{all}

pub data Taken (A : Type 0) : Type 0 where
  none : Taken A
  taken : A → ℕ → Taken A

-- one thing of w bytes, and behind it others
abbrev pub ahead : {A : Type 0} → A → ℕ → Taken (List A) → Taken (List A)
ahead a w none = none
ahead a w (taken xs u) = taken (a ∷ xs) (w + u)

abbrev pub behind : {A B : Type 0} → Taken A → (A → ℕ → Taken B) → Taken B
behind none next = none
behind (taken a w) next = next a w

-- n of a kind, one behind another
abbrev pub list_in : {A : Type 0} → (List ℕ → Taken A) → ℕ → List ℕ → Taken (List A)
list_in read zero s = taken [] 0
list_in read (suc n) s = behind (read s) (λ a w. ahead a w (list_in read n (drop w s)))

abbrev pub joined : {A : Type 0} → (A → List ℕ) → List A → List ℕ
joined write [] = []
joined write (a ∷ xs) = write a ++ joined write xs

abbrev pub all_of : {A : Type 0} → (A → Bool) → List A → Bool
all_of test [] = true
all_of test (a ∷ xs) = test a && all_of test xs

abbrev pub AreBytes : List ℕ → Type 0
AreBytes s = all (λ b. ltb b 256) s ≡ true

-- what is written is read back, whatever stands behind it; what is read is lawful and is written as the very bytes
pub record Exact {A : Type 0} (lawful : A → Bool) (read : List ℕ → Taken A) (write : A → List ℕ) : Type 0 where
  pub back : (a : A) (s : List ℕ) → lawful a ≡ true → read (write a ++ s) ≡ taken a (length (write a))
  pub sound : (s : List ℕ) (a : A) (w : ℕ) → AreBytes s → read s ≡ taken a w → lawful a ≡ true
  pub used : (s : List ℕ) (a : A) (w : ℕ) → AreBytes s → read s ≡ taken a w → w ≡ length (write a)
  pub forth : (s : List ℕ) (a : A) (w : ℕ) → AreBytes s → read s ≡ taken a w → write a ++ drop w s ≡ s

-- n lawful things
abbrev pub lawful_list : {A : Type 0} → (A → Bool) → ℕ → List A → Bool
lawful_list lawful n xs = eqb (length xs) n && all_of lawful xs
