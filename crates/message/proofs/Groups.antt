-- Fields read and checked a group at a time: what each group says by itself makes what all of them say.
use Rattle.std.specs.Prelude.{Option, Some, None}
use Prim.Native.Nat.{ℕ, zero, suc, ◌+◌, ◌<◌}
use native.Mathlib.Nat.{add-zero}
use native.Mathlib.Omega.{arith}
use mathlib.Core.Path.{◌≡◌, refl}
use mathlib.Core.Bool.{Bool, true, false, cond, ◌&&◌}
use mathlib.Core.List.{List, [], ◌∷◌, ◌++◌, append_assoc, append-nil}
use borrow.Author.Tests.{eqb-true}
use lib.Dec.{eqb}
use lib.ListN.{length, length-append}
use Rattle.run.specs.Found.{or_else}
use Rattle.run.specs.Runs.{part}
use Rattle.run.proofs.Tests.{both}
use Rattle.message.specs.Fields.{Field, Fields, placed, breaks, say, on_got, read_fields, first_unlawful}
use Rattle.message.specs.Rule.{Value, reads, lawful}

-- what is read behind a group
abbrev pub then_read : Fields → (List Value → Fields) → Fields
then_read (breaks n) next = breaks n
then_read (say vs) next = next vs

behind : (fs gs : List Field) (vs us : List Value) (s : List ℕ)
    → read_fields (fs ++ gs) (vs ++ us) s ≡ then_read (read_fields fs us s) (λ ws. read_fields gs (vs ++ ws) s)
behind [] gs vs us s = refl
behind (f ∷ fs) gs vs us s = go (reads f.rule (part s f.at f.len)) (λ v. behind fs gs vs (us ++ (v ∷ [])) s)
  where
    go : (g : Option Value)
        → ((v : Value) → read_fields (fs ++ gs) (vs ++ (us ++ (v ∷ []))) s ≡ then_read (read_fields fs (us ++ (v ∷ [])) s) (λ ws. read_fields gs (vs ++ ws) s))
        → on_got g f.no (λ v. read_fields (fs ++ gs) ((vs ++ us) ++ (v ∷ [])) s)
        ≡ then_read (on_got g f.no (λ v. read_fields fs (us ++ (v ∷ [])) s)) (λ ws. read_fields gs (vs ++ ws) s)
    go (Some v) ih = rw append_assoc (ih v)
    go None ih = refl

-- one group, then another behind those that said vs
pub read_append : (fs gs : List Field) (vs : List Value) (s : List ℕ)
    → read_fields (fs ++ gs) vs s ≡ then_read (read_fields fs [] s) (λ ws. read_fields gs (vs ++ ws) s)
read_append fs gs vs s = rw append-nil at (behind fs gs vs [] s)

broken_says : {n : ℕ} {us : List Value} → breaks n ≡ say us → ⊥
broken_says e = cc

-- as many values as fields
pub read_length : (fs : List Field) (vs us : List Value) (s : List ℕ) → read_fields fs vs s ≡ say us → length us ≡ length vs + length fs
read_length [] vs us s e = let z : vs ≡ us = cc in rw (← z, add-zero)
read_length (f ∷ fs) vs us s e = go (reads f.rule (part s f.at f.len)) (λ v. read_length fs (vs ++ (v ∷ [])) us s) e
  where
    go : (g : Option Value) → ((v : Value) → read_fields fs (vs ++ (v ∷ [])) s ≡ say us → length us ≡ length (vs ++ (v ∷ [])) + length fs)
        → on_got g f.no (λ v. read_fields fs (vs ++ (v ∷ [])) s) ≡ say us → length us ≡ length vs + suc (length fs)
    go (Some v) ih h = omega (arith, ih v h, length-append vs (v ∷ []))
    go None ih h = absurd (broken_says h)

-- five groups, one behind the other
abbrev pub five_read : (a b c d e : Fields) → Fields
five_read a b c d e =
    then_read a (λ t. then_read b (λ u. then_read c (λ v. then_read d (λ w. then_read e (λ x. say ((((t ++ u) ++ v) ++ w) ++ x))))))

pub read_five : (a b c d e : List Field) (s : List ℕ) → let r : List Field → Fields = λ fs. read_fields fs [] s in
    read_fields (a ++ (b ++ (c ++ (d ++ (e ++ []))))) [] s ≡ five_read (r a) (r b) (r c) (r d) (r e)
read_five a b c d e s = simp read_append

-- the first unlawful value is one of the first group's, or else one behind it
pub first_append : (fs gs : List Field) (vs us : List Value) (n at : ℕ) → 0 < n → placed n at fs ≡ true → length vs ≡ length fs
    → first_unlawful (fs ++ gs) (vs ++ us) ≡ or_else (first_unlawful fs vs) (first_unlawful gs us)
first_append [] gs [] us n at p t l = refl
first_append [] gs (v ∷ vs) us n at p t l = absurd (omega arith)
first_append (f ∷ fs) gs [] us n at p t l = absurd (omega arith)
first_append (f ∷ fs) gs (v ∷ vs) us n at p t l =
    let a = both (eqb f.no n && eqb f.at at) (placed (n + 1) (at + f.len) fs) t in
    let same = eqb-true f.no n (both (eqb f.no n) (eqb f.at at) a.0).0 in
    go (lawful f.rule f.len v) (first_append fs gs vs us (n + 1) (at + f.len) (omega arith) a.1 (omega arith)) (omega arith)
  where
    some : (m k : ℕ) → 0 < m → m ≡ or_else m k
    some zero k h = absurd (omega arith)
    some (suc m) k h = refl

    go : (x : Bool) → first_unlawful (fs ++ gs) (vs ++ us) ≡ or_else (first_unlawful fs vs) (first_unlawful gs us) → 0 < f.no
        → cond x (first_unlawful (fs ++ gs) (vs ++ us)) f.no ≡ or_else (cond x (first_unlawful fs vs) f.no) (first_unlawful gs us)
    go true ih h = ih
    go false ih h = some f.no (first_unlawful gs us) h
