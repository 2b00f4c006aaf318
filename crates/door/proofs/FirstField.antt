-- Writing a record names the first field that does not stand.
use Prim.Native.Nat.{ℕ, ◌≤◌, ◌<◌}
use native.Mathlib.Omega.{arith}
use mathlib.Core.Path.{◌≡◌, refl, sym, subst, ◌∙◌}
use mathlib.Core.Bool.{Bool, true, false, cond}
use mathlib.Core.List.{List}
use borrow.Author.Tests.{lt-ltb, le-ltb, ltb-true, ltb-false}
use lib.Dec.{ltb, eqb}
use lib.ListN.{length}
use Rattle.refusal.specs.Answer.{Answer, value, refused}
use Rattle.image.specs.Images.{stands, unwritable}
use Rattle.message.proofs.First.{first_of, judged, Says, judged_says, every_judged, first_judged}
use Rattle.image.proofs.Foremost.{stands_first}
use Rattle.image.proofs.Sooner.{other_length}
use Rattle.door.specs.FirstField.{FirstField}
use Rattle.door.specs.Promises.{write_answer}

no_room : (b before : List ℕ) → length before < 140 → write_answer b before ≡ refused 4 0
no_room b before h = rw (lt-ltb (length before) 140 h)

roomy : (b before : List ℕ) → 140 ≤ length before → write_answer b before ≡ judged (unwritable b) tt
roomy b before h = rw (le-ltb (length before) 140 h)

judges : (b before : List ℕ) → length b ≡ 138 → 140 ≤ length before → write_answer b before ≡ judged (first_of (stands b) 1 24) tt
judges b before w h = roomy b before h ∙ rw (stands_first b w)

-- what is refused by 3 had the room, and what is refused by 4 had not
has_room : (b before : List ℕ) (n : ℕ) → write_answer b before ≡ refused 3 n → 140 ≤ length before
has_room b before n e = go (ltb (length before) 140) refl
  where
    go : (t : Bool) → ltb (length before) 140 ≡ t → 140 ≤ length before
    go true q =
        let no : ◌≡◌ {A = Answer (Unit {0})} (refused 4 0) (refused 3 n) = sym (no_room b before (ltb-true (length before) 140 q)) ∙ e in
        let k : ◌≡◌ {A = ℕ} 4 3 = cc in
        absurd (omega arith)
    go false q = ltb-false (length before) 140 q

by_field : (u : ℕ) → judged {A = Unit {0}} u tt ≡ refused 4 0 → ⊥
by_field u = go (eqb u 0)
  where
    go : (t : Bool) → cond {A = Answer (Unit {0})} t (value tt) (refused 3 u) ≡ refused 4 0 → ⊥
    go true e = let k : ◌≡◌ {A = ℕ} 0 1 = cc in omega arith
    go false e = let k : ◌≡◌ {A = ℕ} 3 4 = cc in omega arith

short : (b before : List ℕ) → write_answer b before ≡ refused 4 0 → length before < 140
short b before e = go (ltb (length before) 140) refl
  where
    go : (t : Bool) → ltb (length before) 140 ≡ t → length before < 140
    go true q = ltb-true (length before) 140 q
    go false q = absurd (by_field (unwritable b) (sym (roomy b before (ltb-false (length before) 140 q)) ∙ e))

says : {a : Answer (Unit {0})} (b before : List ℕ) → length b ≡ 138 → 140 ≤ length before → write_answer b before ≡ a → Says 24 (stands b) tt a
says b before w h e = subst (Says 24 (stands b) tt) (sym (judges b before w h) ∙ e) (judged_says 24 (stands b) tt)

pub first_field : FirstField
first_field =
    record {
      no_room = λ b before. (short b before, no_room b before);
      named = λ b before n w. (
        λ e. let h = has_room b before n e in (h, (says b before w h e).1),
        λ h. judges b before w h.0 ∙ first_judged 24 (stands b) tt n h.1,
      );
      written = λ b before w h. (λ e. (says b before w h e).0, λ k. judges b before w h ∙ every_judged 24 (stands b) tt k);
      other_length = λ b before n h. roomy b before h ∙ rw (← other_length b n);
    }
