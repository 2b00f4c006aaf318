-- The saved day does what its statement says, for every limit that 64 bits hold.
use Prim.Native.Nat.{ℕ, ◌^◌, ◌<◌}
use mathlib.Core.Path.{◌≡◌, refl, sym, ap, ◌∙◌}
use mathlib.Core.Bool.{Bool, true, false, cond, ◌&&◌}
use mathlib.Core.List.{List}
use borrow.Author.Tests.{lt-ltb, ltb-true}
use lib.Dec.{eqb}
use lib.ListN.{length, drop}
use Rattle.refusal.specs.Answer.{Answer, value, refused}
use Rattle.layout.proofs.Forms.{no_value}
use Rattle.day.specs.Damage.{undamaged}
use Rattle.day.specs.Tables.{Table}
use Rattle.groups.specs.Taken.{Taken, none, taken, list_in, AreBytes}
use Rattle.groups.specs.Groups.{number_in}
use Rattle.groups.proofs.Numbers.{number_exact, number_most}
use Rattle.saved.specs.Days.{saved_day, front_lawful, table_from, day_of, behind_front, day_in}
use Rattle.saved.specs.SavedDays.{NumberCode, SavedDays}
use Rattle.saved.proofs.Days.{day_back, day_sound, day_forth, same_value}

pub number_code : NumberCode
number_code =
    record {
      back = λ v s h. number_exact.back v s (lt-ltb v (2 ^ 64) h);
      forth = λ s v w b e. (ltb-true v (2 ^ 64) (number_exact.sound s v w b e), number_exact.forth s v w b e);
      fewest = number_most;
    }

-- ---- a day or a 14

data Said : Answer Table → Type 0 where
  day : (t : Table) → Said (value t)
  no_day : Said (refused 14 0)

either : (b : Bool) (x : Answer Table) → Said x → Said (cond b x (refused 14 0))
either true x s = s
either false x s = no_day

said_table : (limit n : ℕ) (x : Taken Table) → Said (day_of limit n x)
said_table limit n none = no_day
said_table limit n (taken t w) = either (eqb w n && undamaged limit t) (value t) (day t)

said_front : (limit : ℕ) (s : List ℕ) (x : Taken (List ℕ)) → Said (behind_front limit s x)
said_front limit s none = no_day
said_front limit s (taken vs u) =
    either (front_lawful limit vs) (day_of limit (length (drop u s)) (table_from vs (drop u s))) (said_table limit (length (drop u s)) (table_from vs (drop u s)))

said : (limit : ℕ) (s : List ℕ) → Said (day_in limit s)
unfolding day_in
said limit s = said_front limit s (list_in number_in 4 s)

same_refusal : {n f m g : ℕ} → ◌≡◌ {A = Answer Table} (refused n f) (refused m g) → (n ≡ m) × (f ≡ g)
same_refusal e = (cc, cc)

pub saved_days : (limit : ℕ) → limit < 2 ^ 64 → SavedDays limit
saved_days limit few =
    record {
      saved_loaded = day_back limit few;
      loaded_saved = λ s t b e. day_forth limit s b t e;
      loaded_sound = λ s t e. day_sound limit s t e;
      one_table = λ t u p q e. same_value (sym (day_back limit few t p) ∙ ap (day_in limit) e ∙ day_back limit few u q);
      no_day = λ s b. (λ e t p q. no_value (sym e ∙ ap (day_in limit) (sym q) ∙ day_back limit few t p), λ h. refused_so s b h (day_in limit s) refl (said limit s));
      no_other = λ s n f e. other s n f (day_in limit s) refl (said limit s) e;
    }
  where
    refused_so : (s : List ℕ) → AreBytes s → ((t : Table) → undamaged limit t ≡ true → saved_day t ≡ s → ⊥) → (x : Answer Table) → day_in limit s ≡ x → Said x → x ≡ refused 14 0
    refused_so s b h x e (day t) = absurd (h t (day_sound limit s t e) (day_forth limit s b t e))
    refused_so s b h x e no_day = refl

    other : (s : List ℕ) (n f : ℕ) (x : Answer Table) → day_in limit s ≡ x → Said x → x ≡ refused n f → (n ≡ 14) × (f ≡ 0)
    other s n f x e (day t) q = absurd (no_value (sym q))
    other s n f x e no_day q = same_refusal (sym q)
