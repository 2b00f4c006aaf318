-- A lawful value has the one form that its field's rule leaves it: so what is made of the values of all fields can be told by computation.
use Prim.Native.Nat.{ℕ}
use mathlib.Core.Path.{◌≡◌, refl, sym, ap, ap₂}
use mathlib.Core.Bool.{true, false≢true}
use mathlib.Core.List.{List, [], ◌∷◌}
use borrow.Author.Tests.{eqb-true}
use lib.Dec.{eqb}
use lib.ListN.{length, get_or, drop, replicate}
use Rattle.field.specs.Verbatim.{is_code, is_blank}
use Rattle.message.specs.Fields.{Field}
use Rattle.message.specs.Rule.{Kind, text, text_or_blank, blank, digits_or_blank, hex, is_kind, Rule, number, digits, price, code, verbatim}
use Rattle.message.specs.Rule.{Value, num, run, lawful}
use Rattle.message.specs.Values.{one, missing, num_of, run_of}
use Rattle.run.proofs.Tests.{both}
use Rattle.message.proofs.Fields.{LawfulFrom, none, more}

abbrev form : Kind → ℕ → List ℕ → Value
form text w b = run b
form text_or_blank w b = run b
form blank w b = missing w
form digits_or_blank w b = run b
form hex w b = run b

abbrev formed : Rule → ℕ → Value → Value
formed (number least most) w v = num (num_of v)
formed (digits least most) w v = num (num_of v)
formed price w v = num (num_of v)
formed (code codes) w v = one (get_or (run_of v) 0 0)
formed (verbatim kind) w v = form kind w (run_of v)

code_form : (codes b : List ℕ) → is_code codes b ≡ true → one (get_or b 0 0) ≡ run b
code_form codes [] e = absurd (false≢true e)
code_form codes (b ∷ []) e = refl
code_form codes (b ∷ c ∷ s) e = absurd (false≢true e)

pub all_spaces : (b : List ℕ) → is_blank b ≡ true → replicate (length b) 32 ≡ b
all_spaces [] e = refl
all_spaces (b ∷ s) e =
    let h = both (eqb b 32) (is_blank s) e in
    ap₂ {B = List ℕ} {C = List ℕ} ◌∷◌ (sym (eqb-true b 32 h.0)) (all_spaces s h.1)

kind_form : (kind : Kind) (b : List ℕ) → is_kind kind b ≡ true → form kind (length b) b ≡ run b
kind_form text b e = refl
kind_form text_or_blank b e = refl
kind_form blank b e = ap run (all_spaces b e)
kind_form digits_or_blank b e = refl
kind_form hex b e = refl

lawful_formed : (k : Rule) (w : ℕ) (v : Value) → lawful k w v ≡ true → formed k w v ≡ v
lawful_formed (number least most) w (num v) e = refl
lawful_formed (number least most) w (run b) e = absurd (false≢true e)
lawful_formed (digits least most) w (num v) e = refl
lawful_formed (digits least most) w (run b) e = absurd (false≢true e)
lawful_formed price w (num v) e = refl
lawful_formed price w (run b) e = absurd (false≢true e)
lawful_formed (code codes) w (num v) e = absurd (false≢true e)
lawful_formed (code codes) w (run b) e = code_form codes b (both (eqb (length b) w) (is_code codes b) e).1
lawful_formed (verbatim kind) w (num v) e = absurd (false≢true e)
lawful_formed (verbatim kind) w (run b) e =
    let h = both (eqb (length b) w) (is_kind kind b) e in
    rw (← eqb-true (length b) w h.0) (kind_form kind b h.1)

-- vs, each in the form that its field leaves it
abbrev pub shape : List Field → List Value → List Value
shape [] vs = []
shape (f ∷ fs) vs = formed f.rule f.len (get_or vs 0 (num 0)) ∷ shape fs (drop 1 vs)

pub lawful_shape : {at : ℕ} {fields : List Field} {vs : List Value} → LawfulFrom at fields vs → shape fields vs ≡ vs
lawful_shape none = refl
lawful_shape (more {f = f} {v = v} a q l h) = ap₂ {B = List Value} {C = List Value} ◌∷◌ (lawful_formed f.rule f.len v l) (lawful_shape h)
