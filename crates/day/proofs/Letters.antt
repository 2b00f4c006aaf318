-- The letter of a line tells its event: where a test for one letter holds, none for another does.
use Prim.Native.Nat.{ℕ}
use mathlib.Core.Path.{◌≡◌, refl}
use mathlib.Core.Bool.{Bool, true, false, ◌||◌}
use borrow.Author.Tests.{eqb-true}
use lib.Dec.{eqb}
use Rattle.layout.specs.Records.{type_of}
use Rattle.layout.specs.declared.Event.{Event}
use Rattle.day.specs.History.{is_new, is_execution, is_break, is_replace, is_maker}
use Rattle.day.specs.Quotes.{is_fill}

one_letter : (t a b : ℕ) → eqb t a ≡ true → eqb a b ≡ false → eqb t b ≡ false
one_letter t a b e d = rw (eqb-true t a e) d

-- of two letters
two_letters : (t a c b : ℕ) → (eqb t a || eqb t c) ≡ true → eqb a b ≡ false → eqb c b ≡ false → eqb t b ≡ false
two_letters t a c b e d f = go (eqb t a) refl e
  where
    go : (x : Bool) → eqb t a ≡ x → (x || eqb t c) ≡ true → eqb t b ≡ false
    go true p q = one_letter t a b p d
    go false p q = one_letter t c b q f

module _ (e : Event) where
  pub replace_old : is_replace e ≡ true → is_new e ≡ false
  replace_old q = one_letter (type_of e) 85 65 q refl

  pub replace_unfilled : is_replace e ≡ true → is_fill e ≡ false
  replace_unfilled q = rw (one_letter (type_of e) 85 69 q refl, one_letter (type_of e) 85 67 q refl)

  pub new_unfilled : is_new e ≡ true → is_fill e ≡ false
  new_unfilled q = rw (one_letter (type_of e) 65 69 q refl, one_letter (type_of e) 65 67 q refl)

  pub execution_unbroken : is_execution e ≡ true → is_break e ≡ false
  execution_unbroken q = one_letter (type_of e) 69 67 q refl

  pub fill_old : is_fill e ≡ true → is_new e ≡ false
  fill_old q = two_letters (type_of e) 69 67 65 q refl refl

  pub fill_replaces : is_fill e ≡ true → is_replace e ≡ false
  fill_replaces q = two_letters (type_of e) 69 67 85 q refl refl

  pub fill_unmade : is_fill e ≡ true → is_maker e ≡ false
  fill_unmade q = rw (fill_old q, fill_replaces q)
