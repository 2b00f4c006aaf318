-- The ways out of reading a piece, each as the promise says it.
use Prim.Native.Nat.{ℕ, ◌-◌, ◌≤◌}
use mathlib.Core.Path.{◌≡◌, refl, sym, ◌∙◌}
use mathlib.Core.Bool.{Bool, true, false, and-false}
use mathlib.Core.List.{List, [], ◌∷◌}
use native.Mathlib.Nat.{le_of_eq}
use borrow.Author.Tests.{eq-eqb, ne_eqb}
use lib.Dec.{eqb}
use lib.ListN.{length, take, drop, length-drop}
use lib.Seq.{take_all}
use Rattle.std.specs.Prelude.{Result, Ok, Err}
use Rattle.run.specs.Runs.{same, all}
use Rattle.field.specs.Byte.{is_of}
use Rattle.field.specs.declared.Class.TheVariants.{Printable}
use Rattle.refusal.specs.Answer.{answer_by}
use Rattle.refusal.specs.declared.Refusal.{Refusal}
use Rattle.refusal.specs.declared.Refusal.TheVariants.{NoLine, BadByte}
use Rattle.message.specs.Fields.{Fields, breaks, say, read_fields}
use Rattle.layout.specs.Line.{crlf, layout_of, said_by, read}
use Rattle.line.specs.Groups.{group, line_by}
use Rattle.line.specs.Promises.{Read, said_of}
use Rattle.line.specs.declared.Said.{Said}
use Rattle.line.specs.declared.Said.TheVariants.{EndOfDay}

pub not_two : (s : List ℕ) → (length s ≡ 2 → ⊥) → false ≡ same s crlf
not_two [] h = refl
not_two (a ∷ []) h = sym (and-false (eqb a 13))
not_two (a ∷ b ∷ []) h = absurd (h refl)
not_two (a ∷ b ∷ c ∷ s) h = sym (rw and-false (and-false (eqb a 13)))

pub end_of_day : (s : List ℕ) (b : Bool) → b ≡ same s crlf → b ≡ true → Read s (Ok EndOfDay)
unfolding read
end_of_day s b e t = record { said = rw (sym e ∙ t) }

module _ (s : List ℕ) (b : Bool) (e : b ≡ same s crlf) (f : b ≡ false) where
  no_end : same s crlf ≡ false
  no_end = sym e ∙ f

  pub other_length : (length s ≡ 140 → ⊥) → Read s (Err NoLine)
  unfolding read
  other_length h = record { said = rw (no_end, ne_eqb (length s) 140 h) }

  module _ (h : length s ≡ 140) (d : Bool) (l : d ≡ same (take (length s - 138) (drop 138 s)) crlf) where
    tail_is : d ≡ same (drop 138 s) crlf
    tail_is =
        let m : length (drop 138 s) ≤ length s - 138 = le_of_eq (length-drop 138 s) in
        l ∙ rw (take_all (length s - 138) (drop 138 s) m)

    pub other_end : d ≡ false → Read s (Err NoLine)
    unfolding read
    other_end q = record { said = rw (no_end, eq-eqb (length s) 140 h, sym tail_is ∙ q) }

    module _ (q : d ≡ true) (p : Bool) (a : p ≡ all (is_of Printable) (take 138 s)) where
      pub odd_byte : p ≡ false → Read s (Err BadByte)
      unfolding read
      odd_byte z = record { said = rw (no_end, eq-eqb (length s) 140 h, sym tail_is ∙ q, sym a ∙ z) }

      pub by_fields : (x : Result Said Refusal) → p ≡ true → x ≡ line_by (group 0 24 s) → Read s x
      unfolding read
      by_fields x z k =
          record { said = rw (k, no_end, eq-eqb (length s) 140 h, sym tail_is ∙ q, sym a ∙ z) (said_is (read_fields (layout_of s) [] s)) }
        where
          said_is : (g : Fields) → answer_by said_of (line_by g) ≡ said_by g
          said_is (breaks n) = refl
          said_is (say vs) = refl
