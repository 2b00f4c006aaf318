-- A record that is written is its line.
use Prim.Native.Nat.{ℕ, ◌+◌, ◌≤◌}
use mathlib.Core.Path.{◌≡◌, refl, sym, ◌∙◌}
use mathlib.Core.Bool.{Bool, true, false, cond}
use mathlib.Core.List.{List}
use native.Mathlib.Omega.{arith}
use borrow.Author.Tests.{le-ltb}
use lib.Dec.{eqb}
use lib.ListN.{length}
use lib.Seq.{sets, sets-eq}
use Rattle.std.specs.Prelude.{Ok, Err}
use Rattle.refusal.specs.declared.Refusal.TheVariants.{Field}
use Rattle.refusal.specs.Answer.{value}
use Rattle.layout.specs.Line.{line_of, unlawful}
use Rattle.layout.specs.Line.{write as write_line}
use Rattle.layout.specs.declared.Record.{Record}
use Rattle.layout.proofs.Answers.{length_line, write_says}
use Rattle.writing.specs.Promises.{Write}
use Rattle.writing.specs.Writes.{check_of, line_from}

none_named : (u : ℕ) → Ok tt ≡ check_of u → eqb u 0 ≡ true
none_named u e = go (eqb u 0) e
  where
    go : (t : Bool) → Ok (tt {0}) ≡ cond t (Ok tt) (Err (Field u)) → t ≡ true
    go true e = refl
    go false e = cc

module _ (r : Record) (l : List ℕ) (h : 140 ≤ length l) (e : Ok tt ≡ check_of (unlawful r)) where
  all_lawful : write_line r l ≡ value tt
  all_lawful = rw (le-ltb (length l) 140 h, none_named (unlawful r) e)

  pub whole_line : (y : List ℕ) → y ≡ sets l 0 (line_from 0 r) → Write r l (Ok tt) y
  unfolding line_of line_from
  whole_line y p =
      let n = length_line r (write_says r l all_lawful) in
      let fits : 0 + length (line_of r) ≤ length l = omega arith in
      record { said = sym all_lawful; out = p ∙ sets-eq (line_of r) l 0 fits ∙ rw (n, all_lawful) }
