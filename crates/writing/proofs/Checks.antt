-- Checking a record a group of fields at a time.
use Prim.Native.Nat.{ℕ, zero, suc, ◌<◌}
use mathlib.Core.Path.{◌≡◌, refl, ap, ◌∙◌}
use mathlib.Core.Bool.{true}
use mathlib.Core.List.{List, ◌++◌}
use native.Mathlib.Omega.{arith}
use borrow.Author.Tests.{ne_eqb}
use lib.Dec.{lit<}
use lib.ListN.{length, take, drop}
use Rattle.std.specs.Prelude.{Result, Ok, Err}
use Rattle.run.specs.Found.{or_else}
use Rattle.refusal.specs.declared.Refusal.{Refusal}
use Rattle.message.specs.Fields.{Field, placed, first_unlawful}
use Rattle.message.specs.Rule.{Value}
use Rattle.message.proofs.Groups.{first_append}
use Rattle.layout.specs.Line.{layout_for, unlawful}
use Rattle.layout.specs.Records.{fields_of}
use Rattle.layout.specs.declared.Record.{Record}
use Rattle.writing.specs.Writes.{check_of, check_group}

-- one check, and where it finds nothing the other
abbrev pub then_check : Result (Unit {0}) Refusal → Result (Unit {0}) Refusal → Result (Unit {0}) Refusal
then_check (Ok u) y = y
then_check (Err x) y = Err x

check_else : (a b : ℕ) → check_of (or_else a b) ≡ then_check (check_of a) (check_of b)
check_else zero b = refl
check_else (suc a) b = rw (ne_eqb (suc a) 0 (omega arith))

check_append : (fs gs : List Field) (vs us : List Value) (n at : ℕ) → 0 < n → placed n at fs ≡ true → length vs ≡ length fs
    → check_of (first_unlawful (fs ++ gs) (vs ++ us)) ≡ then_check (check_of (first_unlawful fs vs)) (check_of (first_unlawful gs us))
check_append fs gs vs us n at p t l = ap check_of (first_append fs gs vs us n at p t l) ∙ check_else (first_unlawful fs vs) (first_unlawful gs us)

pub all_groups : (r : Record)
    → check_of (unlawful r)
    ≡ then_check (check_group 0 6 r) (then_check (check_group 6 12 r) (then_check (check_group 12 17 r) (then_check (check_group 17 22 r) (check_group 22 24 r))))
unfolding unlawful
all_groups r =
    let l = layout_for r in
    let v = fields_of r in
    check_append (take 6 l) (drop 6 l) (take 6 v) (drop 6 v) 1 0 (lit< tt) refl refl
    ∙ ap (then_check (check_group 0 6 r)) (check_append (take 6 (drop 6 l)) (drop 12 l) (take 6 (drop 6 v)) (drop 12 v) 7 16 (lit< tt) refl refl
    ∙ ap (then_check (check_group 6 12 r)) (check_append (take 5 (drop 12 l)) (drop 17 l) (take 5 (drop 12 v)) (drop 17 v) 13 76 (lit< tt) refl refl
    ∙ ap (then_check (check_group 12 17 r)) (check_append (take 5 (drop 17 l)) (drop 22 l) (take 5 (drop 17 v)) (drop 22 v) 18 99 (lit< tt) refl refl)))
