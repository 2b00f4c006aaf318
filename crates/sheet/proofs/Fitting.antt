-- The space for the rows: what is left of it, less the rows that are left, decides as all of it does.
use Prim.Native.Nat.{ℕ, ◌+◌, ◌-◌, ◌≤◌, ◌<◌}
use native.Mathlib.Omega.{arith}
use mathlib.Core.Path.{◌≡◌, refl, sym, ◌∙◌}
use mathlib.Core.Bool.{Bool, true, false}
use mathlib.Core.List.{List, []}
use borrow.Author.Tests.{leb-true, leb-false, le-leb, lt-leb}
use Rattle.std.specs.Prelude.{Option, Some, None}
use lib.Dec.{leb}
use lib.ListN.{length, length-append}
use Rattle.sheet.specs.Walk.{Stands, StandsOrEnds, elders_in, members_behind, members_left, text_left}
use Rattle.sheet.specs.declared.Turn.{Turn}
use Rattle.sheet.proofs.Stepping.{row_here, row_first, text_behind}
use Rattle.sheet.proofs.Stretches.{none_behind_last}

-- what is left fits into the space that is left exactly when a text fits into a space
pub record Fitting (s : List ℕ) (n : ℕ) (text : List ℕ) (space free left : ℕ) (next : Option Turn) : Type 0 where
  pub stands : StandsOrEnds n next
  pub same : leb (length text) space ≡ leb (length (text_left n s left next)) free

pub fitting_first : {s : List ℕ} {n space left : ℕ} {next : Option Turn} → StandsOrEnds n next → Fitting s n (text_left n s left next) space space left next
fitting_first w = record { stands = w; same = refl }

-- a text is taken from the space in front of another
less_space : (a b free : ℕ) → a ≤ free → leb (a + b) free ≡ leb b (free - a)
less_space a b free h = go (leb b (free - a)) refl
  where
    go : (t : Bool) → leb b (free - a) ≡ t → leb (a + b) free ≡ t
    go true e = le-leb (a + b) free (omega (arith, leb-true b (free - a) e))
    go false e = lt-leb (a + b) free (omega (arith, leb-false b (free - a) e))

module _ {s : List ℕ} {n : ℕ} {text : List ℕ} {space free left : ℕ} {next : Option Turn} (p : Fitting s n text space free left next) where
  pub fitting_stands : {x : Turn} → next ≡ Some x → Stands n x
  fitting_stands is = rw is at p.stands

  module _ {x : Turn} (is : next ≡ Some x) (some : 0 < left) where
    long_left : length (text_left n s left next) ≡ length (row_here s x) + length (text_behind n s (left - 1) x)
    long_left =
        rw (is, row_first n s x left (fitting_stands is) some) (length-append (row_here s x) (text_behind n s (left - 1) x))

    pub no_space : {long : ℕ} → long ≡ length (row_here s x) → free < long → false ≡ leb (length text) space
    no_space q l = sym (p.same ∙ lt-leb (length (text_left n s left next)) free (omega (arith, long_left)))

    pub fitting_next : {long rest : ℕ} {y : Option Turn} → rest ≡ left - 1 → long ≡ length (row_here s x) → long ≤ free → StandsOrEnds n y
        → members_left (elders_in n s) y ≡ members_behind (elders_in n s) x → Fitting s n text space (free - long) rest y
    fitting_next {long} {rest} {y} r q l w e =
        record {
          stands = w;
          same = p.same ∙ rw (long_left, r, q, e) (less_space (length (row_here s x)) (length (text_behind n s (left - 1) x)) free (omega arith));
        }

  none_more : text_left n s left next ≡ [] → true ≡ leb (length text) space
  none_more e = sym (p.same ∙ rw e (le-leb 0 free (omega arith)))

  pub all_fit : next ≡ None → true ≡ leb (length text) space
  all_fit ends = none_more (none_behind_last n s left ends)

  pub wanted_fit : left ≡ 0 → true ≡ leb (length text) space
  wanted_fit h = none_more (rw h)
