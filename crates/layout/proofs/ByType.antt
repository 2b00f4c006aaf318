-- What is answered of the fields whose rule goes by the type.
use Rattle.std.specs.Bool.{then_some}
use Rattle.std.specs.Option.{option_map}
use Prim.Native.Nat.{ℕ}
use mathlib.Core.Path.{◌≡◌, refl, sym, ap, ◌∙◌}
use mathlib.Core.Bool.{Bool, true, false, cond}
use mathlib.Core.List.{List}
use Rattle.std.specs.Prelude.{Option, Some, None}
use Rattle.field.specs.Number.{number as read_number}
use Rattle.field.specs.Verbatim.{is_blank}
use Rattle.message.specs.Rule.{num, run, reads, verbatim, blank}
use Rattle.message.specs.Values.{num_of}
use Rattle.layout.specs.Layout.{id_number}
use Rattle.layout.specs.ByType.{id_on, id_value}

-- an id that is there is the number that its field reads as
pub id_is : (n : Option ℕ) → option_map num_of (option_map num n) ≡ n
id_is (Some v) = refl
id_is None = refl

-- an id that is answered is what its field says
pub id_good : (on : Bool) (b : List ℕ) (x : Option ℕ) (v : ℕ) → x ≡ id_on on b → x ≡ Some v → reads (cond on id_number (verbatim blank)) b ≡ Some (id_value on v b)
id_good true b x v e l = ap (option_map num) (sym (id_is (read_number 0 999999999 b)) ∙ sym e ∙ l)
id_good false b x v e l = by_test (is_blank b) (sym e ∙ l)
  where
    by_test : (a : Bool) → option_map num_of (then_some a (run b)) ≡ Some v → then_some a (run b) ≡ Some (run b)
    by_test true q = refl
    by_test false q = cc
