-- What is answered of the fields whose rule goes by the type.
use Rattle.std.specs.Prelude.{ℕ, Bool, true, false, cond, List, Option, is_some}
use Rattle.std.specs.Option.{option_map}
use Rattle.message.specs.Rule.{Rule, verbatim, blank, Value, num, run, reads}
use Rattle.message.specs.Values.{num_of}
use Rattle.layout.specs.Layout.{id_number}

-- a field that stands on some types only, and is blank on the others, keeps its rule
abbrev pub bytes_on : Bool → Rule → List ℕ → Bool
bytes_on on rule b = is_some (reads (cond on rule (verbatim blank)) b)

-- a reader's answer for an id: 0 stands for a missing one
abbrev pub id_on : Bool → List ℕ → Option ℕ
id_on on b = option_map num_of (reads (cond on id_number (verbatim blank)) b)

-- what the field of an id says
abbrev pub id_value : Bool → ℕ → List ℕ → Value
id_value true v b = num v
id_value false v b = run b
