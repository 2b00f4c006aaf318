-- How large the index beside a table of the least limit is: four heads and one next for each order.
use mathlib.Core.Path.{◌≡◌, refl}
use Prim.Native.Nat.{◌*◌}
use Rattle.table.specs.Tables.{least_limit}
use Rattle.lookup.specs.declared.TheConstants.{HEADS, NEXTS}

pub heads_sized : HEADS ≡ 4 * least_limit
heads_sized = refl

pub nexts_sized : NEXTS ≡ least_limit
nexts_sized = refl
