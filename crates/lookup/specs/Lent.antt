-- A day's table and index that are handed on: whoever lent them knows what they hold afterwards, since they are the ones that were lent.
use Rattle.std.specs.Prelude.{◌≡◌}
use Rattle.lookup.specs.declared.Day.{Day}

-- the very table and the very index that were lent
pub record SameLent (x y : Day) : Type 0 where
  pub table : y.table.ghost_name ≡ x.table.ghost_name
  pub heads : y.heads.ghost_name ≡ x.heads.ghost_name
  pub nexts : y.nexts.ghost_name ≡ x.nexts.ghost_name
