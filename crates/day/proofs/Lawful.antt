-- What a lawful line gives an order is lawful in the table.
use Prim.Native.Nat.{ℕ, ◌≤◌}
use native.Mathlib.Omega.{arith}
use mathlib.Core.Path.{◌≡◌}
use mathlib.Core.Bool.{true}
use Rattle.layout.specs.Demand2.{LawfulRecord}
use Rattle.layout.specs.declared.Record.{Record}
use Rattle.field.proofs.Fill.{between}
use Rattle.order.specs.Stored.{sound_order}
use Rattle.day.specs.Machine.{new_order}
use Rattle.day.proofs.Figures.{sound_figures_lem, fresh_sound}
use Rattle.order.specs.Figure.{fresh_by}

module _ (r : Record) (l : LawfulRecord r) where
  -- its contracts are a lawful size
  pub contracts_sized : (1 ≤ r.contracts) × (r.contracts ≤ 999999)
  contracts_sized = between 1 999999 r.contracts (l.fields 15 (omega arith) (omega arith))

  pub new_sound : (size elder : ℕ) → (1 ≤ size) × (size ≤ 999999) → sound_order (new_order r size elder) ≡ true
  new_sound size e n =
      rw (
        l.fields 10 (omega arith) (omega arith),
        l.fields 11 (omega arith) (omega arith),
        l.fields 14 (omega arith) (omega arith),
        l.fields 16 (omega arith) (omega arith),
        l.fields 17 (omega arith) (omega arith),
        l.fields 18 (omega arith) (omega arith),
        l.fields 19 (omega arith) (omega arith),
        l.fields 20 (omega arith) (omega arith),
        l.fields 21 (omega arith) (omega arith),
        l.fields 22 (omega arith) (omega arith),
        sound_figures_lem (fresh_by size) (fresh_sound size n.0 n.1),
      )
