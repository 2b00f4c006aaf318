-- `drop_sheet::main` is safe: its table has the least limit and room for an index, and its output has room for the end of the text.
use native.Mathlib.Omega.{arith}
use Rattle.sheet_run.proofs.Leading.{least_table}
use Rattle.drop_sheet.proofs.main.Goals as goal

pub run-requires : goal.run-requires
run-requires c =
    record {
      nonzero = least_table.0;
      in_bounds = (omega arith, omega (arith, least_table.1));
      t_in_bounds = omega (arith, least_table.2);
    }
