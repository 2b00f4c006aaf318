-- `trial_chunks::feed_all` is safe: its table has the least limit and room for an index, and its output has room for the end of the text.
use native.Mathlib.Omega.{arith}
use borrow.Author.Rules.{rules}
use Rattle.sheet_run.proofs.Leading.{least_table}
use Rattle.trial_chunks.proofs.feed_all.Goals as goal

pub feed_in-requires : goal.feed_in-requires
feed_in-requires g c =
    record {
      longest_le_room = search rules;
      nonzero = least_table.0;
      in_bounds = (omega arith, omega (arith, least_table.1));
      t_in_bounds = omega (arith, least_table.2);
    }
