-- `index::chain::is_long` stays inside the entries: a chain falls, so each of its records is before the first.
use Rattle.std.proofs.Common.{◌≤◌}
use Rattle.index.proofs.chain.is_long.Given as goal

abbrev pub invariant-loop : goal.invariant-loop
invariant-loop l = l.at ≤ l.first
