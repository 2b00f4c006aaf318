-- `sheet_run::take` meets its contract. Each step uses a byte or more of what is left of the chunk, so the turns end.
use native.Mathlib.Omega.{arith}
use Rattle.sheet_run.proofs.Turns.{one_step, next_turn, all_taken}
use Rattle.lookup.proofs.Lent.{lent_on}
use borrow.Author.Rules.{rules}
use Rattle.sheet_run.proofs.take.Goals as goal

pub say-requires : goal.say-requires
say-requires g c =
    (one_step c.loop-used.invariant.0 c.loop-used-test.true c.requires.longest_in_bounds c.step-fed.ensures.fits).wrote

pub overflow_add-used : goal.overflow_add-used
overflow_add-used g c =
    search (rules, one_step c.loop-used.invariant.0 c.loop-used-test.true c.requires.longest_in_bounds c.step-fed.ensures.fits)

pub loop-used-smaller : goal.loop-used-smaller
loop-used-smaller g c =
    let k = one_step c.loop-used.invariant.0 c.loop-used-test.true c.requires.longest_in_bounds c.step-fed.ensures.fits in
    omega (arith, k.inside, k.some)

pub loop-used-preserved : goal.loop-used-preserved
loop-used-preserved g c =
    let step = c.step-fed in
    let inv = c.loop-used.invariant in
    (next_turn inv.0 c.loop-used-test.true c.requires.longest_in_bounds step.ensures.fits step.new.day.sound step.ensures.long, lent_on inv.1 step.ensures.same)

pub returns : goal.returns
returns g c = let inv = c.loop-used.invariant in
    record { takes = record { leads = all_taken inv.0 c.loop-used-test.false; sound = inv.0.good }; long = inv.0.table; same = inv.1 }
