-- `feed::step` meets its contract: at each turn, what was done and what is left to do are the step over the chunk.
use Prim.Native.Nat.{◌≤◌, ◌<◌}
use native.Mathlib.Omega.{arith}
use mathlib.Core.Path.{refl}
use lib.ListN.{length}
use Rattle.piece.proofs.Lent.{piece_bounds, plain_lent}
use Rattle.feed.proofs.Turns.{first_turn, same_long, room_lent, room_said, at_chunk_end, keeps_begun, stops, next_turn}
use Rattle.lookup.proofs.Lent.{lent_on}
use borrow.Author.Rules.{rules}
use Rattle.feed.proofs.step.Goals as goal
use Rattle.feed.proofs.step.Goals.{After-cut-cut}

-- that piece lies in the chunk
bounds : (c : After-cut-cut) → (c.loop-used.used < c.cut-cut.result.end) × (c.cut-cut.result.end ≤ length c.args.chunk.now)
bounds c = piece_bounds c.args.chunk.now c.loop-used.used c.cut-cut.result.end c.loop-used-test.true c.cut-cut.ensures.ends

pub loop-used-init : goal.loop-used-init
loop-used-init c =
    let a = c.args in
    (first_turn a.chunk.now a.day.now.table.now a.hold.now a.out.now c.args.day.now.sound, record { table = refl; heads = refl; nexts = refl })

pub slice_bounds-part-end : goal.slice_bounds-part-end
slice_bounds-part-end c = search (rules, bounds c)

pub overflow_sub-end : goal.overflow_sub-end
overflow_sub-end c = search (rules, bounds (goal.at.overflow_sub-end c).After-cut-cut)

pub bounds-chunk-end : goal.bounds-chunk-end
bounds-chunk-end c = search (rules, bounds (goal.at.bounds-chunk-end c).After-cut-cut)

pub shape_of-out-then-chunk-end-ne-LF : goal.shape_of-out-then-chunk-end-ne-LF
shape_of-out-then-chunk-end-ne-LF c = same_long c.loop-used.invariant.0

pub returns-then-chunk-end-ne-LF : goal.returns-then-chunk-end-ne-LF
returns-then-chunk-end-ne-LF c =
    let inv = c.loop-used.invariant in
    let kept = c.keep.ensures in
    record { fits = keeps_begun inv.0 c.cut-cut.result.end c.loop-used-test.true c.cut-cut.ensures.ends c.if-chunk-end-ne-LF.true kept.piece kept.line; long = inv.0.table; same = inv.1 }

pub overflow_sub-out : goal.overflow_sub-out
overflow_sub-out c = search (rules, same_long c.loop-used.invariant.0)

pub shape_of-out-then-out-wrote-lt-LONGEST : goal.shape_of-out-then-out-wrote-lt-LONGEST
shape_of-out-then-out-wrote-lt-LONGEST c = same_long c.loop-used.invariant.0

pub returns-then-out-wrote-lt-LONGEST : goal.returns-then-out-wrote-lt-LONGEST
returns-then-out-wrote-lt-LONGEST c =
    let inv = c.loop-used.invariant in
    record { fits = stops inv.0 c.cut-cut.result.end c.loop-used-test.true c.cut-cut.ensures.ends c.if-chunk-end-ne-LF.false c.if-out-wrote-lt-LONGEST.true; long = inv.0.table; same = inv.1 }

pub book_part-wrote-requires : goal.book_part-wrote-requires
book_part-wrote-requires c =
    let inv = c.loop-used.invariant in
    record { longest_in_bounds = room_lent inv.0 c.if-out-wrote-lt-LONGEST.false; part_value = λ e. plain_lent _ _ _ c.cut-cut.ensures.ends (c.cut-cut.ensures.plain e) }

pub overflow_add-wrote : goal.overflow_add-wrote
overflow_add-wrote c =
    search (rules, c.well_formed, room_said c.loop-used.invariant.0 c.if-out-wrote-lt-LONGEST.false _ c.book_part-wrote.ensures.wrote)

pub loop-used-smaller : goal.loop-used-smaller
loop-used-smaller c = omega (arith, bounds (goal.at.loop-used-smaller c).After-cut-cut)

pub loop-used-preserved : goal.loop-used-preserved
loop-used-preserved c =
    let said = c.book_part-wrote.ensures in
    let inv = c.loop-used.invariant in
    (next_turn inv.0 c.cut-cut.result.end c.loop-used-test.true c.cut-cut.ensures.ends c.if-chunk-end-ne-LF.false c.if-out-wrote-lt-LONGEST.false (said.wrote, said.t_after) said.hold_after, lent_on inv.1 said.same)

pub shape_of-out : goal.shape_of-out
shape_of-out c = same_long c.loop-used.invariant.0

pub returns : goal.returns
returns c =
    let inv = c.loop-used.invariant in
    record { fits = at_chunk_end inv.0 c.loop-used-test.false; long = inv.0.table; same = inv.1 }
