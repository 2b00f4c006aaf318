-- `groups::longer` meets its contract: the groups read so far, and those left, give the same end.
use Prim.Native.Nat.{◌-◌}
use native.Mathlib.Omega.{arith}
use borrow.Author.Rules.{rules}
use lib.ListN.{get_or}
use Rattle.groups.proofs.Reading.{read_first, group_room, read_next, read_short, read_padded, read_last, read_tenth, read_above}
use Rattle.groups.proofs.longer.Goals as goal

pub loop-i-init : goal.loop-i-init
loop-i-init c =
    let a = c.args in
    read_first a.s.now a.at a.low c.requires.at_in_bounds c.requires.low_bound

pub returns-then-b-eq1 : goal.returns-then-b-eq1
returns-then-b-eq1 c = read_tenth c.loop-i.invariant (search rules) (search rules) (search rules)

pub returns-then-unit : goal.returns-then-unit
returns-then-unit c = read_above c.loop-i.invariant (search rules) (λ e. omega arith) (search rules)

pub returns-then-b-eq0 : goal.returns-then-b-eq0
returns-then-b-eq0 c = read_padded c.loop-i.invariant (search rules) (search rules)

pub overflow_mul-result : goal.overflow_mul-result
overflow_mul-result c =
    let room = group_room c.loop-i.invariant (get_or c.args.s.now c.loop-i.i 0) (omega arith) (λ e. omega arith) in
    omega arith

pub overflow_add-result-then-b-lt128 : goal.overflow_add-result-then-b-lt128
overflow_add-result-then-b-lt128 c =
    let room = group_room c.loop-i.invariant (get_or c.args.s.now c.loop-i.i 0) (omega arith) (λ e. omega arith) in
    omega arith

pub returns-then-b-lt128 : goal.returns-then-b-lt128
returns-then-b-lt128 c =
    read_last c.loop-i.invariant (search rules) (omega arith) (omega arith) (λ e. omega arith)

pub overflow_mul-value : goal.overflow_mul-value
overflow_mul-value c =
    let room = group_room c.loop-i.invariant (get_or c.args.s.now c.loop-i.i 0 - 128) (omega arith) (λ e. omega arith) in
    omega arith

pub overflow_add-value : goal.overflow_add-value
overflow_add-value c =
    let room = group_room c.loop-i.invariant (get_or c.args.s.now c.loop-i.i 0 - 128) (omega arith) (λ e. omega arith) in
    omega arith

pub overflow_mul-unit : goal.overflow_mul-unit
overflow_mul-unit c =
    let room = group_room c.loop-i.invariant 0 (omega arith) (λ e. omega arith) in
    omega arith

pub loop-i-preserved : goal.loop-i-preserved
loop-i-preserved c = read_next c.loop-i.invariant (search rules) (search rules) (omega arith) (λ e. omega arith)

pub returns : goal.returns
returns c = read_short c.loop-i.invariant (search rules)
