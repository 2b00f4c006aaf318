-- `sheet::quotes::length` meets its contract: the sum grows by the line of each row.
use native.Mathlib.Omega.{arith}
use Rattle.table.proofs.Sound.{header_there}
use Rattle.sheet.proofs.Quoting.{row_there, sum_first, sum_next, sum_small, sum_all}
use Rattle.sheet.proofs.quotes.length.Goals as goal

pub row_count-i-end-requires : goal.row_count-i-end-requires
row_count-i-end-requires c = header_there _ c.requires

pub loop-i-init : goal.loop-i-init
loop-i-init c = sum_first c.requires c.base-base.ensures c.row_count-i-end.ensures

pub length-long-requires : goal.length-long-requires
length-long-requires c = row_there c.loop-i.invariant.lines c.loop-i-test.true

pub overflow_add-long : goal.overflow_add-long
overflow_add-long c = omega (arith, sum_small c.loop-i.invariant c.loop-i-test.true c.length-long.ensures)

pub loop-i-preserved : goal.loop-i-preserved
loop-i-preserved c = sum_next c.loop-i.invariant c.loop-i-test.true c.length-long.ensures

pub returns : goal.returns
returns c = sum_all c.loop-i.invariant c.loop-i-test.false
