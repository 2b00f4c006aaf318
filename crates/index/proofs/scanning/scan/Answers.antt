-- `index::scanning::scan` meets its contract: none of the records passed has the key.
use Rattle.std.proofs.Common.{sym, ◌∙◌, arith}
use Rattle.index.specs.Searches.{has_key}
use Rattle.index.proofs.Firsts.{first_hit}
use Rattle.index.proofs.scanning.scan.Goals as goal

pub returns-then-same : goal.returns-then-same
returns-then-same c =
    let a = c.args in
    let l = c.loop-i in
    sym (first_hit (has_key a.keys a.t.now a.key.now) a.n l.i (omega arith) l.invariant (sym c.same.ensures ∙ c.if-same.true))
