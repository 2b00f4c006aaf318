-- `run::same_words` meets its contract: what was seen so far, and the rest, give the whole answer.
use Rattle.std.proofs.Common.{◌+◌, ◌*◌, refl, arith}
use Rattle.run.proofs.Words.{word_next}
use Rattle.run.proofs.same_words.Goals as goal

pub loop-j-preserved : goal.loop-j-preserved
loop-j-preserved c =
    let l = c.loop-j in
    let a = c.args in
    word_next a.s.now a.other.now a.at (8 * l.j) (a.at + 8 * l.j) (8 * (l.j + 1)) _ _ l.good c.requires.other_in_bounds (λ k. let b = c.type_inv.s k in omega arith)
    (λ k. let b = c.type_inv.other k in omega arith)
    c.word.ensures c.word-in-loop-j.ensures (omega arith) refl (omega arith) l.invariant
