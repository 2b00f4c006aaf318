-- `index::tag::over_words` meets its contract: the tag so far, and the words left, give the tag of all words.
use Rattle.std.proofs.Common.{ap, ◌∙◌, rules}
use Rattle.index.specs.Tags.{more}
use Rattle.index.proofs.Tagging.{word_next}
use Rattle.index.proofs.tag.over_words.Goals as goal

pub loop-j-preserved : goal.loop-j-preserved
loop-j-preserved c =
    let l = c.loop-j in
    let a = c.args in
    let g = c.more-h.ensures ∙ ap (more l.h) c.word.ensures in
    l.invariant ∙ word_next a.key.now a.words l.j l.h c.more-h.result (search rules) g
