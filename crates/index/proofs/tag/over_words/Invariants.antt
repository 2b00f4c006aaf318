-- `index::tag::over_words` meets its contract: the tag so far, and the words left, give the tag of all words.
use Rattle.std.proofs.Common.{◌≡◌, ◌-◌, ◌*◌, drop}
use Rattle.index.specs.Tags.{over_words}
use Rattle.index.proofs.tag.over_words.Given as goal

abbrev pub invariant-loop-j : goal.invariant-loop-j
invariant-loop-j l = over_words l.words 0 l.key ≡ over_words (l.words - l.j) l.h (drop (4 * l.j) l.key)
