-- `index::entry::append` meets its contract: the store leaves the keys of the records before it.
use Rattle.index.proofs.Keeping.{append_kept}
use Rattle.index.proofs.entry.append.Goals as goal

pub enter-requires-clause-indexed : goal.enter-requires-clause-indexed
enter-requires-clause-indexed c = append_kept c.requires.indexed c.requires.appends c.store.ensures
