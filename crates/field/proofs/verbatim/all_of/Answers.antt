-- `field::verbatim::all_of` meets its contract.
use mathlib.Core.Path.{◌∙◌}
use mathlib.Core.Bool.{true, ◌&&◌}
use borrow.Author.Rules.{rules}
use borrow.Author.Tests.{tests}
use Rattle.std.proofs.lemmas.Iterator.{YieldsList-from_slice}
use Rattle.std.proofs.lemmas.Iterator.Consumers.{fold_from_yields_List}
use Rattle.field.specs.Byte.{is_of}
use Rattle.field.proofs.Scan.{all_folded}
use Rattle.field.proofs.verbatim.all_of.Goals as goal

pub returns : goal.returns
returns c =
    fold_from_yields_List _ (λ good b. good && is_of c.args.class b) true c.fold.result c.fold.ensures.ran (YieldsList-from_slice c.args.s.now (cc)) (λ a x b q k. search (rules, tests))
    ∙ all_folded (is_of c.args.class) c.args.s.now
