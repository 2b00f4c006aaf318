-- What is handed on twice is still what was lent.
use mathlib.Core.Path.{◌∙◌}
use Rattle.lookup.specs.Lent.{SameLent}
use Rattle.lookup.specs.declared.Day.{Day}

pub lent_on : {x y z : Day} → SameLent x y → SameLent y z → SameLent x z
lent_on p q = record { table = q.table ∙ p.table; heads = q.heads ∙ p.heads; nexts = q.nexts ∙ p.nexts }
