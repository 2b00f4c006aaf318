-- `sheet_run::begin` meets its contract: a buffer whose length has a meaning is never refused, and the empty table is indexed.
use Prim.Native.Nat.{ℕ, ◌≤◌, ◌<◌}
use mathlib.Core.Path.{◌≡◌, ap, ◌∙◌}
use mathlib.Core.List.{List, []}
use lib.ListN.{length}
use Rattle.std.specs.Prelude.{Result}
use Rattle.refusal.specs.declared.Refusal.{Refusal}
use Rattle.table.specs.Promises.{Makes}
use Rattle.table.specs.Tables.{limit_of, made_from}
use Rattle.table.proofs.Making.{taken}
use Rattle.book.specs.Bytes.{bytes_after}
use Rattle.sheet_run.proofs.Leading.{begun_sound}
use Rattle.sheet_run.proofs.begin.Goals as goal

never_refused : (before : List ℕ) {x : Result (Unit {0}) Refusal} {after : List ℕ} → 0 < limit_of (length before) → Makes before x after → after ≡ bytes_after before []
never_refused before meant m = m.out ∙ ap (λ a. made_from a before) (taken before meant)

room_for_all : (n m k : ℕ) → n ≡ m → limit_of m ≤ k → limit_of n ≤ k
room_for_all n m k e h = rw e h

pub indexed-requires : goal.indexed-requires
indexed-requires c =
    let made = c.make_empty in
    record {
      sound = begun_sound c.args.table.now (never_refused c.args.table.now c.requires.nonzero made.ensures) c.requires.nonzero;
      some = c.requires.in_bounds.0;
      room = room_for_all _ _ _ made.auto.t c.requires.in_bounds.1;
    }

pub returns-clause-t_after : goal.returns-clause-t_after
returns-clause-t_after c = c.indexed.ensures.table ∙ never_refused c.args.table.now c.requires.nonzero c.make_empty.ensures
