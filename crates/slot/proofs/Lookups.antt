-- What the place that a lookup answers says of the orders: which one is found, and which one a change by key changes.
use Prim.Native.Nat.{ℕ, ◌+◌, ◌<◌}
use mathlib.Core.Path.{◌≡◌}
use mathlib.Core.List.{List}
use lib.ListN.{length, get_or, set}
use Rattle.order.specs.declared.Key.{Key}
use Rattle.order.specs.declared.Order.{Order}
use Rattle.day.specs.Machine.{nobody, found, find, place, amend}
use Rattle.day.proofs.Firsts.{amend_first, find_first, find_none}
use Rattle.day.proofs.Lookup.{key_finds, key_places, key_amends}

pub at_found : (k : Key) (os : List Order) (i : ℕ) (none : Order) → place k os ≡ i + 1
    → (i < length os) × (find k os ≡ found (get_or os i none))
at_found k os i none e = find_first (key_places k) (key_finds k) os i none e

pub amend_at : (k : Key) (f : Order → Order) (os : List Order) (i : ℕ) (none : Order) → place k os ≡ i + 1
    → amend k f os ≡ set os i (f (get_or os i none))
amend_at k f os i none e = amend_first (key_places k) (key_amends k f) os i none e

pub nobody_found : (k : Key) (os : List Order) → place k os ≡ 0 → find k os ≡ nobody
nobody_found k os e = find_none (key_places k) (key_finds k) os e
