-- What one pass over orders asks of each, behind those that it has seen, and what it keeps of them: a flag for each number (01, Damaged).
use Rattle.std.specs.Prelude.{ℕ, ◌+◌, ◌≡◌, Bool, not, ◌&&◌, ◌||◌, List, leb, eqb, length, get_or}
use Rattle.order.specs.declared.Order.{Order}
use Rattle.order.specs.Stored.{sound_order}
use Rattle.table.specs.Tables.{tail_zero}

-- how many numbers have a flag, from 0 on
abbrev pub room_in : List ℕ → ℕ
room_in flags = length flags

-- whether a number's flag is up: no later order may have that number as its elder
unfoldable pub is_marked : List ℕ → ℕ → Bool
is_marked flags e = eqb (get_or flags e 0) 1

-- one more flag is up
pub record Marks (e : ℕ) (before after : List ℕ) : Type 0 where
  pub room : room_in after ≡ room_in before
  pub says : (x : ℕ) → is_marked after x ≡ (eqb x e || is_marked before x)

-- the order at place i is seen: up goes the flag of its elder's number e, and that of its own, i + 1, if it has anything open
pub record Passes (i e «open» : ℕ) (before after : List ℕ) : Type 0 where
  pub room : room_in after ≡ room_in before
  pub says : (x : ℕ) → is_marked after x ≡ (eqb x e || (not (eqb «open» 0) && eqb x (i + 1)) || is_marked before x)

-- a slot and its order, by themselves
abbrev pub slot_fits : List ℕ → ℕ → Order → Bool
slot_fits s i o = tail_zero s i && sound_order o

-- an elder number at place i: none, or that of an earlier order whose flag is down
abbrev pub may_follow : List ℕ → ℕ → ℕ → Bool
may_follow flags i e = leb e i && (eqb e 0 || not (is_marked flags e))
