-- docs/LAYOUT.md, A record: the bytes as which a record crosses to a host and back.
use Rattle.std.specs.Prelude.{ℕ, ◌+◌, ◌≡◌, Option, Some, None, unwrap_or, Bool, true, false, cond, not, ◌&&◌, ◌||◌, List, ltb, eqb, length, get_or, take}
use Rattle.std.proofs.lemmas.List.Edits.{sets}
use Rattle.run.specs.Runs.{part, all, is_zero, member}
use Rattle.cell.specs.Cells.{le, le_bytes}
use Rattle.layout.specs.Demand2.{holds}
use Rattle.layout.specs.Layout.{is_trade, types}
use Rattle.layout.specs.Line.{line_of, unlawful}
use Rattle.layout.specs.Records.{trade_of, record_from}
use Rattle.layout.specs.declared.Numbers.{Numbers}
use Rattle.layout.specs.declared.Record.{Record}

-- each is a byte, as in all that a host lends
abbrev pub IsBytes : List ℕ → Type 0
IsBytes b = all (λ x. ltb x 256) b ≡ true

-- each number stands at its place in the line, little end first
abbrev pub numbers_in : List ℕ → Numbers
numbers_in b =
    record {
      timestamp = le (part b 0 8);
      contracts = le (part b 86 6);
      date = le (part b 99 2);
      year = le (part b 101 2);
      strike = le (part b 104 6);
      price = le (part b 110 8);
      match_id = le (part b 120 8);
      cross_id = le (part b 129 8);
    }

-- a liquidity on a type that has none is a space
abbrev pub odd_liquidity : List ℕ → Bool
odd_liquidity b = not (is_trade (get_or b 8 0)) && not (eqb (get_or b 15 0) 32)

-- an id on a type that has none is 0, and the last of its nine bytes is 0 on every type
abbrev pub odd_id : List ℕ → ℕ → Bool
odd_id b at = not (eqb (get_or b (at + 8) 0) 0) || not (is_trade (get_or b 8 0)) && not (eqb (le (part b at 8)) 0)

-- field n has a byte without meaning: a type that is none of the six letters (2), a liquidity (6), the last two bytes of the price (22), an id (23, 24)
abbrev pub odd : List ℕ → ℕ → Bool
odd b n =
    cond (eqb n 2) (not (member (get_or b 8 0) types))
    (cond (eqb n 6) (odd_liquidity b)
    (cond (eqb n 22) (not (all is_zero (part b 118 2))) (cond (eqb n 23) (odd_id b 120) (cond (eqb n 24) (odd_id b 129) false))))

-- the first field with a byte without meaning of 138 bytes, or none
unfoldable pub unmeant : List ℕ → Option ℕ
unmeant b =
    cond (odd b 2) (Some 2) (cond (odd b 6) (Some 6) (cond (odd b 22) (Some 22) (cond (odd b 23) (Some 23) (cond (odd b 24) (Some 24) None))))

-- the record that the bytes say
unfoldable pub record_in : List ℕ → Record
record_in b = record_from (numbers_in b) b

-- each byte of field n has a meaning, and the field keeps its rule. Behind a type without meaning fields are judged as on R, and none is the first
abbrev pub stands : List ℕ → ℕ → Bool
stands b n = not (odd b n) && holds (record_in b) n

-- the lesser of two field numbers, where 0 is none
abbrev pub sooner : ℕ → ℕ → ℕ
sooner m n = cond (eqb m 0) n (cond (eqb n 0) m (cond (ltb n m) n m))

-- the field that stands in the way of writing, or 0: the first with a byte without meaning or a broken rule, which is the lesser (proofs/Foremost.antt).
-- A record of another length says none.
unfoldable pub unwritable : List ℕ → ℕ
unwritable b = cond (eqb (length b) 138) (sooner (unwrap_or (unmeant b) 0) (unlawful (record_in b))) 24

-- each number put little end first in its place; an id is 0 where the type has none
unfoldable pub numbers_set : Record → List ℕ → List ℕ
numbers_set r b =
    let trade = trade_of r.event in
    let early = sets (sets (sets b 0 (le_bytes 8 r.timestamp)) 86 (le_bytes 6 r.contracts)) 99 (le_bytes 2 r.date) in
    let late = sets (sets (sets early 101 (le_bytes 2 r.year)) 104 (le_bytes 6 r.strike)) 110 (le_bytes 10 r.price) in
    sets (sets late 120 (le_bytes 9 trade.match_id)) 129 (le_bytes 9 trade.cross_id)

-- the bytes of a record: those of its line without CR LF, but for its numbers
unfoldable pub image_of : Record → List ℕ
image_of r = numbers_set r (take 138 (line_of r))
