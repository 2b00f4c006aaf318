-- 02, 2: what a saved day has behind its front, entry by entry, and how long it can be.
use Rattle.std.specs.Prelude.{ℕ, ◌+◌, ◌*◌, List, [], ◌++◌, map, get_or}
use Rattle.day.specs.Tables.{Table}
use Rattle.groups.specs.Taken.{joined}
use Rattle.groups.specs.Groups.{number_bytes}
use Rattle.saved.specs.Entries.{saved_order, saved_row}
use Rattle.saved.specs.Days.{front_numbers}
use Rattle.table.specs.Tables.{table_in}

-- "then each order .., then the quote rows": an entry for each
abbrev pub entries_of : Table → List (List ℕ)
entries_of t = map saved_order t.orders ++ map saved_row t.quotes

-- the bytes of a saved day of lent bytes: its front, its entries, and entry k
unfoldable pub front_of : List ℕ → List ℕ
front_of s = joined number_bytes (front_numbers (table_in s))

unfoldable pub entries_in : List ℕ → List (List ℕ)
entries_in s = entries_of (table_in s)

abbrev pub entry_no : List ℕ → ℕ → List ℕ
entry_no s k = get_or (entries_in s) k []

-- of a table of a limit: a front of 6 bytes, orders of at most 67 and 128 quote rows of at most 51
abbrev pub longest : ℕ → ℕ
longest limit = 6 + limit * 67 + 128 * 51
