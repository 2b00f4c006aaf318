-- What each refusal is in the paper's numbers.
use Rattle.std.specs.Prelude.{ℕ}
use Rattle.refusal.specs.declared.Refusal.{Refusal}
use Rattle.refusal.specs.declared.Refusal.TheVariants.{NoLine, BadByte, Field, NoRoom, Damaged, DayOver, KnownKey, UnknownKey, OtherSeries, NotOpen, NotExecuted, Full, RowFull}

-- 01, Refusals by number: the first column; 02, 1: 13
abbrev pub number_of : Refusal → ℕ
number_of NoLine = 1
number_of BadByte = 2
number_of (Field f) = 3
number_of NoRoom = 4
number_of Damaged = 5
number_of DayOver = 6
number_of KnownKey = 7
number_of UnknownKey = 8
number_of OtherSeries = 9
number_of NotOpen = 10
number_of NotExecuted = 11
number_of Full = 12
number_of RowFull = 13

-- 01, Refusals by number, 3: the number of the first field comes with it; 0 for any other
abbrev pub field_of : Refusal → ℕ
field_of NoLine = 0
field_of BadByte = 0
field_of (Field f) = f
field_of NoRoom = 0
field_of Damaged = 0
field_of DayOver = 0
field_of KnownKey = 0
field_of UnknownKey = 0
field_of OtherSeries = 0
field_of NotOpen = 0
field_of NotExecuted = 0
field_of Full = 0
field_of RowFull = 0
