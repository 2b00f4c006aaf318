-- What a host asks of a lent table: where an order stands, and the order or the quote row (02, 1) at a place.
use Rattle.std.specs.Prelude.{ℕ, zero, suc, cond, List, ltb, eqb, length}
use Rattle.std.proofs.lemmas.List.Edits.{sets}
use Rattle.refusal.specs.Answer.{Answer, value, refused}
use Rattle.day.specs.Machine.{place}
use Rattle.section.specs.Sections.{record_of}
use Rattle.section.specs.declared.Section.{Section}
use Rattle.slot.specs.Slots.{key_in}
use Rattle.table.specs.Tables.{table_in, sound}

-- a place that is counted from 1, 0 being none
abbrev pub place_or8 : ℕ → Answer ℕ
place_or8 zero = refused 8 0
place_or8 (suc i) = value i

-- 01, Orders and their figures: the earliest order with a key, its Source and then its Token. No order has a key of another length
abbrev pub look_up_answer : List ℕ → List ℕ → Answer ℕ
look_up_answer s k =
    cond (sound s) (cond (eqb (length k) 26) (place_or8 (place (key_in k) (table_in s).orders)) (refused 8 0)) (refused 5 0)

-- record i of the n that a section has, into a lent buffer: 5, 4, then 8
abbrev pub copy_answer : Section → ℕ → List ℕ → ℕ → List ℕ → Answer (Unit {0})
copy_answer c n s i before =
    cond (sound s) (cond (ltb (length before) c.width) (refused 4 0) (cond (ltb i n) (value tt) (refused 8 0))) (refused 5 0)

-- its bytes as they stand
abbrev pub copied_from : Answer (Unit {0}) → Section → List ℕ → ℕ → List ℕ → List ℕ
copied_from (value u) c s i before = sets before 0 (record_of c s i)
copied_from (refused n f) c s i before = before
