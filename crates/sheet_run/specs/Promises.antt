-- What the run over chunks promises: of a chunk, of the end, and of all that a program reads.
use Rattle.std.specs.Prelude.{ℕ, ◌≡◌, true, List, ◌++◌, length, take, Result, OnOk}
use Rattle.std.proofs.lemmas.List.Edits.{sets}
use Rattle.table.specs.Tables.{sound}
use Rattle.feed.specs.Steps.{Between, between_of, Held, last_table, finished}
use Rattle.feed.specs.Whole.{Calls, start}

-- 01, The sheet: "books each, .. as it comes": a text that leads from x to y, and what is said of it. Any calls that go on from y are calls from x
-- with that text in front of theirs, and with `said` in front of what they write
pub record Leads (x : Between) (text : List ℕ) (y : Between) : Type 0 where
  pub said : List ℕ
  pub onward : {z : Between} {rest out : List ℕ} → Calls y rest z out → Calls x (text ++ rest) z (said ++ out)

-- `sheet_run::take`: the table and the hold are as they are afterwards. Where not all could be written, the run ends
pub record Takes {T E : Type 0} (x : Between) (chunk : List ℕ) (r : Result T E) (table : List ℕ) (hold : Held) : Type 0 where
  pub leads : OnOk r (Leads x chunk (between_of hold table))
  pub sound : sound table ≡ true

-- a program that takes all the chunks that it reads: they are some text
pub record Reads {T E : Type 0} (x : Between) (r : Result T E) (table : List ℕ) (hold : Held) : Type 0 where
  pub text : List ℕ
  pub takes : Takes x text r table hold

-- 01, The sheet: "and at the end the sheet". `sheet_run::end`: `before` is the output buffer as it was
pub record Ends (x : Between) (before table out : List ℕ) : Type 0 where
  pub booked : table ≡ last_table x
  pub written : out ≡ sets before 0 (finished x)

-- the whole of such a program: it wrote `said` on the way, and at the end what the output buffer begins with
pub record Prints (before out : List ℕ) : Type 0 where
  pub text : List ℕ
  pub said : List ℕ
  pub last : Between
  pub calls : Calls (start before) text last said
  pub ended : take (length (finished last)) out ≡ finished last
