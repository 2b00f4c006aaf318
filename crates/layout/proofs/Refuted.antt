-- 01, Promises: the wrong readers and writers of specs/Wrong.antt break demand 2, each by a witness.
use Prim.Native.Nat.{ℕ, ◌≤◌}
use native.Mathlib.Omega.{arith}
use mathlib.Core.Path.{◌≡◌, sym, ap, ◌∙◌}
use mathlib.Core.List.{List, ◌++◌}
use lib.ListN.{length, get_or, drop, replicate}
use Rattle.refusal.specs.Answer.{Answer, value}
use Rattle.layout.specs.Demand2.{Demand2, LawfulLine, LawfulRecord}
use Rattle.layout.specs.Examples.{execution, executed, replacement, replacing}
use Rattle.layout.specs.Line.{Said, line, read}
use Rattle.message.specs.Values.{num_at, byte_at, run_at}
use Rattle.layout.specs.Records.{fields_of}
use Rattle.layout.specs.Wrong.{RefusesEach, FixedAs, Changes, other_side, other_contracts, exchanged, StoresNothing, ClearsRest, StoresWhatFits}
use Rattle.layout.specs.declared.Record.{Record}
use Rattle.layout.proofs.Demand2.{demand2}
use Rattle.layout.proofs.Examples.{whole}
use Rattle.layout.proofs.Settled.{settled}

-- the witnesses are lawful
execution_lawful : LawfulLine execution
execution_lawful = (demand2.lawful_reads execution).1 (executed, whole.execution_reads)

replacement_lawful : LawfulLine replacement
replacement_lawful = (demand2.lawful_reads replacement).1 (replacing, whole.replacement_reads)

executed_lawful : LawfulRecord executed
executed_lawful = (demand2.read_back execution executed whole.execution_reads).0

module _ (reader : List ℕ → Answer Said) (writer : Record → List ℕ → Answer (Unit {0}) × List ℕ) (d : Demand2 reader writer) where
  -- ---- readers

  pub refuses_each : RefusesEach reader → ⊥
  refuses_each refuses = let r = (d.lawful_reads execution).0 execution_lawful in refuses execution execution_lawful r.0 r.1

  pub one_fixed_record : (r : Record) → FixedAs reader r → ⊥
  one_fixed_record r fixed =
      let same = d.one_line execution replacement r (fixed execution execution_lawful) (fixed replacement replacement_lawful) in
      let types : ◌≡◌ {A = ℕ} 69 85 = ap (λ (s : List ℕ). get_or s 8 0) same in
      omega arith

  -- whatever such a reader puts in the place of a record that some line says is that record
  pub unchanged : (other : Record → Record) → Changes reader other → (s : List ℕ) (r : Record) → read s ≡ value (line r) → other r ≡ r
  unchanged other changes s r e =
      let same : value (line (other r)) ≡ value (line r) = sym (changes s r e) ∙ ((settled reader writer).0 d).reads s ∙ e in
      cc

  kept_executed : (other : Record → Record) → Changes reader other → fields_of (other executed) ≡ fields_of executed
  kept_executed other changes = ap fields_of (unchanged other changes execution executed whole.execution_reads)

  pub sides_exchanged : Changes reader other_side → ⊥
  sides_exchanged c = let e : ◌≡◌ {A = ℕ} 83 66 = ap (λ vs. byte_at vs 13) (kept_executed other_side c) in omega arith

  pub contracts_turned : Changes reader other_contracts → ⊥
  contracts_turned c = let e : ◌≡◌ {A = ℕ} 999900 100 = ap (λ vs. num_at vs 14) (kept_executed other_contracts c) in omega arith

  pub clearing_exchanged : Changes reader (exchanged 8 9) → ⊥
  clearing_exchanged c = let e : ◌≡◌ {A = ℕ} 51 57 = ap (λ vs. get_or (run_at vs 7) 4 0) (kept_executed (exchanged 8 9) c) in omega arith

  pub ids_exchanged : Changes reader (exchanged 23 24) → ⊥
  ids_exchanged c = let e : ◌≡◌ {A = ℕ} 122001 122853 = ap (λ vs. num_at vs 22) (kept_executed (exchanged 23 24) c) in omega arith

  -- ---- writers

  -- with room the execution stands in front, and behind it what stood there
  executed_written : (out : List ℕ) → 140 ≤ length out → (writer executed out).1 ≡ execution ++ drop 140 out
  executed_written out room =
      let e = ((settled reader writer).0 d).reads execution ∙ whole.execution_reads in
      ap (λ (x : Answer (Unit {0}) × List ℕ). x.1) ((d.read_back execution executed e).1 out room)

  pub stores_nothing : StoresNothing writer → ⊥
  stores_nothing stores =
      let out = replicate {A = ℕ} 140 0 in
      let same = sym (stores executed out executed_lawful (omega arith)) ∙ executed_written out (omega arith) in
      let first : ◌≡◌ {A = ℕ} 0 51 = ap (λ (s : List ℕ). get_or s 0 0) same in
      omega arith

  pub clears_rest : ClearsRest writer → ⊥
  clears_rest clears =
      let out = replicate {A = ℕ} 141 1 in
      let same = sym (clears executed out executed_lawful (omega arith)) ∙ ap (drop 140) (executed_written out (omega arith)) in
      let last : ◌≡◌ {A = ℕ} 0 1 = ap (λ (s : List ℕ). get_or s 0 0) same in
      omega arith

  pub stores_what_fits : StoresWhatFits writer → ⊥
  stores_what_fits stores =
      let out = replicate {A = ℕ} 1 0 in
      let refuses = (d.no_room executed out).1 (omega arith) in
      let same = sym (d.refused_keeps executed out 4 0 refuses) ∙ stores executed out executed_lawful (omega arith) in
      let first : ◌≡◌ {A = ℕ} 0 51 = ap (λ (s : List ℕ). get_or s 0 0) (rw whole.execution_written at same) in
      omega arith
