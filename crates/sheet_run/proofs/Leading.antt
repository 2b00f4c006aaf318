-- Chunk after chunk: what is taken is one text, and what is written for it is what 01 says.
use Prim.Native.Nat.{ℕ, ◌^◌, ◌≤◌, ◌<◌}
use native.Mathlib.Omega.{arith}
use mathlib.Core.Path.{◌≡◌, refl, sym, ◌∙◌, ap}
use mathlib.Core.Bool.{true}
use mathlib.Core.List.{List, [], ◌++◌, append_assoc, append-nil}
use lib.ListN.{length, replicate, take, length-replicate}
use lib.Seq.{length-sets}
use Rattle.std.specs.Prelude.{Ok}
use Rattle.table.specs.Tables.{least_limit, limit_of, sound, table_length}
use Rattle.run.proofs.Parts.{part_whole}
use Rattle.table.proofs.Limits.{least_length, limit_is}
use Rattle.table.proofs.Making.{empty_sound}
use Rattle.book.specs.Bytes.{bytes_after}
use Rattle.piece.specs.Pieces.{pieces}
use Rattle.feed.specs.Printed.{printed}
use Rattle.feed.specs.Steps.{Between, between, between_of, finished, Held, room_at_end}
use Rattle.feed.specs.Whole.Calls.{none}
use Rattle.feed.proofs.Finishing.{finished_most, least_room}
use Rattle.feed.proofs.Whole.{whole}
use Rattle.sheet_run.specs.Promises.{Leads, Takes, Reads, Ends, Prints}

-- ---- texts

then_leads : {x y z : Between} {a b : List ℕ} → Leads x a y → Leads y b z → Leads x (a ++ b) z
then_leads p q = record { said = p.said ++ q.said; onward = λ c. simp append_assoc (p.onward (q.onward c)) }

-- ---- what a program reads

-- a chunk that was taken, whatever a failure would be
pub more_read : {E F : Type 0} {x : Between} {chunk t t₁ : List ℕ} {hold hold₁ : Held} {u : Unit {0}} → Reads {T = Unit {0}} {E = F} x (Ok tt) t hold
    → Takes {T = Unit {0}} {E = E} (between_of hold t) chunk (Ok u) t₁ hold₁ → Reads {T = Unit {0}} {E = F} x (Ok tt) t₁ hold₁
more_read {chunk} p q =
    record { text = p.text ++ chunk; takes = record { leads = then_leads p.takes.leads q.leads; sound = q.sound } }

-- ---- the whole program

-- a table of the length that the sheet program lends has a limit, and an output of 46,662 bytes has room for all that is said at its end
pub least_table : (0 < limit_of 47240) × (limit_of 47240 ≡ 512) × (room_at_end (limit_of 47240) ≡ 46662)
least_table = lent 47240 (sym least_length)
  where
    lent : (n : ℕ) → n ≡ table_length least_limit → (0 < limit_of n) × (limit_of n ≡ 512) × (room_at_end (limit_of n) ≡ 46662)
    lent n e =
        let zeros = length-replicate {A = ℕ} n 0 in
        let room = rw zeros at (least_room (replicate n 0) (zeros ∙ e)) in
        (room.0, sym (limit_is n e), room.1)

-- the empty table is as long as the buffer that it was made in
pub begun_long : (before : List ℕ) {begun : List ℕ} → begun ≡ bytes_after before [] → length begun ≡ length before
begun_long before b = ap length b ∙ length-sets before 0 (replicate 8 0)

-- room for the end of the text stays where table and output buffer keep their lengths
pub room_kept : {table first out before : ℕ} → table ≡ first → out ≡ before → room_at_end (limit_of first) ≤ before → room_at_end (limit_of table) ≤ out
room_kept p q h = rw (p, q) h

module _ (before : List ℕ) {begun : List ℕ} (b : begun ≡ bytes_after before []) where
  pub begun_sound : 0 < limit_of (length before) → sound begun ≡ true
  begun_sound meant = ap sound b ∙ empty_sound before meant

  pub all_printed : {E : Type 0} {t : List ℕ} {hold : Held} → Reads {T = Unit {0}} {E = E} (between [] 1 begun) (Ok tt) t hold → {buffer last out : List ℕ}
      → Ends (between_of hold t) buffer last out → room_at_end (limit_of (length t)) ≤ length buffer → Prints before out
  all_printed {t} {hold} p {buffer} {out} w h =
      let y = between_of hold t in
      let l = p.takes.leads in
      let most = finished_most hold.piece hold.line t p.takes.sound in
      record {
        text = p.text;
        said = l.said;
        last = y;
        calls = rw b at (simp append-nil at (l.onward none));
        ended = ap (take (length (finished y))) w.written ∙ part_whole buffer (finished y) 0 (length (finished y)) (omega arith) refl;
      }

-- 01, The sheet: where a program has printed, it wrote in all what 01 says of the text that it read
pub prints_so : {before out : List ℕ} (p : Prints before out) → 0 < limit_of (length before) → length (pieces p.text) < 2 ^ 64
    → p.said ++ take (length (finished p.last)) out ≡ printed (limit_of (length before)) p.text
prints_so {before} p meant few = rw p.ended (whole before p.text p.said p.last meant few p.calls)
