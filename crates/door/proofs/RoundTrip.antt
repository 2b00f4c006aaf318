-- Reading and writing through the door undo each other: what was read is written back as the very piece, and what was written is read back as the very bytes.
use Prim.Native.Nat.{ℕ, ◌+◌, ◌*◌, ◌≤◌}
use native.Mathlib.Omega.{arith}
use mathlib.Core.Path.{◌≡◌, refl, ap, ◌∙◌}
use mathlib.Core.Bool.{Bool, true, false, cond}
use mathlib.Core.List.{List, [], ◌++◌, append-nil}
use mathlib.Core.Logic.{⊎_elim}
use borrow.Author.Tests.{eqb-true, le-ltb, ltb-false}
use lib.Dec.{ltb, eqb}
use lib.ListN.{length, take, drop, drop_of_length-le}
use lib.Seq.{sets, take_at}
use Rattle.refusal.specs.Answer.{Answer, value, refused, code_of}
use Rattle.layout.specs.Line.{Said, end_of_day, line, read, line_of}
use Rattle.layout.specs.declared.Record.{Record}
use Rattle.layout.proofs.Answers.{read_back, written_reads, length_line}
use Rattle.layout.proofs.Demand2.{demand2}
use Rattle.image.specs.Images.{image_of, record_in, unwritable}
use Rattle.image.proofs.Back.{back, image_length}
use Rattle.run.proofs.Stores.{sets_start}
use Rattle.image.proofs.Forth.{whole, lawful, image_said}
use Rattle.door.specs.Promises.{read_answer, write_answer, Reads, Writes}
use Rattle.door.specs.RoundTrip.{RoundTrip}

-- the bytes of the record of a piece are written as that piece, whatever stood in the lent line
piece_back : (p : List ℕ) (r : Record) → read p ≡ value (line r) → (before : List ℕ) → 140 ≤ length before
    → (k : ℕ) (after : List ℕ) → Writes (image_of r) before k after → (k ≡ 0) × (after ≡ p ++ drop 140 before)
piece_back p r e before room k after x =
    let b = back p r e in
    let answered : write_answer (image_of r) before ≡ value tt = rw (le-ltb (length before) 140 room, b.0) in
    (x.said ∙ rw answered, x.out ∙ rw (answered, b.1, (read_back p r e).1))

-- what was written had the room, and nothing stood in the way
written : (b before : List ℕ) → 0 ≡ code_of (write_answer b before) → (140 ≤ length before) × (unwritable b ≡ 0)
written b before = go (ltb (length before) 140) (eqb (unwritable b) 0) refl refl
  where
    answer : Bool → Bool → Answer (Unit {0})
    answer s t = cond s (refused 4 0) (cond t (value tt) (refused 3 (unwritable b)))

    go : (s t : Bool) → ltb (length before) 140 ≡ s → eqb (unwritable b) 0 ≡ t → 0 ≡ code_of (answer s t) → (140 ≤ length before) × (unwritable b ≡ 0)
    go true t p q e = absurd (omega arith)
    go false true p q e = (ltb-false (length before) 140 p, eqb-true (unwritable b) 0 q)
    go false false p q e = absurd (omega arith)

-- a reading that answers 0 and tells 1 is of a line
line_read : (piece room : List ℕ) (kind : ℕ) (b : List ℕ) → 138 ≤ length room → Reads piece room kind 0 b 1
    → (r : Record) × (read piece ≡ value (line r)) × (b ≡ sets room 0 (image_of r))
line_read piece room kind b h x = go (read piece) refl
  where
    long : read_answer piece room ≡ read piece
    long = rw (le-ltb (length room) 138 h)

    go : (a : Answer Said) → read piece ≡ a → (r : Record) × (read piece ≡ value (line r)) × (b ≡ sets room 0 (image_of r))
    go (value end_of_day) e =
        let told : ◌≡◌ {A = ℕ} 1 0 = x.told ∙ rw (long, e) in
        absurd (omega arith)
    go (value (line r)) e = (r, e, x.out ∙ rw (long, e))
    go (refused n f) e =
        let said : 0 ≡ n + 256 * f = x.said ∙ rw (long, e) in
        absurd (⊎_elim (λ q. omega (arith, q.0)) (⊎_elim (λ q. omega (arith, q.0)) (λ q. omega arith)) (demand2.other_reads piece n f e))

pub round_trip : RoundTrip
round_trip =
    record {
      line_back = λ piece room kind b h x before f k after w.
          let l = line_read piece room kind b (omega arith) x in
          let r = l.0 in
          let n = image_length r (demand2.read_back piece r l.1).0 in
          let end : drop 138 room ≡ [] = drop_of_length-le room {i = 138} (omega arith) in
          let same : b ≡ image_of r = l.2 ∙ sets_start room (image_of r) (omega arith) ∙ rw (n, end, append-nil) in
          piece_back piece r l.1 before f k after (rw same at w);
      record_back = λ b before after bytes w room h kind k out kind' x.
          let r = record_in b in
          let free = written b before w.said in
          let law = lawful b bytes free.1 in
          let n = whole b bytes free.1 in
          let goes : write_answer b before ≡ value tt = rw (le-ltb (length before) 140 free.0, free.1) in
          let left : after ≡ line_of r ++ drop 140 before = w.out ∙ rw goes in
          let piece : take 140 after ≡ line_of r = ap (take 140) left ∙ take_at (line_of r) (drop 140 before) 140 (length_line r law) in
          let says : read_answer (take 140 after) room ≡ value (line r) = rw (le-ltb (length room) 138 h, piece) (written_reads r law) in
          let stored = rw n at (sets_start room b (omega arith)) in
          (x.said ∙ rw says, x.told ∙ rw says, x.out ∙ rw (says, image_said b bytes free.1) stored);
    }
