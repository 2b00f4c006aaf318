-- What a turn of the step's loop keeps: what was done, and what is left to do, are the step over the chunk.
use Prim.Native.Nat.{ℕ, ◌+◌, ◌-◌, ◌≤◌, ◌<◌}
use native.Mathlib.Nat.{sub-zero, zero-add, add-zero, add_assoc}
use native.Mathlib.Omega.{arith}
use mathlib.Core.Path.{◌≡◌, refl, sym, ap, ◌∙◌}
use mathlib.Core.Bool.{true}
use mathlib.Core.List.{List, [], ◌++◌, append_assoc, append-nil}
use borrow.Author.Tests.{eq-eqb, ne_eqb, lt-ltb, le-ltb}
use lib.Dec.{eqb}
use lib.ListN.{length, get_or, drop, length-take, length-drop, drop_of_length-le}
use lib.Seq.{length-sets}
use Rattle.table.specs.Tables.{sound}
use Rattle.book.specs.Bytes.{book_bytes, book_answer}
use Rattle.book.proofs.Lengths.{booked_length}
use Rattle.book.proofs.Machine.{booked_sound}
use Rattle.row.specs.Writes.{Wrote}
use Rattle.sheet.proofs.Joining.{lent, back, one_text}
use Rattle.piece.specs.Pieces.{pieces, piece_length}
use Rattle.piece.proofs.Lent.{part, piece_bounds, part_long, next_piece}
use Rattle.feed.specs.Printed.{report}
use Rattle.feed.specs.Steps.{Between, between, kept_of, longest, next_line, ends_in_lf, Held, nothing_held, between_of, Step, step, after, step_over, step_from, Fits}
use Rattle.feed.proofs.Endings.{part_ends}
use Rattle.feed.proofs.Longest.{said_most}
use Rattle.feed.proofs.Saying.{Says}

-- what is left to do from a place of the chunk on
abbrev ahead : (room : ℕ) → Held → (t rest : List ℕ) → Step
ahead room hold t rest = step_over room hold.piece hold.line t (pieces rest)

-- x is the whole step; `first` and `before` are the table and the output buffer as they were, the others are as they are at a turn
pub record Turn (x : Step) (chunk first before t : List ℕ) (hold : Held) (out : List ℕ) (used wrote : ℕ) : Type 0 where
  pub text : List ℕ
  pub whole : x ≡ after used text (ahead (length before - wrote) hold t (drop used chunk))
  pub said : Wrote text before out wrote
  pub inside : used ≤ length chunk
  pub room : wrote ≤ length before
  pub good : sound t ≡ true
  pub table : length t ≡ length first

-- ---- steps behind steps

after_none : (x : Step) → x ≡ after 0 [] x
after_none (step used text kept) = ap (λ n. step n text kept) (sym (zero-add used))

none_after : (n : ℕ) (x : List ℕ) (k : Between) → after n x (step 0 [] k) ≡ step n x k
none_after n x k = rw (add-zero n, append-nil x)

after_after : (n m : ℕ) (x y : List ℕ) (z : Step) → after n x (after m y z) ≡ after (n + m) (x ++ y) z
after_after n m x y (step used text kept) = rw (add_assoc n m used, append_assoc x y text)

-- ---- the first turn

pub first_turn : (chunk t : List ℕ) (hold : Held) (out : List ℕ) → sound t ≡ true
    → Turn (step_from (length out) (between_of hold t) chunk) chunk t out t hold out 0 0
first_turn chunk t hold out good =
    record {
      text = [];
      whole = rw sub-zero (after_none (ahead (length out) hold t chunk));
      said = record { long = refl; out = refl };
      inside = omega arith;
      room = omega arith;
      good = good;
      table = refl;
    }

-- ---- the next piece of the chunk

module _ (chunk : List ℕ) (used end : ℕ) (more : used < length chunk) (e : end ≡ used + piece_length (drop used chunk)) where
  ends_so : ends_in_lf (part chunk used end) ≡ eqb (get_or chunk (end - 1) 0) 10
  ends_so = let b = piece_bounds chunk used end more e in part_ends chunk used end b.0 b.1

-- ---- what the code answers

fits : {x : Step} {before t : List ℕ} {hold : Held} {out : List ℕ} {u w : ℕ} (y : List ℕ) (k : Between) → x ≡ step u y k → Wrote y before out w
    → between_of hold t ≡ k → Fits x before (record { used = u; wrote = w }) t hold out
fits y k e w same = rw e (record { used = refl; wrote = w.long; written = w.out; kept = same })

module _ {x : Step} {chunk first before t : List ℕ} {hold : Held} {out : List ℕ} {used wrote : ℕ} (turn : Turn x chunk first before t hold out used wrote) where
  abbrev room : ℕ
  room = length before - wrote

  abbrev begun : List ℕ
  begun = hold.piece

  pub same_long : length out ≡ length before
  same_long = ap length turn.said.out ∙ length-sets before 0 turn.text

  pub room_lent : longest ≤ length out - wrote → longest ≤ length (lent wrote out)
  room_lent h = omega (arith, length-take (length out - wrote) (drop wrote out), length-drop wrote out)

  pub room_said : longest ≤ length out - wrote → (q : List ℕ) {last : List ℕ} {r : ℕ} → Wrote (report hold.line (book_answer t q)) (lent wrote out) last r
      → wrote + r ≤ length before
  room_said h q w = omega (arith, same_long, w.long, said_most hold.line t q)

  -- the chunk is used up
  pub at_chunk_end : length chunk ≤ used → Fits x before (record { used = used; wrote = wrote }) t hold out
  at_chunk_end h =
      let b = between_of hold t in
      let none : ahead room hold t (drop used chunk) ≡ step 0 [] b = rw (drop_of_length-le chunk h) in
      fits turn.text b (turn.whole ∙ rw none (none_after used turn.text b)) turn.said refl

  module _ (end : ℕ) (more : used < length chunk) (e : end ≡ used + piece_length (drop used chunk)) where
    abbrev p : List ℕ
    p = part chunk used end

    -- the piece does not end in this chunk
    pub keeps_begun : (get_or chunk (end - 1) 0 ≡ 10 → ⊥) → {last : Held} → last.piece ≡ kept_of (begun ++ p) → last.line ≡ hold.line
        → Fits x before (record { used = end; wrote = wrote }) t last out
    keeps_begun lf {last} k l =
        let b = between (kept_of (begun ++ p)) hold.line t in
        let over : ahead room hold t (drop used chunk) ≡ step (length p) [] b = rw (next_piece chunk used end more e, ends_so chunk used end more e, ne_eqb (get_or chunk (end - 1) 0) 10 lf) in
        let all : after used turn.text (step (length p) [] b) ≡ step end turn.text b = rw (part_long chunk used end more e, append-nil turn.text) in
        fits turn.text b (turn.whole ∙ rw over all) turn.said (rw (k, l))

    module _ (lf : get_or chunk (end - 1) 0 ≡ 10) where
      -- it ends, and there might be no room
      pub stops : length out - wrote < longest → Fits x before (record { used = used; wrote = wrote }) t hold out
      stops h =
          let b = between_of hold t in
          let little : room < longest = omega (arith, same_long) in
          let over : ahead room hold t (drop used chunk) ≡ step 0 [] b = rw (next_piece chunk used end more e, ends_so chunk used end more e, eq-eqb (get_or chunk (end - 1) 0) 10 lf, lt-ltb room longest little) in
          fits turn.text b (turn.whole ∙ rw over (none_after used turn.text b)) turn.said refl

      -- it ends, and is booked
      pub next_turn : longest ≤ length out - wrote → {last t₁ : List ℕ} {hold₁ : Held} {r : ℕ} → Says hold.line t (begun ++ p) (lent wrote out) last r t₁
          → hold₁ ≡ nothing_held (next_line hold.line) → Turn x chunk first before t₁ hold₁ (back wrote out last) end (wrote + r)
      next_turn h {last} {t₁} {hold₁} {r} (w, f) n =
          let said = report hold.line (book_answer t (begun ++ p)) in
          let rest = step_over (room - length said) [] (next_line hold.line) (book_bytes t (begun ++ p)) (pieces (drop end chunk)) in
          let much : longest ≤ room = omega (arith, same_long) in
          let over : ahead room hold t (drop used chunk) ≡ after (length p) said rest = rw (next_piece chunk used end more e, ends_so chunk used end more e, eq-eqb (get_or chunk (end - 1) 0) 10 lf, le-ltb room longest much) in
          let left : room - length said ≡ length before - (wrote + r) = omega (arith, w.long) in
          let one : after used turn.text (ahead room hold t (drop used chunk)) ≡ after (used + length p) (turn.text ++ said) rest = rw over (after_after used (length p) turn.text said rest) in
          record {
            text = turn.text ++ said;
            whole = turn.whole ∙ one ∙ rw (part_long chunk used end more e, left, n, f);
            said = one_text turn.said w;
            inside = (piece_bounds chunk used end more e).1;
            room = room_said h (begun ++ p) w;
            good = rw f (booked_sound t (begun ++ p) turn.good);
            table = ap length f ∙ booked_length t (begun ++ p) ∙ turn.table;
          }
