-- What the caller of the step counts on: it uses no more than the chunk and writes no more than there is room for, and where there is room
-- for a refusal line it uses at least one byte.
use Prim.Native.Nat.{ℕ, ◌+◌, ◌-◌, ◌≤◌, ◌<◌}
use native.Mathlib.Omega.{arith}
use mathlib.Core.Path.{◌≡◌, refl, ap, ◌∙◌}
use mathlib.Core.Bool.{Bool, true, false, cond}
use mathlib.Core.List.{List, [], ◌∷◌, ◌++◌}
use borrow.Author.Tests.{ltb-true, ltb-false}
use lib.Dec.{ltb}
use lib.ListN.{length, take, drop, length-append, length-drop}
use lib.Seq.{length-sets, length-take-le}
use Rattle.book.specs.Bytes.{book_bytes, book_answer}
use Rattle.piece.specs.Cuts.{Ended, Cuts}
use Rattle.piece.specs.Cuts.Cuts.{nothing, last, more}
use Rattle.piece.proofs.Cutting.{pieces_cut}
use Rattle.feed.specs.Printed.{report}
use Rattle.feed.specs.Steps.{Between, between, longest, next_line, Held, Step, step, used_of, text_in, after, step_over, step_from, Fits}
use Rattle.feed.specs.declared.Fed.{Fed}
use Rattle.feed.proofs.Endings.{unended, ended}
use Rattle.feed.proofs.Longest.{said_most}

record Advances (room : ℕ) (chunk : List ℕ) (y : Step) : Type 0 where
  inside : used_of y ≤ length chunk
  fits : length (text_in y) ≤ room
  some : longest ≤ room → 1 ≤ length chunk → 1 ≤ used_of y

ended_some : (p : List ℕ) → Ended p → 1 ≤ length p
ended_some p (q, e, n) = omega (arith, ap length e, length-append q (10 ∷ []))

-- a piece that ends, and a step behind it
books : (room : ℕ) (p t said : List ℕ) (y : Step) → 1 ≤ length p → length said ≤ room → Advances (room - length said) t y
    → Advances room (p ++ t) (after (length p) said y)
books room p t said (step used text kept) h k a =
    record {
      inside = omega (arith, length-append p t, a.inside);
      fits = omega (arith, length-append said text, a.fits);
      some = λ _ _. omega arith;
    }

over : {chunk : List ℕ} {ps : List (List ℕ)} → Cuts chunk ps → (room : ℕ) (held : List ℕ) (l : ℕ) (s : List ℕ)
    → Advances room chunk (step_over room held l s ps)
over nothing room held l s = record { inside = omega arith; fits = omega arith; some = λ _ h. h }
over (last {p} u) room held l s = rw (unended p u.unbroken) (record { inside = omega arith; fits = omega arith; some = λ _ h. h })
over (more {p} {s = t} {ps} e c) room held l s =
    let said = report l (book_answer s (held ++ p)) in
    rw (ended p e) (go (ltb room longest) refl (over c (room - length said) [] (next_line l) (book_bytes s (held ++ p))))
  where
    go : (b : Bool) → ltb room longest ≡ b → {y : Step} → Advances (room - length (report l (book_answer s (held ++ p)))) t y
        → Advances room (p ++ t) (cond b (step 0 [] (between held l s)) (after (length p) (report l (book_answer s (held ++ p))) y))
    go true h {y} a = record { inside = omega arith; fits = omega arith; some = λ k _. absurd (omega (arith, ltb-true room longest h)) }
    go false h {y} a = books room p t (report l (book_answer s (held ++ p))) y (ended_some p e) (omega (arith, ltb-false room longest h, said_most l s (held ++ p))) a

advances : (room : ℕ) (x : Between) (chunk : List ℕ) → Advances room chunk (step_from room x chunk)
advances room (between held l s) chunk = over (pieces_cut chunk) room held l s

-- ---- of a step that the code made over what is left of a chunk

-- `before` is the output buffer as it was
pub record Took (chunk : List ℕ) (used : ℕ) (before : List ℕ) (r : Fed) (out : List ℕ) : Type 0 where
  pub same : length out ≡ length before
  pub wrote : r.wrote ≤ length out
  pub inside : used + r.used ≤ length chunk
  pub some : 1 ≤ r.used

pub took : (chunk : List ℕ) (used : ℕ) (x : Between) (before : List ℕ) {r : Fed} {t : List ℕ} {hold : Held} {out : List ℕ} → used < length chunk → longest ≤ length before
    → Fits (step_from (length before) x (take (length chunk - used) (drop used chunk))) before r t hold out → Took chunk used before r out
took chunk used x before here room f =
    let rest = take (length chunk - used) (drop used chunk) in
    let a = advances (length before) x rest in
    let same = ap length f.written ∙ length-sets before 0 (text_in (step_from (length before) x rest)) in
    let left : length rest ≡ length chunk - used = length-take-le (length chunk - used) (drop used chunk) (rw length-drop (omega arith)) in
    record {
      same = same;
      wrote = omega (arith, f.wrote, same, a.fits);
      inside = omega (arith, f.used, left, a.inside);
      some = omega (arith, f.used, left, a.some room (omega (arith, left)));
    }
