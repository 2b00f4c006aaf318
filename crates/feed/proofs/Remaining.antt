-- What is left to print: one step writes the front of it and leaves the rest, and at the end what is left is printed.
use Prim.Native.Nat.{ℕ, ◌-◌}
use mathlib.Core.Path.{◌≡◌, refl, sym, ap, ◌∙◌}
use mathlib.Core.Bool.{Bool, true, false, cond}
use mathlib.Core.List.{List, [], ◌∷◌, ◌++◌, append_assoc}
use lib.Dec.{ltb}
use lib.ListN.{length, drop}
use lib.Seq.{drop-length, drop-append-add}
use Rattle.run.specs.Runs.{member}
use Rattle.book.specs.Bytes.{book_bytes, book_answer}
use Rattle.sheet.specs.Promises.{text_of}
use Rattle.piece.specs.Cuts.{Ended, Cuts}
use Rattle.piece.specs.Cuts.Cuts.{nothing, last, more}
use Rattle.piece.specs.Pieces.{pieces}
use Rattle.piece.proofs.Begun.{join_run, begun, ended_then}
use Rattle.piece.proofs.Cutting.{pieces_cut}
use Rattle.feed.specs.Printed.{report}
use Rattle.feed.specs.Steps.{Between, between, hold_length, kept_of, longest, next_line, Step, step, used_of, text_in, kept_in, after, step_over, step_from, finished}
use Rattle.feed.proofs.Endings.{none_both, none_front, unended, ended, ended_behind}
use Rattle.feed.proofs.Enough.{verbatim_answer, kept_bytes, then_answer, then_bytes}

-- the pieces booked into the bytes of a table, the first numbered l, and then the sheet
abbrev pub left_from : ℕ → List ℕ → List (List ℕ) → List ℕ
left_from l s [] = text_of s
left_from l s (p ∷ ps) = report l (book_answer s p) ++ left_from (next_line l) (book_bytes s p) ps

abbrev pub left : Between → List ℕ → List ℕ
left (between held line table) text = left_from line table (pieces (held ++ text))

-- what is held has no LF
abbrev pub Unbroken : Between → Type 0
Unbroken (between held line table) = member 10 held ≡ false

-- ---- holding no more of a piece than is looked at

module _ (l : ℕ) (s : List ℕ) where
  first_alike : (p q : List ℕ) (ps : List (List ℕ)) → book_answer s p ≡ book_answer s q → book_bytes s p ≡ book_bytes s q
      → left_from l s (p ∷ ps) ≡ left_from l s (q ∷ ps)
  first_alike p q ps e f = rw (e, f)

  run_verbatim : (p : List ℕ) (ps : List (List ℕ)) → left_from l s (join_run p ps) ≡ left_from l s (join_run (kept_of p) ps)
  run_verbatim [] [] = refl
  run_verbatim (b ∷ p) [] = first_alike (b ∷ p) (kept_of (b ∷ p)) [] (sym (verbatim_answer s (b ∷ p))) (sym (kept_bytes s (b ∷ p)))
  run_verbatim p (q ∷ qs) = first_alike (p ++ q) (kept_of p ++ q) qs (sym (then_answer s p q)) (sym (then_bytes s p q))

  held_kept : (p text : List ℕ) → member 10 p ≡ false → left (between p l s) text ≡ left (between (kept_of p) l s) text
  held_kept p text e =
      ap (left_from l s) (begun p text e) ∙ run_verbatim p (pieces text)
      ∙ sym (ap (left_from l s) (begun (kept_of p) text (none_front hold_length p e)))

-- ---- a step

-- what was left in front of a step over a chunk is what it wrote and what is left behind it
pub record Goes (x : Between) (chunk : List ℕ) (y : Step) : Type 0 where
  pub says : (text : List ℕ) → left x (chunk ++ text) ≡ text_in y ++ left (kept_in y) (drop (used_of y) chunk ++ text)
  pub unbroken : Unbroken (kept_in y)

module _ (held : List ℕ) (l : ℕ) (s : List ℕ) (none : member 10 held ≡ false) where
  stays : (chunk : List ℕ) → Goes (between held l s) chunk (step 0 [] (between held l s))
  stays chunk = record { says = λ text. refl; unbroken = none }

  holds : (p : List ℕ) → member 10 p ≡ false → Goes (between held l s) p (step (length p) [] (between (kept_of (held ++ p)) l s))
  holds p n =
      record {
        says =
            λ text.
            ap (λ t. left_from l s (pieces t)) (sym (append_assoc held p text)) ∙ held_kept l s (held ++ p) text (none_both held p none n)
            ∙ ap (λ t. left (between (kept_of (held ++ p)) l s) (t ++ text)) (sym (drop-length p));
        unbroken = none_front hold_length (held ++ p) (none_both held p none n);
      }

  books : (p t : List ℕ) → Ended p → (y : Step) → Goes (between [] (next_line l) (book_bytes s (held ++ p))) t y
      → Goes (between held l s) (p ++ t) (after (length p) (report l (book_answer s (held ++ p))) y)
  books p t e (step used text kept) g =
      let said = report l (book_answer s (held ++ p)) in
      record {
        says =
            λ more.
            ap (λ q. left_from l s (pieces q)) (ap (λ q. held ++ q) (append_assoc p t more) ∙ sym (append_assoc held p (t ++ more)))
            ∙ ap (left_from l s) (ended_then (held ++ p) (t ++ more) (ended_behind held p none e))
            ∙ ap (λ q. said ++ q) (g.says more)
            ∙ sym (append_assoc said text (left kept (drop used t ++ more)))
            ∙ ap (λ q. (said ++ text) ++ left kept (q ++ more)) (sym (drop-append-add p t used));
        unbroken = g.unbroken;
      }

over : {chunk : List ℕ} {ps : List (List ℕ)} → Cuts chunk ps → (room : ℕ) (held : List ℕ) (l : ℕ) (s : List ℕ) → member 10 held ≡ false
    → Goes (between held l s) chunk (step_over room held l s ps)
over nothing room held l s none = stays held l s none []
over (last {p} u) room held l s none = rw (unended p u.unbroken) (holds held l s none p u.unbroken)
over (more {p} {s = t} {ps} e c) room held l s none =
    let said = report l (book_answer s (held ++ p)) in
    let next = step_over (room - length said) [] (next_line l) (book_bytes s (held ++ p)) ps in
    rw (ended p e)
    (go (ltb room longest) (books held l s none p t e next (over c (room - length said) [] (next_line l) (book_bytes s (held ++ p)) refl)))
  where
    go : (b : Bool) {y : Step} → Goes (between held l s) (p ++ t) y
        → Goes (between held l s) (p ++ t) (cond b (step 0 [] (between held l s)) y)
    go true g = stays held l s none (p ++ t)
    go false g = g

pub one_call : (room : ℕ) (x : Between) (chunk : List ℕ) → Unbroken x → Goes x chunk (step_from room x chunk)
one_call room (between held l s) chunk none = over (pieces_cut chunk) room held l s none

-- ---- the end of the text

pub at_end : (x : Between) → Unbroken x → left x [] ≡ finished x
at_end (between [] l s) none = refl
at_end (between (b ∷ p) l s) none = ap (left_from l s) (begun (b ∷ p) [] none)
