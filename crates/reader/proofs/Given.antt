-- What a reader gives: the pieces of the text, each once and in its order, and then nothing.
use Prim.Native.Nat.{ℕ, zero, suc, ◌+◌, ◌≤◌, ◌<◌}
use native.Mathlib.Omega.{arith}
use mathlib.Core.Path.{◌≡◌, refl, sym}
use mathlib.Core.Bool.{Bool, true, false}
use mathlib.Core.List.{List}
use borrow.Author.Tests.{ltb-true, ltb-false}
use denote.Ref.{Bor}
use lib.Dec.{ltb}
use lib.ListN.{length, drop_of_length-le}
use Rattle.piece.proofs.Cutting.{pieces_cut}
use Rattle.piece.proofs.Firsts.{first_piece_at}
use Rattle.piece.proofs.Lengths.{nothing_left, piece_left}
use Rattle.reader.specs.Reading.{over_text, past_piece, pieces_left, Gives, ReadsAll}
use Rattle.reader.specs.Reading.Gives.{no_more, one_more}
use Rattle.reader.specs.declared.Reader.{Reader}
use Rattle.reader.proofs.Standing.{piece_ahead, nothing_ahead, behind_later}

-- no other pieces than those that are left
given_left : {r : Reader} {ps : List (List ℕ)} → Gives r ps → ps ≡ pieces_left r
given_left (no_more {r} e) = let past = (nothing_ahead r.text.now r.at e).0 in rw (drop_of_length-le r.text.now past)
given_left (one_more {r} {e} a g) =
    let inside = (piece_ahead r.text.now r.at e a).0 in
    rw (given_left g) (sym (first_piece_at r.text.now r.at inside))

none_given : (r : Reader) → length r.text.now ≤ r.at → Gives r (pieces_left r)
none_given r h = rw (drop_of_length-le r.text.now h) (no_more (sym (nothing_left r.text.now r.at h)))

-- those that are left, in at most n steps
left_given : (n : ℕ) (r : Reader) → length r.text.now ≤ r.at + n → Gives r (pieces_left r)
left_given zero r h = none_given r (omega arith)
left_given (suc n) r h = go (ltb r.at (length s)) refl (left_given n)
  where
    s : List ℕ
    s = r.text.now

    go : (t : Bool) → ltb r.at (length s) ≡ t → ((q : Reader) → length q.text.now ≤ q.at + n → Gives q (pieces_left q)) → Gives r (pieces_left r)
    go false e ih = none_given r (ltb-false r.at (length s) e)
    go true e ih =
        let inside : r.at < length s = ltb-true r.at (length s) e in
        rw (first_piece_at s r.at inside) (one_more (sym (piece_left s r.at _ inside refl)) (ih (past_piece r) (omega (arith, behind_later s r.at inside))))

pub reads_all : (t : Bor (List ℕ)) → ReadsAll t
reads_all t = record {
  gives = left_given (length t.now) (over_text t) (omega arith);
  only = λ ps g. given_left g;
  cut = λ ps g. rw (given_left g) (pieces_cut t.now);
}
