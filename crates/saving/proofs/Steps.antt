-- What the loops over the entries of a saved day keep: what is done, and what is left to do, give the same end.
use Prim.Native.Nat.{ℕ, ◌+◌, ◌-◌, ◌≤◌, ◌<◌}
use native.Mathlib.Nat.{zero-add}
use native.Mathlib.Numerals.{add-one}
use native.Mathlib.Omega.{arith}
use mathlib.Core.Path.{◌≡◌, refl, sym, ap, ◌∙◌}
use mathlib.Core.Bool.{Bool, true, false}
use mathlib.Core.List.{List, [], ◌++◌}
use borrow.Author.Tests.{leb-true, leb-false, le-leb, lt-leb}
use lib.Dec.{leb}
use lib.ListN.{length, take, drop, length-append, drop_of_length-le}
use lib.Seq.{sets, length-sets, drop-cons, take-append_seam}
use Rattle.run.proofs.Stores.{sets_append, sets_start}
use Rattle.groups.specs.Groups.{Puts}
use Rattle.saved.specs.Days.{saved_day}
use Rattle.saved.proofs.Cuts.{glued}
use Rattle.table.specs.Tables.{count_in, row_count_in, table_in}
use Rattle.saving.specs.Saving.{front_of, entries_in, entry_no}
use Rattle.saving.proofs.Days.{day_in, entries_count}

module _ (s : List ℕ) where
  abbrev day : List ℕ
  day = saved_day (table_in s)

  -- the entries from k on
  abbrev from : ℕ → List ℕ
  from k = glued (drop k (entries_in s))

  day_long : length day ≡ length (front_of s) + length (from 0)
  day_long = ap length (day_in s) ∙ length-append (front_of s) (glued (entries_in s))

  from_next : (k : ℕ) → k < count_in s + row_count_in s → from k ≡ entry_no s k ++ from (k + 1)
  from_next k h = ap glued (drop-cons (entries_in s) k [] (omega (arith, entries_count s))) ∙ rw (add-one k)

  from_end : (k : ℕ) → count_in s + row_count_in s ≤ k → from k ≡ []
  from_end k h = ap glued (drop_of_length-le (entries_in s) {i = k} (omega (arith, entries_count s)))

-- ---- the space that is left

-- taking a run from the space leaves the test as it was
one_taken : (a b space : ℕ) → a ≤ space → leb (a + b) space ≡ leb b (space - a)
one_taken a b space h = go (leb b (space - a)) refl
  where
    go : (t : Bool) → leb b (space - a) ≡ t → leb (a + b) space ≡ t
    go true e = le-leb (a + b) space (omega (arith, leb-true b (space - a) e))
    go false e = lt-leb (a + b) space (omega (arith, leb-false b (space - a) e))

-- entries from k on have room in what is left exactly where the day has room in the space
pub record Measuring (s : List ℕ) (space n left k : ℕ) : Type 0 where
  pub count : n ≡ count_in s + row_count_in s
  pub so : leb (length (saved_day (table_in s))) space ≡ leb (length (from s k)) left

module _ (s : List ℕ) {space front : ℕ} (e : front ≡ 0 + length (front_of s)) where
  pub measure_first : {n : ℕ} → n ≡ count_in s + row_count_in s → front ≤ space → Measuring s space n (space - front) 0
  measure_first q h =
      record { count = q; so = rw (day_long s, e, zero-add) (one_taken (length (front_of s)) (length (from s 0)) space (omega arith)) }

  pub front_too_long : space < front → false ≡ leb (length (saved_day (table_in s))) space
  front_too_long h = sym (lt-leb (length (day s)) space (omega (arith, day_long s)))

module _ {s : List ℕ} {space n left k : ℕ} (m : Measuring s space n left k) where
  module _ (h : k < n) {long : ℕ} (e : long ≡ 0 + length (entry_no s k)) where
    both_long : length (from s k) ≡ long + length (from s (k + 1))
    both_long = ap length (from_next s k (omega (arith, m.count))) ∙ length-append (entry_no s k) (from s (k + 1)) ∙ omega arith

    pub measure_next : long ≤ left → Measuring s space n (left - long) (k + 1)
    measure_next l = record { count = m.count; so = m.so ∙ rw both_long (one_taken long (length (from s (k + 1))) left l) }

    pub entry_too_long : left < long → false ≡ leb (length (saved_day (table_in s))) space
    entry_too_long l = sym (m.so ∙ lt-leb (length (from s k)) left (omega (arith, both_long)))

  pub measured : n ≤ k → true ≡ leb (length (saved_day (table_in s))) space
  measured h = sym (m.so ∙ rw (from_end s k (omega (arith, m.count))) (le-leb 0 left (omega arith)))

-- ---- what is stored

-- with the entries from k on all of them are stored from a place on
pub record Laying (s before : List ℕ) (start n : ℕ) (out : List ℕ) (at k : ℕ) : Type 0 where
  pub count : n ≡ count_in s + row_count_in s
  pub long : length out ≡ length before
  pub ends : at + length (from s k) ≡ start + length (from s 0)
  pub same_end : sets out at (from s k) ≡ sets before start (from s 0)

pub front_fits : (s : List ℕ) {room : ℕ} → length (saved_day (table_in s)) ≤ room → length (front_of s) ≤ room
front_fits s h = omega (arith, day_long s)

module _ {s before out : List ℕ} {start n at k : ℕ} (y : Laying s before start n out at k) where
  module _ (h : k < n) where
    next_entry : from s k ≡ entry_no s k ++ from s (k + 1)
    next_entry = from_next s k (omega (arith, y.count))

    both_end : at + (length (entry_no s k) + length (from s (k + 1))) ≡ start + length (from s 0)
    both_end = rw (next_entry, length-append) at y.ends

    pub lay_next : {r : ℕ} {after : List ℕ} → Puts (entry_no s k) at out r after → Laying s before start n after r (k + 1)
    lay_next p =
        record {
          count = y.count;
          long = rw (p.stored, length-sets out at (entry_no s k)) y.long;
          ends = omega (arith, both_end, p.next);
          same_end =
              rw (p.stored, p.next, sets_append out at (length (entry_no s k)) (entry_no s k) (from s (k + 1)) refl, ← next_entry)
              y.same_end;
        }

  -- where they begin behind the front
  module _ {first : List ℕ} (front : Puts (front_of s) 0 first start before) where
    pub lay_kept : length out ≡ length first
    lay_kept = y.long ∙ ap length front.stored ∙ length-sets first 0 (front_of s)

    pub lay_room : k < n → length (saved_day (table_in s)) ≤ length first → at + length (entry_no s k) ≤ length out
    lay_room h l = omega (arith, both_end h, front.next, day_long s, lay_kept)

    pub all_laid : n ≤ k → Puts (saved_day (table_in s)) 0 first at out
    all_laid h =
        let none_left = from_end s k (omega (arith, y.count)) in
        let whole : out ≡ sets before start (from s 0) = rw none_left at y.same_end in
        let ends = rw none_left at y.ends in
        record {
          stored = whole ∙ rw (front.stored, front.next, day_in s) (sets_append first 0 (length (front_of s)) (front_of s) (from s 0) refl);
          next = omega (arith, front.next, day_long s);
        }

-- ---- by way of a buffer

module _ {text buffer mid : List ℕ} {r : ℕ} (p : Puts text 0 buffer r mid) (h : length text ≤ length buffer) where
  pub text_inside : r ≤ length mid
  text_inside = rw (p.stored, length-sets buffer 0 text) (omega (arith, p.next))

  its_bytes : take (r - 0) mid ≡ text
  its_bytes =
      let long : r - 0 ≡ length text = omega (arith, p.next) in
      rw (long, p.stored, sets_start buffer text h) (take-append_seam text (drop (length text) buffer))

  pub text_laid : {out after : List ℕ} {at : ℕ} → after ≡ sets out at (take (r - 0) mid) → Puts text at out (at + r) after
  text_laid {out} {after} {at} e = record { stored = e ∙ ap (sets out at) its_bytes; next = omega (arith, p.next) }
