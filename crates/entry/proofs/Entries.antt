-- A head and numbers say what an entry is, and an entry what is made of it.
use Prim.Native.Nat.{ℕ, ◌+◌, ◌<◌}
use native.Mathlib.Omega.{arith}
use mathlib.Core.Path.{◌≡◌, refl, sym, ap, ◌∙◌}
use mathlib.Core.Bool.{Bool, true, false, cond, ◌&&◌, and-false, false≢true}
use mathlib.Core.List.{List}
use borrow.Author.Tests.{leb-true, leb-false, le-leb, lt-leb}
use lib.Dec.{leb, eqb}
use lib.ListN.{get_or, drop}
use Rattle.std.specs.Prelude.{Some, None}
use Rattle.std.specs.Option.{option_map, option_and_then}
use Rattle.message.specs.Rule.{num}
use Rattle.message.specs.Values.{one}
use Rattle.layout.specs.Layout.{keeps_rule}
use Rattle.order.specs.Stored.{lawful_key, lawful_series, sound_figures, sound_order}
use Rattle.order.specs.declared.Figures.{Figures}
use Rattle.order.specs.declared.Order.{Order}
use Rattle.quote.specs.declared.Quote.{Quote}
use Rattle.groups.specs.Taken.{Taken, none, taken, behind, list_in}
use Rattle.groups.specs.Groups.{number_in, taken_at}
use Rattle.saved.specs.Heads.{head_in}
use Rattle.saved.specs.Entries.{entry_in, if_sound, order_from}
use Rattle.entry.specs.Reads.{parted, sound_only, size_in}

-- ---- what is made of an entry

abbrev remade : {A : Type 0} → (Quote → List ℕ → A) → Taken (Quote × List ℕ) → Taken A
remade make none = none
remade make (taken p u) = taken (make p.0 p.1) u

-- an entry is made of its parts
made_of : {A : Type 0} (make : Quote → List ℕ → A) (w n : ℕ) (s : List ℕ) → entry_in make w n s ≡ remade make (entry_in parted w n s)
made_of make w n s = by_head (head_in w s)
  where
    by_numbers : (q : Quote) (u : ℕ) (t : Taken (List ℕ)) → behind t (λ vs v. taken (make q vs) (u + v)) ≡ remade make (behind t (λ vs v. taken (parted q vs) (u + v)))
    by_numbers q u none = refl
    by_numbers q u (taken vs v) = refl

    by_head : (t : Taken Quote)
        → behind t (λ q u. behind (list_in number_in n (drop u s)) (λ vs v. taken (make q vs) (u + v)))
        ≡ remade make (behind t (λ q u. behind (list_in number_in n (drop u s)) (λ vs v. taken (parted q vs) (u + v))))
    by_head none = refl
    by_head (taken q u) = by_numbers q u (list_in number_in n (drop u s))

-- it is there where it is sound, and then it is what was made
pub made_at : {A : Type 0} (sound : A → Bool) (make : Quote → List ℕ → A) (w n at : ℕ) (s : List ℕ)
    → taken_at at (if_sound sound (entry_in make w n s))
    ≡ option_and_then (λ (p : (Quote × List ℕ) × ℕ). option_map (λ (a : A). (a, p.1)) (sound_only sound (make p.0.0 p.0.1))) (taken_at at (entry_in parted w n s))
made_at {A} sound make w n at s = rw (made_of make w n s) (go (entry_in parted w n s))
  where
    judged : (a : A) (u : ℕ) (b : Bool) → taken_at at (cond b (taken a u) none) ≡ option_map (λ (x : A). (x, at + u)) (cond b (Some a) None)
    judged a u true = refl
    judged a u false = refl

    go : (t : Taken (Quote × List ℕ))
        → taken_at at (if_sound sound (remade make t))
        ≡ option_and_then (λ (p : (Quote × List ℕ) × ℕ). option_map (λ (a : A). (a, p.1)) (sound_only sound (make p.0.0 p.0.1))) (taken_at at t)
    go none = refl
    go (taken p u) = judged (make p.0 p.1) u (sound (make p.0 p.1))

-- ---- the size of an order

abbrev small : (e c p l : ℕ) → Bool
small e c p l = leb e 999999 && leb c 999999 && leb p 999999 && leb l 999999

-- parts of which one is above any size are above it together
sum_large : (e c p l : ℕ) → small e c p l ≡ false → 999999 < e + c + p + l
sum_large e c p l h = go (leb (e + c + p + l) 999999) refl
  where
    go : (t : Bool) → leb (e + c + p + l) 999999 ≡ t → 999999 < e + c + p + l
    go false g = leb-false (e + c + p + l) 999999 g
    go true g =
        let most = leb-true (e + c + p + l) 999999 g in
        absurd (false≢true (sym h ∙ rw (le-leb e 999999 (omega arith), le-leb c 999999 (omega arith), le-leb p 999999 (omega arith), le-leb l 999999 (omega arith))))

no_size : (f : Figures) → leb f.size 999999 ≡ false → sound_figures f ≡ false
no_size f e = rw e (go (leb 1 f.size))
  where
    go : (a : Bool) → (a && false && leb f.broken f.executed && eqb f.size (f.executed + f.cancelled + f.passed + f.«open»)) ≡ false
    go true = refl
    go false = refl

abbrev rest : Order → Bool
rest o = lawful_key o.key && keeps_rule 14 (one o.side) && lawful_series o.series && keeps_rule 22 (num o.price)

unsound : (o : Order) → sound_figures o.figures ≡ false → sound_order o ≡ false
unsound o e = ap (λ t. rest o && t) e ∙ and-false (rest o)

-- an order whose parts have no size is not sound
pub no_order : (q : Quote) (vs : List ℕ) → None ≡ size_in (get_or vs 2 0) (get_or vs 4 0) (get_or vs 5 0) (get_or vs 6 0) → None ≡ sound_only sound_order (order_from q vs)
no_order q vs e = go (small (get_or vs 2 0) (get_or vs 4 0) (get_or vs 5 0) (get_or vs 6 0)) refl e
  where
    sum : ℕ
    sum = get_or vs 2 0 + get_or vs 4 0 + get_or vs 5 0 + get_or vs 6 0

    go : (t : Bool) → small (get_or vs 2 0) (get_or vs 4 0) (get_or vs 5 0) (get_or vs 6 0) ≡ t → None ≡ cond t (Some sum) None → None ≡ sound_only sound_order (order_from q vs)
    go true h p = cc
    go false h p =
        let over = sum_large (get_or vs 2 0) (get_or vs 4 0) (get_or vs 5 0) (get_or vs 6 0) h in
        rw (unsound (order_from q vs) (no_size (order_from q vs).figures (lt-leb sum 999999 over)))

size_sum : (e c p l n : ℕ) → Some n ≡ size_in e c p l → n ≡ e + c + p + l
size_sum e c p l n h = go (small e c p l) h
  where
    go : (t : Bool) → Some n ≡ cond t (Some (e + c + p + l)) None → n ≡ e + c + p + l
    go true p = cc
    go false p = cc

-- an order of its parts, whatever its size is said to be
abbrev pub sized : Quote → List ℕ → ℕ → Order
sized q vs size =
    record {
      key = q.key;
      side = q.side;
      series = q.series;
      price = get_or vs 0 0;
      elder = get_or vs 1 0;
      figures =
          record {
            size = size;
            executed = get_or vs 2 0;
            broken = get_or vs 3 0;
            cancelled = get_or vs 4 0;
            passed = get_or vs 5 0;
            «open» = get_or vs 6 0;
          };
    }

pub order_made : (q : Quote) (vs : List ℕ) (size : ℕ) (t : Bool) → Some size ≡ size_in (get_or vs 2 0) (get_or vs 4 0) (get_or vs 5 0) (get_or vs 6 0)
    → t ≡ sound_order (sized q vs size) → cond t (Some (sized q vs size)) None ≡ sound_only sound_order (order_from q vs)
order_made q vs size t e f = rw (f, size_sum (get_or vs 2 0) (get_or vs 4 0) (get_or vs 5 0) (get_or vs 6 0) size e)
