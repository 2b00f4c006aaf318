-- One accepted line: what booking does to the orders of a legal history is what the longer history declares.
use Prim.Native.Nat.{ℕ, ◌+◌, ◌-◌}
use native.Mathlib.Nat.{sub-zero}
use native.Mathlib.Omega.{arith}
use mathlib.Core.Path.{◌≡◌, refl, sym, ap, ap₂, ◌∙◌}
use mathlib.Core.Bool.{Bool, true, false, cond, and-false}
use mathlib.Core.List.{List, [], ◌∷◌, ◌++◌, map, map-append, Memᴰ}
use Rattle.layout.specs.Line.{line}
use Rattle.layout.specs.declared.Event.{Event}
use Rattle.layout.specs.declared.Event.TheVariants.{Accepted, Executed, Cancelled, Broken, Replaced, Repriced}
use Rattle.layout.specs.declared.Record.{Record}
use Rattle.layout.specs.declared.Trade.{Trade}
use Rattle.order.specs.Figure.{executed_by, broken_by, cancelled_by, passed_on}
use Rattle.order.specs.Names.{key_of, elder_key_of, same_key}
use Rattle.order.specs.declared.Figures.{Figures}
use Rattle.order.specs.declared.Key.{Key}
use Rattle.order.specs.declared.Order.{Order}
use Rattle.day.specs.History.{History, is_execution, is_break, is_cancel, is_replace, is_maker, replaces, add_if, sum_of, left}
use Rattle.day.specs.History.{grants, lines_that_make, place_of, elder_of, order_of, orders_of, known}
use Rattle.day.specs.Machine.{place, amend, with_figures, with_price, new_order, book_event}
use Rattle.order.proofs.Sameness.{key_self, key_comm}
use Rattle.day.proofs.Legal.{Follows, Legal, elder_known, apart, unreplaced, named_known, unknown_sum, unknown_passed, Made, made}
use Rattle.day.proofs.Lookup.{changed, place_order, place_kept, amend_orders}

-- ---- what is left of a size

left_sum : (s x c p : ℕ) → left s x c p ≡ s - (x + c + p)
left_sum s x c p = omega arith

left_executed : (s x c p n : ℕ) → left s x c p - n ≡ left s (x + n) c p
left_executed s x c p n = rw (left_sum s x c p, left_sum s (x + n) c p) (omega arith)

left_cancelled : (s x c p n : ℕ) → left s x c p - n ≡ left s x (c + n) p
left_cancelled s x c p n = rw (left_sum s x c p, left_sum s x (c + n) p) (omega arith)

left_passed : (s x c p : ℕ) → 0 ≡ left s x c (p + left s x c p)
left_passed s x c p = rw (left_sum s x c (p + left s x c p), left_sum s x c p) (omega arith)

-- ---- one order's figures, changed or not

abbrev figures_with : (size executed broken cancelled passed : ℕ) → Figures
figures_with s x b c p = record { size = s; executed = x; broken = b; cancelled = c; passed = p; «open» = left s x c p }

module _ (s x b c p : ℕ) where
  abbrev before : Figures
  before = figures_with s x b c p

  executed_if : (t : Bool) (n : ℕ) → cond t (executed_by before n) before ≡ figures_with s (add_if t n x) b c p
  executed_if true n = λ i. record { size = s; executed = x + n; broken = b; cancelled = c; passed = p; «open» = left_executed s x c p n i }
  executed_if false n = refl

  cancelled_if : (t : Bool) (n : ℕ) → cond t (cancelled_by before n) before ≡ figures_with s x b (add_if t n c) p
  cancelled_if true n = λ i. record { size = s; executed = x; broken = b; cancelled = c + n; passed = p; «open» = left_cancelled s x c p n i }
  cancelled_if false n = refl

  broken_if : (t : Bool) (n : ℕ) → cond t (broken_by before n) before ≡ figures_with s x (add_if t n b) c p
  broken_if true n = refl
  broken_if false n = refl

  passed_if : (t : Bool) → cond t (passed_on before) before ≡ figures_with s x b c (add_if t (left s x c p) p)
  passed_if true = λ i. record { size = s; executed = x; broken = b; cancelled = c; passed = p + left s x c p; «open» = left_passed s x c p i }
  passed_if false = refl

-- ---- one order

with_figures_lem : (t : Bool) (f : Figures → Figures) (o : Order) (g : Figures) → cond t (f o.figures) o.figures ≡ g
    → cond t (with_figures f o) o ≡ with_figures (λ x. g) o
with_figures_lem true f o g e = ap (λ (x : Figures). with_figures (λ y. x) o) e
with_figures_lem false f o g e = ap (λ (x : Figures). with_figures (λ y. x) o) e

with_price_lem : (t : Bool) (n : ℕ) (o : Order) → cond t (with_price n o) o ≡ with_price (cond t n o.price) o
with_price_lem true n o = refl
with_price_lem false n o = refl

-- E, C, X and R, of an order that is known
module _ (h : History) (r m : Record) (k : known (key_of m) h ≡ true) where
  abbrev named : Bool
  named = same_key (key_of r) (key_of m)

  executed_order : (t : Trade) → r.event ≡ Executed t
      → changed (key_of r) (with_figures (λ f. executed_by f r.contracts)) (order_of h m) ≡ order_of (line r ∷ h) m
  executed_order t q =
      rw (q, key_comm (key_of m) (key_of r), named_known h r (key_of m) k)
      (with_figures_lem named (λ f. executed_by f r.contracts) (order_of h m) _ (executed_if _ _ _ _ _ named r.contracts))

  cancelled_order : r.event ≡ Cancelled
      → changed (key_of r) (with_figures (λ f. cancelled_by f r.contracts)) (order_of h m) ≡ order_of (line r ∷ h) m
  cancelled_order q =
      rw (q, key_comm (key_of m) (key_of r), named_known h r (key_of m) k)
      (with_figures_lem named (λ f. cancelled_by f r.contracts) (order_of h m) _ (cancelled_if _ _ _ _ _ named r.contracts))

  broken_order : (t : Trade) → r.event ≡ Broken t
      → changed (key_of r) (with_figures (λ f. broken_by f r.contracts)) (order_of h m) ≡ order_of (line r ∷ h) m
  broken_order t q =
      rw (q, key_comm (key_of m) (key_of r), named_known h r (key_of m) k)
      (with_figures_lem named (λ f. broken_by f r.contracts) (order_of h m) _ (broken_if _ _ _ _ _ named r.contracts))

  repriced_order : r.event ≡ Repriced → changed (key_of r) (with_price r.price) (order_of h m) ≡ order_of (line r ∷ h) m
  repriced_order q = rw (q, key_comm (key_of m) (key_of r), named_known h r (key_of m) k) (with_price_lem named r.price (order_of h m))

module _ (h : History) (r m : Record) (f : Follows h r) where
  elder_kept : Legal h → Made h m → elder_of m (lines_that_make h ++ (r ∷ [])) ≡ elder_of m (lines_that_make h)
  elder_kept l d = go (is_replace m.event) refl
    where
      go : (t : Bool) → is_replace m.event ≡ t
          → cond t (place_of (elder_key_of m) (lines_that_make h ++ (r ∷ []))) 0 ≡ cond t (place_of (elder_key_of m) (lines_that_make h)) 0
      go true q = place_kept (elder_key_of m) r h l (d.1 q)
      go false q = refl

  -- A and U, of an order made before
  older_order : Legal h → is_maker r.event ≡ true → Made h m
      → cond (replaces (key_of m) r) (with_figures passed_on (order_of h m)) (order_of h m) ≡ order_of (line r ∷ h) m
  older_order l q d =
      let k = key_of m in
      rw (q, (apart h k (key_of r) d.0 (f.fresh q)).1, elder_kept l d)
      (simp and-false (with_figures_lem (replaces k r) passed_on (order_of h m) _ (passed_if _ _ _ _ _ (replaces k r))))

-- A and U, of the order that it makes
new_order_lem : (h : History) (r : Record) → Legal h → Follows h r → is_maker r.event ≡ true
    → new_order r (grants h r) (elder_of r (lines_that_make h ++ (r ∷ []))) ≡ order_of (line r ∷ h) r
new_order_lem h r l f q =
    let k = key_of r in
    let n = f.fresh q in
    let none : (kind : Event → Bool) → sum_of kind k h ≡ 0 = λ kind. unknown_sum kind k h n in
    rw (unreplaced h r k f n, q, key_self k, none is_execution, none is_break, none is_cancel, unknown_passed k h l n) (simp (and-false, sub-zero))

-- ---- all orders

pub map_same : {A B : Type 0} (f g : A → B) (l : List A) → ((x : A) → Memᴰ x l → f x ≡ g x) → map f l ≡ map g l
map_same f g [] e = refl
map_same {A} {B} f g (x ∷ l) e =
    ap₂ {B = List B} {C = List B} ◌∷◌ (e x (Memᴰ.head refl)) (map_same f g l (λ y i. e y (Memᴰ.tail i)))

module _ (h : History) (r : Record) (l : Legal h) (f : Follows h r) where
  -- a line that makes no order
  amended : (k : Key) (c : Order → Order) → is_maker r.event ≡ false
      → ((m : Record) → known (key_of m) h ≡ true → changed k c (order_of h m) ≡ order_of (line r ∷ h) m)
      → amend k c (orders_of h) ≡ orders_of (line r ∷ h)
  amended k c q e =
      let kept : lines_that_make (line r ∷ h) ≡ lines_that_make h = rw q in
      amend_orders k c h l
      ∙ map_same (λ m. changed k c (order_of h m)) (order_of (line r ∷ h)) (lines_that_make h) (λ m i. e m (made h m l i).0)
      ∙ ap (map (order_of (line r ∷ h))) (sym kept)

  -- a line that makes one
  appended : (c : Record → Order) (elder : ℕ) → is_maker r.event ≡ true
      → ((m : Record) → c m ≡ cond (replaces (key_of m) r) (with_figures passed_on (order_of h m)) (order_of h m))
      → elder ≡ elder_of r (lines_that_make h ++ (r ∷ []))
      → map c (lines_that_make h) ++ (new_order r (grants h r) elder ∷ []) ≡ orders_of (line r ∷ h)
  appended c elder q e n =
      let more : lines_that_make (line r ∷ h) ≡ lines_that_make h ++ (r ∷ []) = rw q in
      let g = order_of (line r ∷ h) in
      ap₂ (λ (os : List Order) (o : Order). os ++ (o ∷ []))
      (map_same c g (lines_that_make h) (λ m i. e m ∙ older_order h r m f l q (made h m l i)))
      (ap (new_order r (grants h r)) n ∙ new_order_lem h r l f q)
      ∙ sym (map-append g (lines_that_make h) (r ∷ []))
      ∙ ap (map g) (sym more)

  pub booked : book_event r.event r (orders_of h) ≡ orders_of (line r ∷ h)
  booked = go r.event refl
    where
      go : (e : Event) → r.event ≡ e → book_event e r (orders_of h) ≡ orders_of (line r ∷ h)
      go Accepted q = appended (order_of h) 0 (ap is_maker q) (λ m. rw q) (rw q)
      go (Executed t) q = amended _ _ (ap is_maker q) (λ m k. executed_order h r m k t q)
      go Cancelled q = amended _ _ (ap is_maker q) (λ m k. cancelled_order h r m k q)
      go (Broken t) q = amended _ _ (ap is_maker q) (λ m k. broken_order h r m k t q)
      go Replaced q =
          let k = elder_key_of r in
          let elder = place k (orders_of h) in
          ap (λ (os : List Order). os ++ (new_order r (grants h r) elder ∷ [])) (amend_orders k (with_figures passed_on) h l)
          ∙ appended _ elder (ap is_maker q) (λ m. rw (q, key_comm (key_of m) k))
          (rw (ap is_replace q) (place_order k h ∙ sym (place_kept k r h l (elder_known h r f (ap is_replace q)))))
      go Repriced q = amended _ _ (ap is_maker q) (λ m k. repriced_order h r m k q)
