-- The saved day: what is saved of an undamaged table is read as that table, and whatever reads as a table is what is saved of it.
use Prim.Native.Nat.{ℕ, ◌+◌, ◌^◌, ◌≤◌, ◌<◌}
use native.Mathlib.Omega.{arith}
use mathlib.Core.Path.{◌≡◌, refl, sym, ap, ◌∙◌}
use mathlib.Core.Bool.{Bool, true, false, cond, ◌&&◌}
use mathlib.Core.List.{List, [], ◌∷◌, ◌++◌, append_assoc, append-nil}
use borrow.Author.Tests.{leb-true, le-leb, eqb-true, eqb-false, eq-eqb}
use lib.Dec.{ltb, leb, eqb}
use lib.ListN.{length, get_or, drop, length-append, length-drop, drop_of_length-le}
use lib.Seq.{drop-append_seam}
use Rattle.run.proofs.All.{all_drop}
use Rattle.run.proofs.Tests.{both}
use Rattle.refusal.specs.Answer.{value, refused}
use Rattle.layout.proofs.Forms.{no_value}
use Rattle.order.specs.Stored.{sound_order}
use Rattle.order.specs.declared.Order.{Order}
use Rattle.quote.specs.Quotes.{most_rows, sound_row}
use Rattle.quote.specs.Rows.{all_rows_sound}
use Rattle.quote.specs.declared.QuoteRow.{QuoteRow}
use Rattle.day.specs.Damage.{undamaged, all_sound, elders_of, earlier}
use Rattle.day.specs.Tables.{Table}
use Rattle.day.proofs.Undamaged.{apart, apart_rows}
use Rattle.groups.specs.Taken.{Taken, none, taken, behind, list_in, joined, all_of, AreBytes, lawful_list}
use Rattle.groups.specs.Groups.{number_bytes, number_in}
use Rattle.groups.proofs.Lists.{list_exact, length_list_in}
use Rattle.groups.proofs.Numbers.{number_exact}
use Rattle.saved.specs.Entries.{saved_order, saved_order_in, saved_row, saved_row_in, savable}
use Rattle.saved.specs.Days.{mark_of, front_numbers, saved_day, front_lawful, table_from, day_of, behind_front, day_in}
use Rattle.saved.proofs.Heads.{not_taken, same_taken}
use Rattle.saved.proofs.Savable.{in64_below, all_from, order_exact, row_exact}

mark_read : (b : Bool) → eqb (mark_of b) 1 ≡ b
mark_read true = refl
mark_read false = refl

mark_few : (b : Bool) → mark_of b ≤ 1
mark_few true = omega arith
mark_few false = omega arith

mark_said : (n : ℕ) → n ≤ 1 → mark_of (eqb n 1) ≡ n
mark_said n h = go (eqb n 1) refl
  where
    go : (t : Bool) → eqb n 1 ≡ t → mark_of t ≡ n
    go true e = sym (eqb-true n 1 e)
    go false e = let other = eqb-false n 1 e in omega arith

-- ---- an undamaged table can be saved

-- elders are earlier orders, so their numbers are few
all_savable : (k : ℕ) (os : List Order) → k + length os < 2 ^ 64 → earlier k (elders_of os) ≡ true → all_sound os ≡ true → all_of savable os ≡ true
all_savable k [] h a s = refl
all_savable k (o ∷ os) h a s =
    let early = both (leb o.elder k) (earlier (k + 1) (elders_of os)) a in
    let sound = both (sound_order o) (all_sound os) s in
    let elder = leb-true o.elder k early.0 in
    rw (sound.0, in64_below o.elder (omega arith), all_savable (k + 1) os (omega arith) early.1 sound.1)

rows_savable : (ws : List QuoteRow) → all_of sound_row ws ≡ all_rows_sound ws
rows_savable [] = refl
rows_savable (w ∷ ws) = ap (λ t. sound_row w && t) (rows_savable ws)

rows_few : most_rows ≤ 128
unfolding most_rows
rows_few = omega arith

-- ---- what is saved is read

listed : {A : Type 0} (test : A → Bool) (xs : List A) → all_of test xs ≡ true → lawful_list test (length xs) xs ≡ true
listed test xs e = rw (eq-eqb (length xs) (length xs) refl) e

module _ (limit : ℕ) (few : limit < 2 ^ 64) (t : Table) (u : undamaged limit t ≡ true) where
  front_lawful_lem : front_lawful limit (front_numbers t) ≡ true
  front_lawful_lem =
      rw (
        le-leb (mark_of t.over) 1 (mark_few t.over),
        le-leb (length t.orders) limit (apart limit t u).fits,
        le-leb (length t.quotes) most_rows (apart_rows limit t u).fits,
      )

  front_read : (s : List ℕ) → list_in number_in 4 (joined number_bytes (front_numbers t) ++ s) ≡ taken (front_numbers t) (length (joined number_bytes (front_numbers t)))
  front_read s =
      (list_exact number_exact 4).back (front_numbers t) s
      (rw (
        in64_below (mark_of t.over) (omega (arith, mark_few t.over)),
        in64_below (length t.orders) (omega (arith, (apart limit t u).fits)),
        in64_below (length t.quotes) (omega (arith, (apart_rows limit t u).fits, rows_few)),
      ))

  orders_read : (s : List ℕ) → list_in saved_order_in (length t.orders) (joined saved_order t.orders ++ s) ≡ taken t.orders (length (joined saved_order t.orders))
  orders_read s =
      let a = apart limit t u in
      (list_exact order_exact (length t.orders)).back t.orders s
      (listed savable t.orders (all_savable 0 t.orders (omega (arith, a.fits)) a.early a.sound))

  rows_read : list_in saved_row_in (length t.quotes) (joined saved_row t.quotes) ≡ taken t.quotes (length (joined saved_row t.quotes))
  rows_read =
      rw (append-nil (joined saved_row t.quotes)) at
      ((list_exact row_exact (length t.quotes)).back t.quotes []
      (listed sound_row t.quotes (rows_savable t.quotes ∙ (apart_rows limit t u).sound)))

  table_read : let rest = joined saved_order t.orders ++ joined saved_row t.quotes in table_from (front_numbers t) rest ≡ taken t (length rest)
  table_read =
      let a = joined saved_order t.orders in
      let b = joined saved_row t.quotes in
      rw (orders_read b, drop-append_seam a b, rows_read, mark_read t.over, length-append a b)

  pub day_back : day_in limit (saved_day t) ≡ value t
  unfolding day_in saved_day
  day_back =
      let f = joined number_bytes (front_numbers t) in
      let a = joined saved_order t.orders in
      let b = joined saved_row t.quotes in
      rw (append_assoc f a b, front_read (a ++ b), front_lawful_lem, drop-append_seam f (a ++ b), table_read, eq-eqb (length (a ++ b)) (length (a ++ b)) refl, u)

-- ---- what is read was saved

pub same_value : {A : Type 0} {a b : A} → value a ≡ value b → a ≡ b
same_value e = cc

-- what is read behind the front, taken apart
record Behind (vs s : List ℕ) (t : Table) (w : ℕ) : Type 0 where
  u : ℕ
  v : ℕ
  orders : list_in saved_order_in (get_or vs 2 0) s ≡ taken t.orders u
  quotes : list_in saved_row_in (get_or vs 3 0) (drop u s) ≡ taken t.quotes v
  over : t.over ≡ eqb (get_or vs 1 0) 1
  width : u + v ≡ w

behind_front_lem : (vs s : List ℕ) (t : Table) (w : ℕ) → table_from vs s ≡ taken t w → Behind vs s t w
behind_front_lem vs s t w e = by_orders (list_in saved_order_in (get_or vs 2 0) s) refl e
  where
    by_rows : (os : List Order) (u : ℕ) (x : Taken (List QuoteRow)) → list_in saved_order_in (get_or vs 2 0) s ≡ taken os u
        → list_in saved_row_in (get_or vs 3 0) (drop u s) ≡ x
        → behind x (λ ws v. taken (record { orders = os; quotes = ws; over = eqb (get_or vs 1 0) 1 }) (u + v)) ≡ taken t w → Behind vs s t w
    by_rows os u none p q e = absurd (not_taken e)
    by_rows os u (taken ws v) p q e =
        let (made, width) = same_taken e in
        record {
          u = u;
          v = v;
          orders = p ∙ ap (λ (x : Table). taken x.orders u) made;
          quotes = q ∙ ap (λ (x : Table). taken x.quotes v) made;
          over = sym (ap (λ (x : Table). x.over) made);
          width = width;
        }

    by_orders : (x : Taken (List Order)) → list_in saved_order_in (get_or vs 2 0) s ≡ x
        → behind x (λ os u. behind (list_in saved_row_in (get_or vs 3 0) (drop u s)) (λ ws v. taken (record { orders = os; quotes = ws; over = eqb (get_or vs 1 0) 1 }) (u + v))) ≡ taken t w
        → Behind vs s t w
    by_orders none p e = absurd (not_taken e)
    by_orders (taken os u) p e = by_rows os u (list_in saved_row_in (get_or vs 3 0) (drop u s)) p refl e

-- what is read, taken apart
record Parts (limit : ℕ) (s : List ℕ) (t : Table) : Type 0 where
  vs : List ℕ
  f : ℕ
  front : list_in number_in 4 s ≡ taken vs f
  lawful : front_lawful limit vs ≡ true
  rest : Behind vs (drop f s) t (length (drop f s))
  sound : undamaged limit t ≡ true

parts : (limit : ℕ) (s : List ℕ) (t : Table) → day_in limit s ≡ value t → Parts limit s t
unfolding day_in
parts limit s t e = by_front (list_in number_in 4 s) refl e
  where
    judged : (vs : List ℕ) (f : ℕ) (x : Table) (w : ℕ) (b : Bool) → list_in number_in 4 s ≡ taken vs f → front_lawful limit vs ≡ true
        → table_from vs (drop f s) ≡ taken x w → (eqb w (length (drop f s)) && undamaged limit x) ≡ b → cond b (value x) (refused 14 0) ≡ value t → Parts limit s t
    judged vs f x w true p l q g e =
        let whole = both (eqb w (length (drop f s))) (undamaged limit x) g in
        let said = same_value e in
        let all_read = eqb-true w (length (drop f s)) whole.0 in
        record {
          vs = vs;
          f = f;
          front = p;
          lawful = l;
          rest = behind_front_lem vs (drop f s) t (length (drop f s)) (q ∙ ap (λ (y : Table). taken y w) said ∙ ap (taken t) all_read);
          sound = ap (undamaged limit) (sym said) ∙ whole.1;
        }
    judged vs f x w false p l q g e = absurd (no_value e)

    by_table : (vs : List ℕ) (f : ℕ) (x : Taken Table) → list_in number_in 4 s ≡ taken vs f → front_lawful limit vs ≡ true → table_from vs (drop f s) ≡ x
        → day_of limit (length (drop f s)) x ≡ value t → Parts limit s t
    by_table vs f none p l q e = absurd (no_value e)
    by_table vs f (taken x w) p l q e = judged vs f x w (eqb w (length (drop f s)) && undamaged limit x) p l q refl e

    by_lawful : (vs : List ℕ) (f : ℕ) (b : Bool) → list_in number_in 4 s ≡ taken vs f → front_lawful limit vs ≡ b
        → cond b (day_of limit (length (drop f s)) (table_from vs (drop f s))) (refused 14 0) ≡ value t → Parts limit s t
    by_lawful vs f true p l e = by_table vs f (table_from vs (drop f s)) p l refl e
    by_lawful vs f false p l e = absurd (no_value e)

    by_front : (x : Taken (List ℕ)) → list_in number_in 4 s ≡ x → behind_front limit s x ≡ value t → Parts limit s t
    by_front none p e = absurd (no_value e)
    by_front (taken vs f) p e = by_lawful vs f (front_lawful limit vs) p refl e

-- three runs, one behind another, and nothing behind the last
whole_read : (a b c s : List ℕ) (f u v : ℕ) → a ++ drop f s ≡ s → b ++ drop u (drop f s) ≡ drop f s → c ++ drop v (drop u (drop f s)) ≡ drop u (drop f s)
    → u + v ≡ length (drop f s) → (a ++ b) ++ c ≡ s
whole_read a b c s f u v p q r w =
    let nothing : drop v (drop u (drop f s)) ≡ [] = drop_of_length-le (drop u (drop f s)) {i = v} (omega (arith, length-drop u (drop f s))) in
    let last : c ≡ drop u (drop f s) = sym (append-nil c) ∙ ap (λ (l : List ℕ). c ++ l) (sym nothing) ∙ r in
    append_assoc a b c ∙ ap (λ (l : List ℕ). a ++ (b ++ l)) last ∙ ap (λ (l : List ℕ). a ++ l) q ∙ p

-- a lawful front says mark and counts
front_is : (limit : ℕ) (vs : List ℕ) (over : Bool) (n m : ℕ) → front_lawful limit vs ≡ true → length vs ≡ 4 → over ≡ eqb (get_or vs 1 0) 1
    → n ≡ get_or vs 2 0 → m ≡ get_or vs 3 0 → 1 ∷ mark_of over ∷ n ∷ m ∷ [] ≡ vs
front_is limit vs over n m lawful four o p q =
    let l = both (eqb (get_or vs 0 0) 1 && leb (get_or vs 1 0) 1 && leb (get_or vs 2 0) limit) (leb (get_or vs 3 0) most_rows) lawful in
    let k = both (eqb (get_or vs 0 0) 1 && leb (get_or vs 1 0) 1) (leb (get_or vs 2 0) limit) l.0 in
    let form = both (eqb (get_or vs 0 0) 1) (leb (get_or vs 1 0) 1) k.0 in
    let mark = mark_said (get_or vs 1 0) (leb-true (get_or vs 1 0) 1 form.1) in
    rw (o, mark, p, q) (ap (λ (x : ℕ). x ∷ get_or vs 1 0 ∷ get_or vs 2 0 ∷ get_or vs 3 0 ∷ []) (sym (eqb-true (get_or vs 0 0) 1 form.0)) ∙ all_from 0 4 vs (sym four))

pub day_sound : (limit : ℕ) (s : List ℕ) (t : Table) → day_in limit s ≡ value t → undamaged limit t ≡ true
day_sound limit s t e = (parts limit s t e).sound

module _ (limit : ℕ) (s : List ℕ) (bytes : AreBytes s) (t : Table) (e : day_in limit s ≡ value t) where
  front_said : front_numbers t ≡ (parts limit s t e).vs
  front_said =
      let p = parts limit s t e in
      let r = p.rest in
      front_is limit p.vs t.over (length t.orders) (length t.quotes) p.lawful (length_list_in number_in 4 s p.vs p.f p.front) r.over
      (length_list_in saved_order_in (get_or p.vs 2 0) (drop p.f s) t.orders r.u r.orders)
      (length_list_in saved_row_in (get_or p.vs 3 0) (drop r.u (drop p.f s)) t.quotes r.v r.quotes)

  pub day_forth : saved_day t ≡ s
  unfolding saved_day
  day_forth =
      let p = parts limit s t e in
      let r = p.rest in
      let rest = drop p.f s in
      let rest_bytes : AreBytes rest = all_drop (λ x. ltb x 256) s p.f bytes in
      let last_bytes : AreBytes (drop r.u rest) = all_drop (λ x. ltb x 256) rest r.u rest_bytes in
      ap (λ (vs : List ℕ). joined number_bytes vs ++ joined saved_order t.orders ++ joined saved_row t.quotes) front_said
      ∙ whole_read (joined number_bytes p.vs) (joined saved_order t.orders) (joined saved_row t.quotes) s p.f r.u r.v
      ((list_exact number_exact 4).forth s p.vs p.f bytes p.front)
      ((list_exact order_exact (get_or p.vs 2 0)).forth rest t.orders r.u rest_bytes r.orders)
      ((list_exact row_exact (get_or p.vs 3 0)).forth (drop r.u rest) t.quotes r.v last_bytes r.quotes)
      r.width
