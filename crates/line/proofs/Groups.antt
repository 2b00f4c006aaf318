-- What the groups of fields say by themselves makes what all of them say, and that the record of a line.
use Rattle.std.specs.Bool.{then_some}
use Rattle.std.specs.Option.{option_map}
use Prim.Native.Nat.{ℕ, ◌-◌, ◌≤◌, ◌<◌}
use mathlib.Core.Path.{◌≡◌, refl, sym, ap, ◌∙◌}
use mathlib.Core.Bool.{Bool, true, false, cond}
use mathlib.Core.List.{List, [], ◌∷◌, ◌++◌}
use native.Mathlib.Nat.{add-zero}
use native.Mathlib.Omega.{arith}
use lib.Dec.{lit<, lit≤}
use lib.ListN.{length, get_or, take, drop, length-append}
use lib.Seq.{get_or-take, get_or-drop}
use Rattle.std.specs.Prelude.{Result, Ok, Err, Option, Some, None, is_some}
use Rattle.std.proofs.lemmas.List.{get_or_append_left, get_or-append_right}
use Rattle.run.specs.Runs.{part}
use Rattle.refusal.specs.declared.Refusal.{Refusal}
use Rattle.refusal.specs.declared.Refusal.TheVariants.{Field}
use Rattle.message.specs.Fields.{Fields, breaks, say, on_got, got_at, read_fields, value_at}
use Rattle.message.specs.Rule.{run, code, verbatim, Kind, is_kind, blank, text, text_or_blank, digits_or_blank, hex, Value, num, reads}
use Rattle.message.specs.Values.{num_of, run_of, num_at}
use Rattle.message.proofs.Groups.{five_read, read_five, read_length}
use Rattle.message.proofs.Rules.{run_some}
use Rattle.layout.specs.ByType.{bytes_on, id_on}
use Rattle.layout.specs.Layout.{is_trade, is_replace, trade_id, types, capacities, positions, liquidities, sides, months, denominators}
use Rattle.layout.specs.Line.{layout_of}
use Rattle.layout.specs.Records.{event_of, event_from, record_of, record_from}
use Rattle.layout.specs.declared.Numbers.{Numbers}
use Rattle.layout.specs.declared.Record.{Record}
use Rattle.layout.proofs.Lines.{exact_of}
use Rattle.layout.specs.Kept.{kept}
use Rattle.line.specs.Groups.{group, none_by, numbers_by, timestamp_of, contracts_of, series_of, ids_of, joined, grouped, line_by}
use Rattle.line.specs.declared.Said.TheVariants.{Line}
use Rattle.field.specs.Verbatim.{is_code, is_text, is_text_or_blank, is_digits_or_blank, is_blank}

-- the numbers of all fields
abbrev all_of : List Value → Numbers
all_of vs =
    record {
      timestamp = num_at vs 0;
      contracts = num_at vs 14;
      date = num_at vs 17;
      year = num_at vs 18;
      strike = num_at vs 20;
      price = num_at vs 21;
      match_id = num_at vs 22;
      cross_id = num_at vs 23;
    }

-- ---- the groups one after another

-- g says n values, if any
abbrev Long : ℕ → Fields → Type 0
Long n g = (vs : List Value) → g ≡ say vs → length vs ≡ n

all_groups : (s : List ℕ) → group 0 24 s ≡ five_read (group 0 6 s) (group 6 12 s) (group 12 17 s) (group 17 22 s) (group 22 24 s)
all_groups s =
    let l = layout_of s in
    read_five (take 6 l) (take 6 (drop 6 l)) (take 5 (drop 12 l)) (take 5 (drop 17 l)) (take 2 (drop 22 l)) s

long_group : (k m n : ℕ) (s : List ℕ) → length (take (m - k) (drop k (layout_of s))) ≡ n → Long n (group k m s)
long_group k m n s e vs h = read_length (take (m - k) (drop k (layout_of s))) [] vs s h ∙ rw e (omega arith)

-- the value at i of values behind n others, and of values that others are behind
behind : (n i : ℕ) (us vs : List Value) → length us ≡ n → n ≤ i → num_at (us ++ vs) i ≡ num_at vs (i - n)
behind n i us vs e h = rw (get_or-append_right us vs n i (num 0) e h)

before : (n i : ℕ) (us vs : List Value) → length us ≡ n → i < n → num_at (us ++ vs) i ≡ num_at us i
before n i us vs e h = rw (get_or_append_left us vs (num 0) i (omega arith))

join : (a b c d e : Fields) → Long 6 a → Long 6 b → Long 5 c → Long 5 d
    → joined (numbers_by timestamp_of a) (none_by b) (numbers_by contracts_of c) (numbers_by series_of d) (numbers_by ids_of e)
    ≡ numbers_by all_of (five_read a b c d e)
join (breaks n) b c d e p q r t = refl
join (say us) (breaks n) c d e p q r t = refl
join (say us) (say vs) (breaks n) d e p q r t = refl
join (say us) (say vs) (say ws) (breaks n) e p q r t = refl
join (say us) (say vs) (say ws) (say xs) (breaks n) p q r t = refl
join (say us) (say vs) (say ws) (say xs) (say ys) p q r t =
    let two : length (us ++ vs) ≡ 12 = omega (arith, length-append us vs, p us refl, q vs refl) in
    let three : length ((us ++ vs) ++ ws) ≡ 17 = omega (arith, length-append (us ++ vs) ws, two, r ws refl) in
    let four : length (((us ++ vs) ++ ws) ++ xs) ≡ 22 = omega (arith, length-append ((us ++ vs) ++ ws) xs, three, t xs refl) in
    let upto_3 : (i : ℕ) → i < 17 → num_at ((((us ++ vs) ++ ws) ++ xs) ++ ys) i ≡ num_at ((us ++ vs) ++ ws) i =
    λ i h. before 22 i (((us ++ vs) ++ ws) ++ xs) ys four (omega arith) ∙ before 17 i ((us ++ vs) ++ ws) xs three h in
    let in_4 : (i : ℕ) → 17 ≤ i → i < 22 → num_at ((((us ++ vs) ++ ws) ++ xs) ++ ys) i ≡ num_at xs (i - 17) =
    λ i h k. before 22 i (((us ++ vs) ++ ws) ++ xs) ys four k ∙ behind 17 i ((us ++ vs) ++ ws) xs three h in
    let first : num_at ((((us ++ vs) ++ ws) ++ xs) ++ ys) 0 ≡ num_at us 0 =
    upto_3 0 (lit< tt) ∙ before 12 0 (us ++ vs) ws two (lit< tt) ∙ before 6 0 us vs (p us refl) (lit< tt) in
    let third : num_at ((((us ++ vs) ++ ws) ++ xs) ++ ys) 14 ≡ num_at ws 2 = upto_3 14 (lit< tt) ∙ behind 12 14 (us ++ vs) ws two (lit≤ tt) in
    let fifth : (i : ℕ) → 22 ≤ i → num_at ((((us ++ vs) ++ ws) ++ xs) ++ ys) i ≡ num_at ys (i - 22) =
    λ i h. behind 22 i (((us ++ vs) ++ ws) ++ xs) ys four h in
    rw (first, third, in_4 17 (lit≤ tt) (lit< tt), in_4 18 (lit≤ tt) (lit< tt), in_4 20 (lit≤ tt) (lit< tt), in_4 21 (lit≤ tt) (lit< tt), fifth 22 (lit≤ tt), fifth 23 (lit≤ tt))

joins : (s : List ℕ) → grouped s ≡ numbers_by all_of (group 0 24 s)
joins s =
    rw (all_groups s)
    (join (group 0 6 s) (group 6 12 s) (group 12 17 s) (group 17 22 s) (group 22 24 s)
    (long_group 0 6 6 s refl) (long_group 6 12 6 s refl) (long_group 12 17 5 s refl) (long_group 17 22 5 s refl))

-- ---- the record of a line whose fields all keep their rules

run_said : (t : Bool) (b : List ℕ) (v : Value) → then_some t (run b) ≡ Some v → b ≡ run_of v
run_said t b v e = sym (ap run_of (run_some t b v e).0)

-- a field that is blank on some types
code_or_blank : (on : Bool) (codes b : List ℕ) (v : Value) → reads (cond on (code codes) (verbatim blank)) b ≡ Some v → b ≡ run_of v
code_or_blank true codes b v e = run_said (is_code codes b) b v e
code_or_blank false codes b v e = run_said (is_blank b) b v e

text_on : (on : Bool) (b : List ℕ) (v : Value) → reads (cond on (verbatim text) (verbatim blank)) b ≡ Some v → b ≡ run_of v
text_on true b v e = run_said (is_text b) b v e
text_on false b v e = run_said (is_blank b) b v e

-- the byte at k is the field of one byte there
byte_of : (s : List ℕ) (k : ℕ) → get_or s k 0 ≡ get_or (part s k 1) 0 0
byte_of s k = sym (get_or-take 1 (drop k s) 0 0 (lit< tt) ∙ get_or-drop k s 0 0 ∙ ap (λ (i : ℕ). get_or s i 0) (add-zero k))

module _ (s : List ℕ) (vs : List Value) (e : read_fields (layout_of s) [] s ≡ say vs) where
  at : (n : ℕ) → 1 ≤ n → n ≤ 24 → got_at (layout_of s) s n ≡ Some (value_at vs n)
  at = (exact_of s).says s vs e

  byte : (k : ℕ) (v : Value) → part s k 1 ≡ run_of v → get_or s k 0 ≡ get_or (run_of v) 0 0
  byte k v q = byte_of s k ∙ ap (λ b. get_or b 0 0) q

  kind : (k : Kind) (b : List ℕ) (n : ℕ) → then_some (is_kind k b) (run b) ≡ Some (value_at vs n) → b ≡ run_of (value_at vs n)
  kind k b n = run_said (is_kind k b) b (value_at vs n)

  code_byte : (codes : List ℕ) (k n : ℕ) → reads (code codes) (part s k 1) ≡ Some (value_at vs n) → get_or s k 0 ≡ get_or (run_of (value_at vs n)) 0 0
  code_byte codes k n q = byte k (value_at vs n) (run_said (is_code codes (part s k 1)) (part s k 1) (value_at vs n) q)

  event_is : event_from (all_of vs) s ≡ (record_of vs).event
  event_is = λ i.
      event_of (code_byte types 8 2 (at 2 (lit≤ tt) (lit≤ tt)) i)
      (record {
        liquidity = byte 15 (value_at vs 6) (code_or_blank (is_trade (get_or s 8 0)) liquidities (part s 15 1) (value_at vs 6) (at 6 (lit≤ tt) (lit≤ tt))) i;
        match_id = num_at vs 22;
        cross_id = num_at vs 23;
      })

  record_is : record_from (all_of vs) s ≡ record_of vs
  record_is = λ i.
      record {
        timestamp = num_at vs 0;
        event = event_is i;
        firm = kind text (part s 9 4) 3 (at 3 (lit≤ tt) (lit≤ tt)) i;
        capacity = code_byte capacities 13 4 (at 4 (lit≤ tt) (lit≤ tt)) i;
        position = code_byte positions 14 5 (at 5 (lit≤ tt) (lit≤ tt)) i;
        account = kind text_or_blank (part s 16 4) 7 (at 7 (lit≤ tt) (lit≤ tt)) i;
        member = kind digits_or_blank (part s 20 5) 8 (at 8 (lit≤ tt) (lit≤ tt)) i;
        clearing = kind digits_or_blank (part s 25 5) 9 (at 9 (lit≤ tt) (lit≤ tt)) i;
        source = kind text (part s 30 6) 10 (at 10 (lit≤ tt) (lit≤ tt)) i;
        token = kind text (part s 36 20) 11 (at 11 (lit≤ tt) (lit≤ tt)) i;
        replaced = text_on (is_replace (get_or s 8 0)) (part s 56 20) (value_at vs 12) (at 12 (lit≤ tt) (lit≤ tt)) i;
        reference = kind hex (part s 76 9) 13 (at 13 (lit≤ tt) (lit≤ tt)) i;
        side = code_byte sides 85 14 (at 14 (lit≤ tt) (lit≤ tt)) i;
        contracts = num_at vs 14;
        root = kind text (part s 92 6) 16 (at 16 (lit≤ tt) (lit≤ tt)) i;
        month = code_byte months 98 17 (at 17 (lit≤ tt) (lit≤ tt)) i;
        date = num_at vs 17;
        year = num_at vs 18;
        denominator = code_byte denominators 103 20 (at 20 (lit≤ tt) (lit≤ tt)) i;
        strike = num_at vs 20;
        price = num_at vs 21;
      }

line_from : (s : List ℕ) (g : Fields) → read_fields (layout_of s) [] s ≡ g → (n : Numbers) → Ok n ≡ numbers_by all_of g → Ok (Line (record_from n s)) ≡ line_by g
line_from s (breaks x) e n h = cc
line_from s (say vs) e n h =
    let same : n ≡ all_of vs = cc in
    ap (λ (r : Record). Ok (Line r)) (ap (λ (m : Numbers). record_from m s) same ∙ record_is s vs e)

pub line_said : (s : List ℕ) (n : Numbers) → Ok n ≡ grouped s → Ok (Line (record_from n s)) ≡ line_by (group 0 24 s)
line_said s n h = line_from s (group 0 24 s) refl n (h ∙ joins s)

refused_from : (g : Fields) (x : Refusal) → Err x ≡ numbers_by all_of g → Err x ≡ line_by g
refused_from (breaks n) x h = cc
refused_from (say vs) x h = cc

pub line_refused : (s : List ℕ) (x : Refusal) → Err x ≡ grouped s → Err x ≡ line_by (group 0 24 s)
line_refused s x h = refused_from (group 0 24 s) x (h ∙ joins s)

-- ---- the ids of a trade

abbrev pub ids_by : Option ℕ → Option ℕ → Result Numbers Refusal
ids_by None o = Err (Field 23)
ids_by (Some m) None = Err (Field 24)
ids_by (Some m) (Some x) = Ok (record { timestamp = 0; contracts = 0; date = 0; year = 0; strike = 0; price = 0; match_id = m; cross_id = x })

pub trade_group : (s : List ℕ) → let on = is_trade (get_or s 8 0) in ids_by (id_on on (part s 120 9)) (id_on on (part s 129 9)) ≡ numbers_by ids_of (group 22 24 s)
trade_group s = go (reads (trade_id (get_or s 8 0)) (part s 120 9)) (reads (trade_id (get_or s 8 0)) (part s 129 9))
  where
    go : (g h : Option Value) → ids_by (option_map num_of g) (option_map num_of h) ≡ numbers_by ids_of (on_got g 23 (λ v. on_got h 24 (λ w. say (v ∷ w ∷ []))))
    go (Some v) (Some w) = refl
    go (Some v) None = refl
    go None h = refl

-- ---- the account's fields

abbrev pub account_by : (a b c d e f : Bool) → Result (Unit {0}) Refusal
account_by a b c d e f =
    cond a (cond b (cond c (cond d (cond e (kept f 12) (Err (Field 11))) (Err (Field 10))) (Err (Field 9))) (Err (Field 8))) (Err (Field 7))

pub account_group : (s : List ℕ) {a b c d e f : Bool} → a ≡ is_text_or_blank (part s 16 4) → b ≡ is_digits_or_blank (part s 20 5)
    → c ≡ is_digits_or_blank (part s 25 5) → d ≡ is_text (part s 30 6) → e ≡ is_text (part s 36 20)
    → f ≡ bytes_on (is_replace (get_or s 8 0)) (verbatim text) (part s 56 20) → account_by a b c d e f ≡ none_by (group 6 12 s)
account_group s p q r t u v =
    rw (p, q, r, t, u, v)
    (go (is_text_or_blank (part s 16 4)) (is_digits_or_blank (part s 20 5)) (is_digits_or_blank (part s 25 5)) (is_text (part s 30 6)) (is_text (part s 36 20))
    (reads (cond (is_replace (get_or s 8 0)) (verbatim text) (verbatim blank)) (part s 56 20)))
  where
    go : (a b c d e : Bool) (g : Option Value) → let byte : ℕ → ℕ → List ℕ = part s in
        account_by a b c d e (is_some g)
        ≡ none_by
        (on_got (then_some a (run (byte 16 4))) 7 (λ t. on_got (then_some b (run (byte 20 5))) 8 (λ u. on_got (then_some c (run (byte 25 5))) 9
        (λ v. on_got (then_some d (run (byte 30 6))) 10 (λ w. on_got (then_some e (run (byte 36 20))) 11 (λ x. on_got g 12
        (λ y. say ((((((([] ++ (t ∷ [])) ++ (u ∷ [])) ++ (v ∷ [])) ++ (w ∷ [])) ++ (x ∷ []))) ++ (y ∷ [])))))))))
    go true true true true true (Some y) = refl
    go true true true true true None = refl
    go true true true true false g = refl
    go true true true false e g = refl
    go true true false d e g = refl
    go true false c d e g = refl
    go false b c d e g = refl
