-- A slot says the order that was stored in it.
use Prim.Native.Nat.{ℕ, ◌+◌, ◌^◌, ◌<◌}
use mathlib.Core.Path.{◌≡◌, refl, ap, ◌∙◌}
use mathlib.Core.List.{List, [], ◌∷◌, ◌++◌, append_assoc}
use lib.ListN.{length, get_or, take, replicate, length-append}
use lib.Seq.{take_at, drop_at, drop-append-add, get_or-append-add}
use Rattle.run.specs.Runs.{part}
use Rattle.cell.specs.Cells.{le, le_bytes}
use Rattle.cell.proofs.Laws.{le_written}
use Rattle.order.specs.declared.Key.{Key}
use Rattle.order.specs.declared.Order.{Order}
use Rattle.order.specs.declared.Series.{Series}
use Rattle.slot.specs.Slots.{slot_width, key_bytes, series_bytes, figures_bytes, slot_bytes, key_in, series_in, order_in, Fits}

pub length_slot : {o : Order} → Fits o → length (slot_bytes o) ≡ slot_width
length_slot f = simp (length-append, f.source.0, f.token.0, f.root.0)

-- ---- what stands at a seam

run_at : (s p x q : List ℕ) (w n : ℕ) → s ≡ p ++ (x ++ q) → length p ≡ w → length x ≡ n → part s w n ≡ x
run_at s p x q w n e h k = rw (e, drop_at p (x ++ q) w h) (take_at x q n k)

byte_at : (s p q : List ℕ) (w i : ℕ) → s ≡ p ++ q → length p ≡ w → get_or s (w + i) 0 ≡ get_or q i 0
byte_at s p q w i e h = rw (e, ← h) (get_or-append-add p q i 0)

part_at : (s p q : List ℕ) (w i n : ℕ) → s ≡ p ++ q → length p ≡ w → part s (w + i) n ≡ part q i n
part_at s p q w i n e h = rw (e, ← h) (ap (take n) (drop-append-add p q i))

-- ---- key, side and series, and what stands behind them

-- as a slot begins
abbrev opening : Key → ℕ → Series → List ℕ → List ℕ
opening k side s rest = key_bytes k ++ (side ∷ []) ++ series_bytes s ++ rest

module _ (k : Key) (side : ℕ) (s : Series) (rest : List ℕ) (source : length k.source ≡ 6) (token : length k.token ≡ 20) (root : length s.root ≡ 6)
  where
    abbrev all : List ℕ
    all = opening k side s rest

    -- the 33 bytes up to the root, and those behind it, whose widths do not hang on the order
    abbrev front : List ℕ
    front = k.source ++ k.token ++ (side ∷ []) ++ s.root

    abbrev back : List ℕ
    back = (s.month ∷ []) ++ le_bytes 1 s.date ++ le_bytes 1 s.year ++ (s.denominator ∷ []) ++ le_bytes 4 s.strike ++ rest

    seam : all ≡ front ++ back
    seam = simp append_assoc

    wide : length front ≡ 33
    wide = simp (length-append, source, token, root)

    source_said : part all 0 6 ≡ k.source
    source_said = run_at all [] k.source (k.token ++ (side ∷ (s.root ++ back))) 0 6 (simp append_assoc) refl source

    token_said : part all 6 20 ≡ k.token
    token_said = run_at all k.source k.token (side ∷ (s.root ++ back)) 6 20 (simp append_assoc) source token

    root_said : part all 27 6 ≡ s.root
    root_said =
        run_at all (k.source ++ k.token ++ (side ∷ [])) s.root back 27 6 (simp append_assoc) (simp (length-append, source, token)) root

    back_byte : (i : ℕ) → get_or all (33 + i) 0 ≡ get_or back i 0
    back_byte i = byte_at all front back 33 i seam wide

    back_number : (i w v : ℕ) → part back i w ≡ le_bytes w v → v < 256 ^ w → le (part all (33 + i) w) ≡ v
    back_number i w v e h = ap le (part_at all front back 33 i w seam wide ∙ e) ∙ le_written w v h

    pub key_said : key_in all ≡ k
    key_said = λ i. record { source = source_said i; token = token_said i }

    pub side_said : get_or all 26 0 ≡ side
    side_said =
        byte_at all (k.source ++ k.token) (side ∷ (s.root ++ back)) 26 0 (simp append_assoc) (rw (length-append, source, token))

    pub series_said : s.date < 256 → s.year < 256 → s.strike < 2 ^ 32 → series_in all ≡ s
    series_said date year strike = λ i.
        record {
          root = root_said i;
          month = back_byte 0 i;
          date = back_number 1 1 s.date refl date i;
          year = back_number 2 1 s.year refl year i;
          denominator = back_byte 3 i;
          strike = back_number 4 4 s.strike refl strike i;
        }

    -- a number behind them
    pub number_said : (i w v : ℕ) → part rest i w ≡ le_bytes w v → v < 256 ^ w → le (part all (41 + i) w) ≡ v
    number_said i w v e h =
        ap le (part_at all (key_bytes k ++ (side ∷ []) ++ series_bytes s) rest 41 i w refl (simp (length-append, source, token, root)) ∙ e)
        ∙ le_written w v h

-- ---- the fields of a slot

module _ (o : Order) (f : Fits o) where
  abbrev rest : List ℕ
  rest = le_bytes 8 o.price ++ le_bytes 2 o.elder ++ figures_bytes o.figures ++ replicate 5 0

  slot_opens : slot_bytes o ≡ opening o.key o.side o.series rest
  slot_opens = simp append_assoc

  field : (i w v : ℕ) → part rest i w ≡ le_bytes w v → v < 256 ^ w → le (part (slot_bytes o) (41 + i) w) ≡ v
  field i w v e h =
      ap (λ b. le (part b (41 + i) w)) slot_opens
      ∙ number_said o.key o.side o.series rest f.source.0 f.token.0 f.root.0 i w v e h

  pub slot_says : order_in (slot_bytes o) ≡ o
  slot_says = λ i.
      record {
        key = (ap key_in slot_opens ∙ key_said o.key o.side o.series rest f.source.0 f.token.0 f.root.0) i;
        side = (ap (λ b. get_or b 26 0) slot_opens ∙ side_said o.key o.side o.series rest f.source.0 f.token.0 f.root.0) i;
        series =
            (ap series_in slot_opens
            ∙ series_said o.key o.side o.series rest f.source.0 f.token.0 f.root.0 f.date f.year f.strike)
            i;
        price = field 0 8 o.price refl f.price i;
        elder = field 8 2 o.elder refl f.elder i;
        figures =
            record {
              size = field 10 4 o.figures.size refl f.size i;
              executed = field 14 4 o.figures.executed refl f.executed i;
              broken = field 18 4 o.figures.broken refl f.broken i;
              cancelled = field 22 4 o.figures.cancelled refl f.cancelled i;
              passed = field 26 4 o.figures.passed refl f.passed i;
              «open» = field 30 4 o.figures.«open» refl f.left i;
            };
      }
