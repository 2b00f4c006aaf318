-- docs/LAYOUT.md, The lent table: an order in the 80 bytes of its slot.
use Rattle.std.specs.Prelude.{ℕ, ◌^◌, ◌<◌, ◌≡◌, Bool, true, List, [], ◌∷◌, ◌++◌, ltb, length, get_or, replicate}
use Rattle.run.specs.Runs.{part, all}
use Rattle.cell.specs.Cells.{le, le_bytes}
use Rattle.order.specs.declared.Figures.{Figures}
use Rattle.order.specs.declared.Key.{Key}
use Rattle.order.specs.declared.Order.{Order}
use Rattle.order.specs.declared.Series.{Series}
use Rattle.slot.specs.declared.Asked.{Asked}

-- the bytes of a slot
abbrev pub slot_width : ℕ
slot_width = 80

abbrev pub key_in : List ℕ → Key
key_in b = record { source = part b 0 6; token = part b 6 20 }

abbrev pub series_in : List ℕ → Series
series_in b =
    record {
      root = part b 27 6;
      month = get_or b 33 0;
      date = le (part b 34 1);
      year = le (part b 35 1);
      denominator = get_or b 36 0;
      strike = le (part b 37 4);
    }

abbrev pub figures_in : List ℕ → Figures
figures_in b =
    record {
      size = le (part b 51 4);
      executed = le (part b 55 4);
      broken = le (part b 59 4);
      cancelled = le (part b 63 4);
      passed = le (part b 67 4);
      «open» = le (part b 71 4);
    }

-- the order that a slot's 80 bytes say
abbrev pub order_in : List ℕ → Order
order_in b =
    record {
      key = key_in b;
      side = get_or b 26 0;
      series = series_in b;
      price = le (part b 41 8);
      elder = le (part b 49 2);
      figures = figures_in b;
    }

-- what a line about an order asks of it
abbrev pub asked_of : Order → Asked
asked_of o = record { side = o.side; series = o.series; figures = o.figures }

abbrev pub key_bytes : Key → List ℕ
key_bytes k = k.source ++ k.token

-- root and expiry
abbrev pub expiry_bytes : Series → List ℕ
expiry_bytes s = s.root ++ (s.month ∷ []) ++ le_bytes 1 s.date ++ le_bytes 1 s.year

abbrev pub series_bytes : Series → List ℕ
series_bytes s = expiry_bytes s ++ (s.denominator ∷ []) ++ le_bytes 4 s.strike

-- the first three figures
abbrev pub traded_bytes : Figures → List ℕ
traded_bytes f = le_bytes 4 f.size ++ le_bytes 4 f.executed ++ le_bytes 4 f.broken

abbrev pub figures_bytes : Figures → List ℕ
figures_bytes f = traded_bytes f ++ le_bytes 4 f.cancelled ++ le_bytes 4 f.passed ++ le_bytes 4 f.«open»

-- all but elder and figures
abbrev pub terms_bytes : Order → List ℕ
terms_bytes o = key_bytes o.key ++ (o.side ∷ []) ++ series_bytes o.series ++ le_bytes 8 o.price

-- the 80 bytes of an order; the last five must be 0
abbrev pub slot_bytes : Order → List ℕ
slot_bytes o = terms_bytes o ++ le_bytes 2 o.elder ++ figures_bytes o.figures ++ replicate 5 0

abbrev pub is_byte : ℕ → Bool
is_byte b = ltb b 256

-- a run of w bytes
abbrev pub RunOf : ℕ → List ℕ → Type 0
RunOf w s = (length s ≡ w) × (all is_byte s ≡ true)

-- an order that has room in a slot
pub record Fits (o : Order) : Type 0 where
  pub source : RunOf 6 o.key.source
  pub token : RunOf 20 o.key.token
  pub side : o.side < 256
  pub root : RunOf 6 o.series.root
  pub month : o.series.month < 256
  pub date : o.series.date < 256
  pub year : o.series.year < 256
  pub denominator : o.series.denominator < 256
  pub strike : o.series.strike < 2 ^ 32
  pub price : o.price < 2 ^ 64
  pub elder : o.elder < 2 ^ 16
  pub size : o.figures.size < 2 ^ 32
  pub executed : o.figures.executed < 2 ^ 32
  pub broken : o.figures.broken < 2 ^ 32
  pub cancelled : o.figures.cancelled < 2 ^ 32
  pub passed : o.figures.passed < 2 ^ 32
  pub left : o.figures.«open» < 2 ^ 32
