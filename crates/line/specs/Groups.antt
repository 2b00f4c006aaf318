-- What a group of fields says, read by itself, and what all of them say. What the entries promise is in specs/Promises.antt.
use Rattle.std.specs.Prelude.{ℕ, ◌-◌, ◌/◌, ◌%◌, cond, ◌&&◌, eqb, List, [], take, drop, Option, Some, None, Result, Ok, Err}
use Rattle.refusal.specs.declared.Refusal.{Refusal}
use Rattle.refusal.specs.declared.Refusal.TheVariants.{Field}
use Rattle.message.specs.Fields.{Fields, breaks, say, read_fields}
use Rattle.message.specs.Rule.{Value}
use Rattle.message.specs.Values.{num_at}
use Rattle.layout.specs.Line.{layout_of}
use Rattle.layout.specs.Records.{record_of}
use Rattle.layout.specs.Strikes.{unit, lawful_strike}
use Rattle.layout.specs.declared.Numbers.{Numbers}
use Rattle.layout.specs.declared.Strike.{Strike}
use Rattle.line.specs.declared.Said.{Said}
use Rattle.line.specs.declared.Said.TheVariants.{Line}

-- what fields k + 1 to m of a line say
abbrev pub group : ℕ → ℕ → List ℕ → Fields
group k m s = read_fields (take (m - k) (drop k (layout_of s))) [] s

-- nothing, the numbers or the record that fields say, or the refusal for the first of them that breaks its rule
abbrev pub none_by : Fields → Result (Unit {0}) Refusal
none_by (breaks n) = Err (Field n)
none_by (say vs) = Ok tt

abbrev pub numbers_by : (List Value → Numbers) → Fields → Result Numbers Refusal
numbers_by of (breaks n) = Err (Field n)
numbers_by of (say vs) = Ok (of vs)

abbrev pub line_by : Fields → Result Said Refusal
line_by (breaks n) = Err (Field n)
line_by (say vs) = Ok (Line (record_of vs))

-- ---- the numbers of a group's own fields, the others 0

abbrev pub timestamp_of : List Value → Numbers
timestamp_of vs = record { timestamp = num_at vs 0; contracts = 0; date = 0; year = 0; strike = 0; price = 0; match_id = 0; cross_id = 0 }

abbrev pub contracts_of : List Value → Numbers
contracts_of vs = record { timestamp = 0; contracts = num_at vs 2; date = 0; year = 0; strike = 0; price = 0; match_id = 0; cross_id = 0 }

abbrev pub series_of : List Value → Numbers
series_of vs =
    record { timestamp = 0; contracts = 0; date = num_at vs 0; year = num_at vs 1; strike = num_at vs 3; price = num_at vs 4; match_id = 0; cross_id = 0 }

abbrev pub ids_of : List Value → Numbers
ids_of vs = record { timestamp = 0; contracts = 0; date = 0; year = 0; strike = 0; price = 0; match_id = num_at vs 0; cross_id = num_at vs 1 }

-- ---- what the groups say, put together

abbrev pub joined : (event : Result Numbers Refusal) (account : Result (Unit {0}) Refusal) (order price trade : Result Numbers Refusal) → Result Numbers Refusal
joined (Err x) b c d e = Err x
joined (Ok t) (Err x) c d e = Err x
joined (Ok t) (Ok u) (Err x) d e = Err x
joined (Ok t) (Ok u) (Ok v) (Err x) e = Err x
joined (Ok t) (Ok u) (Ok v) (Ok w) (Err x) = Err x
joined (Ok t) (Ok u) (Ok v) (Ok w) (Ok y) =
    Ok
    (record {
      timestamp = t.timestamp;
      contracts = v.contracts;
      date = w.date;
      year = w.year;
      strike = w.strike;
      price = w.price;
      match_id = y.match_id;
      cross_id = y.cross_id;
    })

abbrev pub grouped : List ℕ → Result Numbers Refusal
grouped s =
    joined (numbers_by timestamp_of (group 0 6 s)) (none_by (group 6 12 s)) (numbers_by contracts_of (group 12 17 s))
    (numbers_by series_of (group 17 22 s)) (numbers_by ids_of (group 22 24 s))

-- ---- the form under one code, if it is one

abbrev pub form_of : ℕ → ℕ → Option Strike
form_of d v = cond (eqb (v % unit d) 0 && lawful_strike d (v / unit d)) (Some (record { denominator = d; digits = v / unit d })) None
