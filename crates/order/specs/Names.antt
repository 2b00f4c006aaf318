-- 01, Orders and their figures: keys and series, as a line gives them, and when two are the same.
use Rattle.std.specs.Prelude.{Bool, ◌&&◌, eqb}
use Rattle.run.specs.Runs.{same}
use Rattle.layout.specs.declared.Record.{Record}
use Rattle.order.specs.declared.Key.{Key}
use Rattle.order.specs.declared.Series.{Series}

-- a key is the six Source bytes and the twenty Token bytes
abbrev pub key_of : Record → Key
key_of r = record { source = r.source; token = r.token }

-- U: the same Source and the Replaced Token
abbrev pub elder_key_of : Record → Key
elder_key_of r = record { source = r.source; token = r.replaced }

-- fields 16 to 21
abbrev pub series_of : Record → Series
series_of r =
    record { root = r.root; month = r.month; date = r.date; year = r.year; denominator = r.denominator; strike = r.strike }

abbrev pub same_key : Key → Key → Bool
same_key a b = same a.source b.source && same a.token b.token

abbrev pub same_series : Series → Series → Bool
same_series a b =
    same a.root b.root && eqb a.month b.month && eqb a.date b.date && eqb a.year b.year
    && eqb a.denominator b.denominator
    && eqb a.strike b.strike
