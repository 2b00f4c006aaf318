-- 01, Damaged, of one order by itself. What a stored field may be is decided by the rules of the line.
use Rattle.std.specs.Prelude.{◌+◌, Bool, ◌&&◌, leb, eqb}
use Rattle.message.specs.Rule.{num, run}
use Rattle.message.specs.Values.{one}
use Rattle.layout.specs.Layout.{keeps_rule}
use Rattle.layout.specs.Strikes.{lawful_strike}
use Rattle.order.specs.declared.Figures.{Figures}
use Rattle.order.specs.declared.Key.{Key}
use Rattle.order.specs.declared.Order.{Order}
use Rattle.order.specs.declared.Series.{Series}

-- fields 10 and 11
abbrev pub lawful_key : Key → Bool
lawful_key k = keeps_rule 10 (run k.source) && keeps_rule 11 (run k.token)

-- fields 16 to 21
abbrev pub lawful_series : Series → Bool
lawful_series s =
    keeps_rule 16 (run s.root) && keeps_rule 17 (one s.month)
    && keeps_rule 18 (num s.date)
    && keeps_rule 19 (num s.year)
    && keeps_rule 20 (one s.denominator)
    && lawful_strike s.denominator s.strike

-- a size outside 1 to 999,999; broken above executed; size unequal to executed + cancelled + passed on + open
abbrev pub sound_figures : Figures → Bool
sound_figures f =
    leb 1 f.size && leb f.size 999999 && leb f.broken f.executed
    && eqb f.size (f.executed + f.cancelled + f.passed + f.«open»)

-- fields 14 and 22 too
abbrev pub sound_order : Order → Bool
sound_order o =
    lawful_key o.key && keeps_rule 14 (one o.side) && lawful_series o.series && keeps_rule 22 (num o.price)
    && sound_figures o.figures
