-- The twelve examples of specs/Examples.antt, its whole lines and its broken ones: each computes.
use mathlib.Core.Path.{refl}
use Rattle.layout.specs.Clocks.{clock}
use Rattle.layout.specs.Examples.{Bounds, Whole, FieldBroken}
use Rattle.layout.specs.Line.{read, line_of}
use Rattle.layout.specs.Strikes.{strike_value, strike_form}

pub bounds : Bounds
unfolding clock read strike_value strike_form
bounds =
    record {
      time = refl;
      last_time = (_, refl, refl);
      past_time = refl;
      one_contract = (_, refl, refl);
      no_contract = refl;
      value_E = refl;
      value_C = refl;
      leading_zero = refl;
      form_D = refl;
      form_E = refl;
      no_form = refl;
      price_reads = (_, refl, refl);
    }

pub whole : Whole
unfolding read line_of
whole = record { execution_reads = refl; execution_written = refl; replacement_reads = refl; replacement_written = refl }

pub field_broken : FieldBroken
unfolding read
field_broken =
    record {
      zero_filled = refl;
      half_blank = refl;
      replaced_on_E = refl;
      lowercase = refl;
      date_0 = refl;
      date_32 = refl;
      no_price = refl;
      blank_id = refl;
    }
