-- `loading::is_day` meets its contract.
use mathlib.Core.Path.{sym, refl}
use Rattle.loading.proofs.Whole.{front_inside, orders_few, rows_few, no_orders, orders_to, orders_inside, no_rows, all_read}
use Rattle.loading.proofs.is_day.Goals as goal

pub end_of_orders-requires : goal.end_of_orders-requires
end_of_orders-requires c =
    let f = c.in-Some.ensures.some c.in-Some.front refl in
    record { at_in_bounds = front_inside f; n_bound = orders_few f }

pub returns-in_default-end_of_orders : goal.returns-in_default-end_of_orders
returns-in_default-end_of_orders c =
    let f = c.in-Some.ensures.some c.in-Some.front refl in
    sym (no_orders f (sym c.in_default-end_of_orders.ensures))

pub end_of_rows-requires : goal.end_of_rows-requires
end_of_rows-requires c =
    let f = c.in-Some.ensures.some c.in-Some.front refl in
    record { at_in_bounds = orders_inside f (orders_to f _ (sym c.in-Some-end_of_orders.ensures)); n_bound = rows_few f }

pub returns-in_default-end_of_rows : goal.returns-in_default-end_of_rows
returns-in_default-end_of_rows c =
    let f = c.in-Some.ensures.some c.in-Some.front refl in
    sym (no_rows f (orders_to f _ (sym c.in-Some-end_of_orders.ensures)) (sym c.in_default-end_of_rows.ensures))

pub returns : goal.returns
returns c =
    let f = c.in-Some.ensures.some c.in-Some.front refl in
    all_read f (orders_to f _ (sym c.in-Some-end_of_orders.ensures)) _ (sym c.in-Some-end_of_rows.ensures)
