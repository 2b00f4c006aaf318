-- How many rows a table has room for, as a number: nothing else has to open its name.
use mathlib.Core.Path.{◌≡◌, refl}
use Rattle.quote.specs.Quotes.{most_rows}

pub row_number : most_rows ≡ 128
unfolding most_rows
row_number = refl
