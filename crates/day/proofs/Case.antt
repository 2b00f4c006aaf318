-- 01, Whole case, and the case of quote rows (02, 1): they compute.
use mathlib.Core.Path.{refl}
use Rattle.layout.specs.Line.{read, line_of}
use Rattle.quote.specs.Quotes.{most_rows, names_quote}
use Rattle.day.specs.Case.{WholeCase, QuoteCase}
use Rattle.day.specs.Machine.{book}
use Rattle.day.specs.Walk.{sheet_of}

pub whole_case : WholeCase (book 512) sheet_of
unfolding read line_of names_quote
whole_case = record { line_7 = refl; others = refl; shows = refl }

pub quote_case : QuoteCase (book 512) sheet_of
unfolding read line_of names_quote most_rows
quote_case = record { all = refl; figures = refl; rows = refl; shows = refl }
