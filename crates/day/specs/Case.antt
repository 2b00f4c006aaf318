-- 01, Whole case: its eight pieces, and what comes of them; and a case of quote rows (02, 1). proofs/Case.antt proves both of our booking.
use Rattle.std.specs.Prelude.{ℕ, ◌+◌, ◌≡◌, List, [], ◌∷◌, ◌++◌, map, replicate}
use Rattle.refusal.specs.Answer.{refused}
use Rattle.layout.specs.Examples.{spaces}
use Rattle.layout.specs.Line.{end_of_day, line, crlf, line_of}
use Rattle.layout.specs.declared.Event.{Event}
use Rattle.layout.specs.declared.Event.TheVariants.{Accepted, Executed, Cancelled, Broken, Replaced}
use Rattle.layout.specs.declared.Record.{Record}
use Rattle.layout.specs.declared.Trade.{Trade}
use Rattle.order.specs.declared.Figures.{Figures}
use Rattle.quote.specs.Quotes.{quote_of}
use Rattle.quote.specs.declared.QuoteRow.{QuoteRow}
use Rattle.day.specs.Demand3.{table_after, answer_to, history_after}
use Rattle.day.specs.History.{figures_of}
use Rattle.day.specs.Listing.{Row, Sheet}
use Rattle.day.specs.Quotes.{quote_rows_of}
use Rattle.day.specs.Tables.{Table, Booked}

-- a line: five of its fields vary, "all else lawful"
abbrev pub sample : Event → (source token replaced : List ℕ) → ℕ → Record
sample event source token replaced n =
    record {
      timestamp = 34293104;
      event = event;
      -- 175C, F, O, BSI, 00009, 00003
      firm = 49 ∷ 55 ∷ 53 ∷ 67 ∷ [];
      capacity = 70;
      position = 79;
      account = 66 ∷ 83 ∷ 73 ∷ 32 ∷ [];
      member = 48 ∷ 48 ∷ 48 ∷ 48 ∷ 57 ∷ [];
      clearing = 48 ∷ 48 ∷ 48 ∷ 48 ∷ 51 ∷ [];
      source = source;
      token = token;
      replaced = replaced;
      -- 000836AFF, B
      reference = 48 ∷ 48 ∷ 48 ∷ 56 ∷ 51 ∷ 54 ∷ 65 ∷ 70 ∷ 70 ∷ [];
      side = 66;
      contracts = n;
      -- MSFT, G, 27, 09, C, 205750, five cents
      root = 77 ∷ 83 ∷ 70 ∷ 84 ∷ 32 ∷ 32 ∷ [];
      month = 71;
      date = 27;
      year = 9;
      denominator = 67;
      strike = 205750;
      price = 500;
    }

-- ABCD0 and a digit
abbrev pub host : ℕ → List ℕ
host d = 65 ∷ 66 ∷ 67 ∷ 68 ∷ 48 ∷ (48 + d) ∷ []

-- T and a digit
abbrev pub token : ℕ → List ℕ
token d = 84 ∷ (48 + d) ∷ spaces 18

-- liquidity A, match and cross id
abbrev pub fill : Trade
fill = record { liquidity = 65; match_id = 122853; cross_id = 122001 }

-- a line of ABCD01 that names T and a digit
abbrev pub naming : Event → ℕ → ℕ → Record
naming event d n = sample event (host 1) (token d) (spaces 20) n

-- U, with the elder's digit second
abbrev pub replacing : ℕ → ℕ → ℕ → Record
replacing d elder n = sample Replaced (host 1) (token d) (token elder) n

-- "A T1 100; E T1 30; U T2 for T1, 60; A T9 5; X T2 10; C T1 30": the latest first
abbrev pub six_lines : List Record
six_lines =
    naming (Broken fill) 1 30
    ∷ naming Cancelled 2 10
    ∷ naming Accepted 9 5
    ∷ replacing 2 1 60
    ∷ naming (Executed fill) 1 30
    ∷ naming Accepted 1 100
    ∷ []

-- "U T1 for T2, 50"
abbrev pub seventh : Record
seventh = replacing 1 2 50

abbrev pub whole_case : List (List ℕ)
whole_case = crlf ∷ line_of seventh ∷ map line_of six_lines

-- a row of an order of ABCD01 that T and a digit names
abbrev pub showing : (family rank at size executed broken cancelled passed left d : ℕ) → Row
showing f k i s e b c p l d =
    record {
      member = record { family = f; rank = k; at = i };
      figures = record { size = s; executed = e; broken = b; cancelled = c; passed = p; «open» = l };
      key = record { source = host 1; token = token d };
    }

pub record WholeCase (book : Table → List ℕ → Booked) (sheet : Table → Sheet) : Type 0 where
  -- "line 7 refused 7"
  pub line_7 : answer_to book (map line_of six_lines) (line_of seventh) ≡ refused 7 0
  -- and no other
  pub others : history_after book whole_case ≡ end_of_day ∷ map line six_lines
  -- "orders 3 families 2", then 1.1, 1.2 and 2.1
  pub shows : sheet (table_after book whole_case)
      ≡ record {
        orders = 3;
        families = 2;
        -- "100 30 30 0 70 0 ABCD01 T1", "60 0 0 10 0 50 ABCD01 T2", "5 0 0 0 0 5 ABCD01 T9"
        rows = showing 1 1 0 100 30 30 0 70 0 1 ∷ showing 1 2 1 60 0 0 10 0 50 2 ∷ showing 2 1 2 5 0 0 0 0 5 9 ∷ [];
        quotes = [];
      }

-- ---- 02, 1: a case of ours. "Orders are looked up first, so a later A or U with that key takes the lines that follow"

-- sixteen characters 0-F, padded with spaces
abbrev pub id : List ℕ
id = replicate 16 70 ++ spaces 4

-- a line of ABCD0 and a digit whose token is the id
abbrev pub quoting : Event → ℕ → ℕ → Record
quoting event d n = sample event (host d) id (spaces 20) n

-- E 30; E 5 of ABCD02; C 10; A 100; E 20: the latest first
abbrev pub five_lines : List Record
five_lines =
    quoting (Executed fill) 1 20
    ∷ quoting Accepted 1 100
    ∷ quoting (Broken fill) 1 10
    ∷ quoting (Executed fill) 2 5
    ∷ quoting (Executed fill) 1 30
    ∷ []

-- an order of 100 with 20 executed
abbrev pub later : Figures
later = record { size = 100; executed = 20; broken = 0; cancelled = 0; passed = 0; «open» = 80 }

-- the row of a host's quote
abbrev pub filled : (d executed broken : ℕ) → QuoteRow
filled d e b = record { quote = quote_of (quoting Accepted d 100); executed = e; broken = b }

pub record QuoteCase (book : Table → List ℕ → Booked) (sheet : Table → Sheet) : Type 0 where
  -- none is refused
  pub all : history_after book (map line_of five_lines) ≡ map line five_lines
  -- the order has the last E alone
  pub figures : figures_of (record { source = host 1; token = id }) (map line five_lines) ≡ later
  -- one row for each Source, by first E, with sums from its own lines
  pub rows : quote_rows_of (map line five_lines) ≡ filled 1 30 10 ∷ filled 2 5 0 ∷ []
  pub shows : sheet (table_after book (map line_of five_lines))
      ≡ record {
        orders = 1;
        families = 1;
        rows =
            record { member = record { family = 1; rank = 1; at = 0 }; figures = later; key = record { source = host 1; token = id } } ∷ [];
        quotes = filled 1 30 10 ∷ filled 2 5 0 ∷ [];
      }
