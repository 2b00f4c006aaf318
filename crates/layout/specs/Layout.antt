-- 01, The line: the table of the 24 fields.
use Rattle.std.specs.Prelude.{ℕ, Bool, cond, ◌||◌, List, [], ◌∷◌, eqb}
use Rattle.message.specs.Fields.{Field, field, field_no}
use Rattle.message.specs.Rule.{Rule, number, digits, price, code, verbatim, text, text_or_blank, blank, digits_or_blank, hex, Value, lawful}

-- A E X C U R
abbrev pub types : List ℕ
types = 65 ∷ 69 ∷ 88 ∷ 67 ∷ 85 ∷ 82 ∷ []

-- C F M P B O J N
abbrev pub capacities : List ℕ
capacities = 67 ∷ 70 ∷ 77 ∷ 80 ∷ 66 ∷ 79 ∷ 74 ∷ 78 ∷ []

-- O C
abbrev pub positions : List ℕ
positions = 79 ∷ 67 ∷ []

-- A R O a r J
abbrev pub liquidities : List ℕ
liquidities = 65 ∷ 82 ∷ 79 ∷ 97 ∷ 114 ∷ 74 ∷ []

-- B S
abbrev pub sides : List ℕ
sides = 66 ∷ 83 ∷ []

-- A to X
abbrev pub months : List ℕ
months = 65 ∷ 66 ∷ 67 ∷ 68 ∷ 69 ∷ 70 ∷ 71 ∷ 72 ∷ 73 ∷ 74 ∷ 75 ∷ 76 ∷ 77 ∷ 78 ∷ 79 ∷ 80 ∷ 81 ∷ 82 ∷ 83 ∷ 84 ∷ 85 ∷ 86 ∷ 87 ∷ 88 ∷ []

-- A to E
abbrev pub denominators : List ℕ
denominators = 65 ∷ 66 ∷ 67 ∷ 68 ∷ 69 ∷ []

-- Liquidity, Match Id and Cross Id stand on E and C
abbrev pub is_trade : ℕ → Bool
is_trade t = eqb t 69 || eqb t 67

abbrev pub on_trade : ℕ → Rule → Rule → Rule
on_trade t a b = cond (is_trade t) a b

-- Replaced Token stands on U
abbrev pub is_replace : ℕ → Bool
is_replace t = eqb t 85

abbrev pub on_replace : ℕ → Rule → Rule → Rule
on_replace t a b = cond (is_replace t) a b

-- 01, The line, Strike: under A to D the first digit isn't 0; under E the digits aren't 000000
abbrev pub least_strike : ℕ → ℕ
least_strike d = cond (eqb d 69) 1 100000

abbrev pub strike_under : ℕ → Rule
strike_under d = digits (least_strike d) 999999

abbrev pub timestamp : Rule
timestamp = number 0 86399999

-- of a match or a cross
abbrev pub id_number : Rule
id_number = number 0 999999999

abbrev pub trade_id : ℕ → Rule
trade_id t = on_trade t id_number (verbatim blank)

-- 01, The line: the table, for a type t and a denominator d
abbrev pub layout : ℕ → ℕ → List Field
layout t d =
    field 1 "Timestamp" 0 8 timestamp
    ∷ field 2 "Type" 8 1 (code types)
    ∷ field 3 "Firm" 9 4 (verbatim text)
    ∷ field 4 "Capacity" 13 1 (code capacities)
    ∷ field 5 "Open/Close" 14 1 (code positions)
    ∷ field 6 "Liquidity" 15 1 (on_trade t (code liquidities) (verbatim blank))
    ∷ field 7 "Clearing Account" 16 4 (verbatim text_or_blank)
    ∷ field 8 "Clearing Member" 20 5 (verbatim digits_or_blank)
    ∷ field 9 "Clearing Firm" 25 5 (verbatim digits_or_blank)
    ∷ field 10 "Source" 30 6 (verbatim text)
    ∷ field 11 "Token" 36 20 (verbatim text)
    ∷ field 12 "Replaced Token" 56 20 (on_replace t (verbatim text) (verbatim blank))
    ∷ field 13 "Reference" 76 9 (verbatim hex)
    ∷ field 14 "Side" 85 1 (code sides)
    ∷ field 15 "Contracts" 86 6 (number 1 999999)
    ∷ field 16 "Root" 92 6 (verbatim text)
    ∷ field 17 "Month" 98 1 (code months)
    ∷ field 18 "Date" 99 2 (digits 1 31)
    ∷ field 19 "Year" 101 2 (digits 0 99)
    ∷ field 20 "Denominator" 103 1 (code denominators)
    ∷ field 21 "Strike" 104 6 (strike_under d)
    ∷ field 22 "Price" 110 10 price
    ∷ field 23 "Match Id" 120 9 (trade_id t)
    ∷ field 24 "Cross Id" 129 9 (trade_id t)
    ∷ []

-- a value keeps the rule of its field. Of a field whose rule goes by no other one: any type and any denominator will do
abbrev pub keeps_rule : ℕ → Value → Bool
keeps_rule n v = lawful (field_no n (layout 65 65)).rule (field_no n (layout 65 65)).len v
