-- 01, Both sides of each bound: the twelve examples marked (P), as one statement; whole lines beside their records; and lines with one field broken. proofs/Examples.antt proves them.
use Prim.Native.Char.{code}
use Rattle.std.specs.Prelude.{ℕ, ◌≡◌, List, ◌++◌, replicate}
use Prim.Native.String.{String}
use Prim.Native.String.{◌++◌ as ◌⋅◌}
use Rattle.std.proofs.lemmas.List.Edits.{sets}
use Rattle.refusal.specs.Answer.{value, refused}
use Rattle.layout.specs.Clocks.{clock}
use Rattle.layout.specs.Line.{line, read, line_of}
use Rattle.layout.specs.Strikes.{strike_value, strike_form}
use Rattle.layout.specs.Text.{bytes}
use Rattle.layout.specs.declared.Event.TheVariants.{Executed, Replaced}
use Rattle.layout.specs.declared.Record.{Record}

abbrev pub spaces : ℕ → List ℕ
spaces n = replicate n 32

-- an execution: five of its fields vary, the rest are lawful
abbrev pub sample : (timestamp contracts denominator strike price : String) → List ℕ
sample t n d k p =
    bytes (t ⋅ "E175CFOABSI 0000900003ABCD01T1                                      000836AFFB" ⋅ n ⋅ "MSFT  G2709" ⋅ d ⋅ k ⋅ p ⋅ "   122853   122001\r\n")

-- five fields that will do
abbrev pub timestamp : String
timestamp = "34293104"

abbrev pub contracts : String
contracts = "   100"

abbrev pub denominator : String
denominator = "C"

abbrev pub strike : String
strike = "205750"

-- five cents, as the paper writes it
abbrev pub price : String
price = "     00500"

-- a piece reads as a record whose field is n
abbrev pub Reads : List ℕ → (Record → ℕ) → ℕ → Type 0
Reads s field n = (r : Record) × (read s ≡ value (line r)) × (field r ≡ n)

pub record Bounds : Type 0 where
  -- "Timestamp 34293104 is 09:31:33.104."
  pub time : clock 34293104 ≡ value (record { hours = 9; minutes = 31; seconds = 33; milliseconds = 104 })
  -- "86399999 reads"
  pub last_time : Reads (sample "86399999" contracts denominator strike price) (λ r. r.timestamp) 86399999
  -- "86400000 is 3, field 1."
  pub past_time : read (sample "86400000" contracts denominator strike price) ≡ refused 3 1
  -- "Contracts of five spaces and 1 reads"
  pub one_contract : Reads (sample timestamp "     1" denominator strike price) (λ r. r.contracts) 1
  -- "five spaces and 0 is 3, field 15."
  pub no_contract : read (sample timestamp "     0" denominator strike price) ≡ refused 3 15
  -- "E 550000 is 550,000."
  pub value_E : strike_value 69 550000 ≡ value 550000
  -- "C 205750 is 20,575,000."
  pub value_C : strike_value 67 205750 ≡ value 20575000
  -- "B 002532 is 3, field 21."
  pub leading_zero : read (sample timestamp contracts "B" "002532" price) ≡ refused 3 21
  -- "Value 1,000,000 is D 100000"
  pub form_D : strike_form 1000000 ≡ value (record { denominator = 68; digits = 100000 })
  -- "999,999 is E 999999"
  pub form_E : strike_form 999999 ≡ value (record { denominator = 69; digits = 999999 })
  -- "1,000,005 has no form."
  pub no_form : strike_form 1000005 ≡ refused 3 21
  -- "`  12875000` is the price 1287.5000.", in ten-thousandths
  pub price_reads : Reads (sample timestamp contracts denominator strike "  12875000") (λ r. r.price) 12875000

-- ---- whole lines: of one width no two fields are alike, so that two exchanged ones would show

-- an execution
abbrev pub execution : List ℕ
execution = bytes "34293104E175CMOABSI 0000900003ABCD01T1                                      000836AFFB   100MSFT  G2709C205750     00500   122853   122001\r\n"

abbrev pub executed : Record
executed =
    record {
      timestamp = 34293104;
      event = Executed (record { liquidity = code "A"; match_id = 122853; cross_id = 122001 });
      firm = bytes "175C";
      capacity = code "M";
      position = code "O";
      account = bytes "BSI ";
      member = bytes "00009";
      clearing = bytes "00003";
      source = bytes "ABCD01";
      token = bytes "T1" ++ spaces 18;
      replaced = spaces 20;
      reference = bytes "000836AFF";
      side = code "B";
      contracts = 100;
      root = bytes "MSFT  ";
      month = code "G";
      date = 27;
      year = 9;
      denominator = code "C";
      strike = 205750;
      price = 500;
    }

-- a replacement: neither account nor member
abbrev pub replacement : List ℕ
replacement = bytes "34293105UQX7 FC          00012ABCD02T2                  T1                  00083B001S999999SPXW  X3126E550000 999990001                  \r\n"

abbrev pub replacing : Record
replacing =
    record {
      timestamp = 34293105;
      event = Replaced;
      firm = bytes "QX7 ";
      capacity = code "F";
      position = code "C";
      account = spaces 4;
      member = spaces 5;
      clearing = bytes "00012";
      source = bytes "ABCD02";
      token = bytes "T2" ++ spaces 18;
      replaced = bytes "T1" ++ spaces 18;
      reference = bytes "00083B001";
      side = code "S";
      contracts = 999999;
      root = bytes "SPXW  ";
      month = code "X";
      date = 31;
      year = 26;
      denominator = code "E";
      strike = 550000;
      price = 999990001;
    }

pub record Whole : Type 0 where
  pub execution_reads : read execution ≡ value (line executed)
  pub execution_written : line_of executed ≡ execution
  pub replacement_reads : read replacement ≡ value (line replacing)
  pub replacement_written : line_of replacing ≡ replacement

-- ---- the same execution with one field broken

-- the execution with a text stored at a place of the line
abbrev pub but : ℕ → String → List ℕ
but at t = sets execution at (bytes t)

pub record FieldBroken : Type 0 where
  -- "`00000012` is 3, field 1."
  pub zero_filled : read (but 0 "00000012") ≡ refused 3 1
  -- "five digits or blank": not some of each
  pub half_blank : read (but 20 "   09") ≡ refused 3 8
  -- "on U: text; else blank"
  pub replaced_on_E : read (but 56 "T2") ≡ refused 3 12
  -- "Lowercase in the Reference is 3, field 13."
  pub lowercase : read (but 76 "000836aff") ≡ refused 3 13
  -- "two digits, 01 to 31"
  pub date_0 : read (but 99 "00") ≡ refused 3 18
  pub date_32 : read (but 99 "32") ≡ refused 3 18
  -- "Ten spaces is 3, field 22."
  pub no_price : read (but 110 "          ") ≡ refused 3 22
  -- "on E and C: number"
  pub blank_id : read (but 120 "         ") ≡ refused 3 23
