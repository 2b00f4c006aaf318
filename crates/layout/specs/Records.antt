-- A record as the 24 values of its line, and back.
use Rattle.std.specs.Prelude.{ℕ, cond, List, [], ◌∷◌, eqb, get_or}
use Rattle.run.specs.Runs.{part}
use Rattle.message.specs.Rule.{Value, num, run}
use Rattle.message.specs.Values.{one, missing, num_at, run_at, byte_at}
use Rattle.layout.specs.declared.Event.{Event}
use Rattle.layout.specs.declared.Event.TheVariants.{Accepted, Executed, Cancelled, Broken, Replaced, Repriced}
use Rattle.layout.specs.declared.Numbers.{Numbers}
use Rattle.layout.specs.declared.Record.{Record}
use Rattle.layout.specs.declared.Trade.{Trade}

-- 001, Appendix A: Type
abbrev pub type_of : Event → ℕ
type_of Accepted = 65
type_of (Executed t) = 69
type_of Cancelled = 88
type_of (Broken t) = 67
type_of Replaced = 85
type_of Repriced = 82

-- of one of the six types; any other byte gives R. Such a record is no answer: reading refuses it (field 2), and the door asks only for a field before it
abbrev pub event_of : ℕ → Trade → Event
event_of t trade =
    cond (eqb t 65) Accepted
    (cond (eqb t 69) (Executed trade) (cond (eqb t 88) Cancelled (cond (eqb t 67) (Broken trade) (cond (eqb t 85) Replaced Repriced))))

abbrev pub no_trade : Trade
no_trade = record { liquidity = 32; match_id = 0; cross_id = 0 }

-- what the fields that stand on E and C hold: where an event carries no trade, a blank and ids of 0
abbrev pub trade_of : Event → Trade
trade_of Accepted = no_trade
trade_of (Executed t) = t
trade_of Cancelled = no_trade
trade_of (Broken t) = t
trade_of Replaced = no_trade
trade_of Repriced = no_trade

abbrev pub liquidity_of : Event → Value
liquidity_of Accepted = missing 1
liquidity_of (Executed t) = one t.liquidity
liquidity_of Cancelled = missing 1
liquidity_of (Broken t) = one t.liquidity
liquidity_of Replaced = missing 1
liquidity_of Repriced = missing 1

abbrev pub match_of : Event → Value
match_of Accepted = missing 9
match_of (Executed t) = num t.match_id
match_of Cancelled = missing 9
match_of (Broken t) = num t.match_id
match_of Replaced = missing 9
match_of Repriced = missing 9

abbrev pub cross_of : Event → Value
cross_of Accepted = missing 9
cross_of (Executed t) = num t.cross_id
cross_of Cancelled = missing 9
cross_of (Broken t) = num t.cross_id
cross_of Replaced = missing 9
cross_of Repriced = missing 9

-- 01, The line: a record holds all 24
abbrev pub fields_of : Record → List Value
fields_of r =
    num r.timestamp
    ∷ one (type_of r.event)
    ∷ run r.firm
    ∷ one r.capacity
    ∷ one r.position
    ∷ liquidity_of r.event
    ∷ run r.account
    ∷ run r.member
    ∷ run r.clearing
    ∷ run r.source
    ∷ run r.token
    ∷ run r.replaced
    ∷ run r.reference
    ∷ one r.side
    ∷ num r.contracts
    ∷ run r.root
    ∷ one r.month
    ∷ num r.date
    ∷ num r.year
    ∷ one r.denominator
    ∷ num r.strike
    ∷ num r.price
    ∷ match_of r.event
    ∷ cross_of r.event
    ∷ []

-- the record that says the values of fields 1 to 24, which stand at 0 to 23
abbrev pub record_of : List Value → Record
record_of vs =
    record {
      timestamp = num_at vs 0;
      event = event_of (byte_at vs 1) (record { liquidity = byte_at vs 5; match_id = num_at vs 22; cross_id = num_at vs 23 });
      firm = run_at vs 2;
      capacity = byte_at vs 3;
      position = byte_at vs 4;
      account = run_at vs 6;
      member = run_at vs 7;
      clearing = run_at vs 8;
      source = run_at vs 9;
      token = run_at vs 10;
      replaced = run_at vs 11;
      reference = run_at vs 12;
      side = byte_at vs 13;
      contracts = num_at vs 14;
      root = run_at vs 15;
      month = byte_at vs 16;
      date = num_at vs 17;
      year = num_at vs 18;
      denominator = byte_at vs 19;
      strike = num_at vs 20;
      price = num_at vs 21;
    }

abbrev pub event_from : Numbers → List ℕ → Event
event_from n s = event_of (get_or s 8 0) (record { liquidity = get_or s 15 0; match_id = n.match_id; cross_id = n.cross_id })

-- the record that bytes say at the places of the layout, its numbers read apart: of a line, or of the bytes that a host gives
abbrev pub record_from : Numbers → List ℕ → Record
record_from n s =
    record {
      timestamp = n.timestamp;
      event = event_from n s;
      firm = part s 9 4;
      capacity = get_or s 13 0;
      position = get_or s 14 0;
      account = part s 16 4;
      member = part s 20 5;
      clearing = part s 25 5;
      source = part s 30 6;
      token = part s 36 20;
      replaced = part s 56 20;
      reference = part s 76 9;
      side = get_or s 85 0;
      contracts = n.contracts;
      root = part s 92 6;
      month = get_or s 98 0;
      date = n.date;
      year = n.year;
      denominator = get_or s 103 0;
      strike = n.strike;
      price = n.price;
    }
