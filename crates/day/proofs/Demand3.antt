-- The tender's demand 3 of our booking and our sheet: the record of specs/Demand3.antt, at every limit.
use Prim.Native.Nat.{ℕ}
use mathlib.Core.Path.{◌≡◌, sym, ap, subst, ◌∙◌}
use mathlib.Core.Bool.{cond}
use mathlib.Core.List.{List}
use native.Mathlib.Omega.{arith}
use lib.ListN.{length}
use Rattle.order.specs.declared.Order.{Order}
use Rattle.quote.specs.declared.Quote.{Quote}
use Rattle.day.specs.Damage.{elders_of}
use Rattle.day.specs.Demand3.{Demand3, IsSheet, Tells, table_after, history_after}
use Rattle.day.specs.History.{History, orders_of}
use Rattle.day.specs.Listing.{Member, Each, members_of, shown_quote}
use Rattle.day.specs.Machine.{book}
use Rattle.day.specs.Quotes.{has_row}
use Rattle.day.specs.Tables.{Table}
use Rattle.day.specs.Walk.{root_count, families, rows_for, sheet_of}
use Rattle.day.proofs.Booking.{same_table, all_again}
use Rattle.day.proofs.Counts.{counts, roots}
use Rattle.day.proofs.Descent.{descent}
use Rattle.day.proofs.Listings.{listed}
use Rattle.day.proofs.Orders.{length_elders}
use Rattle.day.proofs.Quotes.{shown_made}
use Rattle.day.proofs.Reached.{orders_told, quotes_told, mark, answers, story}
use Rattle.day.proofs.Rows.{members_kept, rows_told, rows_add_up, one_sheet}
use Rattle.day.proofs.Shown.{families_inside, each_once, no_other}
use Rattle.day.proofs.Sound.{sound}
use Rattle.day.proofs.Undamaged.{Undamaged, apart}

module _ (limit : ℕ) (ps : List (List ℕ)) where
  abbrev table : Table
  table = table_after (book limit) ps

  abbrev orders : List Order
  orders = table.orders

  abbrev history : History
  history = history_after (book limit) ps

  abbrev listing : List Member
  listing = families 1 0 (elders_of orders)

  undamaged : Undamaged limit orders
  undamaged = apart limit table (sound limit ps)

  -- the table has as many elders as the accepted lines have orders
  as_many : length (elders_of orders) ≡ length (orders_of history)
  as_many = length_elders orders ∙ ap length (orders_told limit ps)

  -- the rows stand as the listing does
  members : members_of (rows_for orders listing) ≡ listing
  members = members_kept orders listing (families_inside (length orders) 1 0 (elders_of orders) (omega (arith, length_elders orders)))

  sheet_so : IsSheet history (sheet_of table)
  sheet_so =
      record {
        orders = ap length (orders_told limit ps) ∙ counts history;
        families = ap (λ (os : List Order). root_count (elders_of os)) (orders_told limit ps) ∙ roots limit ps;
        listed = rw members (rw (← orders_told limit ps) (listed (elders_of orders) undamaged.early));
        told = subst (λ (os : List Order). Each (Tells history) (rows_for os listing)) (sym (orders_told limit ps)) (rows_told history listing);
        quotes = quotes_told limit ps;
      }

  -- each quote's row stands once if an accepted E made it
  once : (q : Quote) → shown_quote q (sheet_of table).quotes ≡ cond (has_row q history) 1 0
  once q = ap (shown_quote q) (quotes_told limit ps) ∙ shown_made q history history

pub demand3 : (limit : ℕ) → Demand3 limit (book limit) sheet_of
demand3 limit =
    record {
      answers = answers limit;
      each_once =
          λ ps i h.
          let u = undamaged limit ps in
          rw (members limit ps) (each_once (elders_of (orders limit ps)) u.early u.alone i (omega (arith, as_many limit ps)));
      no_other = λ ps i h. rw (members limit ps) (no_other (elders_of (orders limit ps)) i (omega (arith, as_many limit ps)));
      quote_once = λ ps q e. rw e at (once limit ps q);
      no_other_quote = λ ps q e. rw e at (once limit ps q);
      sheet_so = sheet_so limit;
      only_so =
          λ ps s x.
          one_sheet (history limit ps) (rw (orders_told limit ps) at (undamaged limit ps).alone) s (sheet_of (table limit ps)) x (sheet_so limit ps);
      adds_up = λ ps. rows_add_up limit (table limit ps) (sound limit ps) (listing limit ps);
      orders = orders_told limit;
      quotes = quotes_told limit;
      mark = mark limit;
      sound = sound limit;
      descent = descent limit;
      same_table = same_table limit;
      all_again = all_again limit;
      story = story limit;
    }
