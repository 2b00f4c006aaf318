-- Writing one field behind another: the runs of bytes that are stored make up the line.
use Prim.Native.Nat.{ℕ, suc, ◌+◌, ◌<◌}
use mathlib.Core.Path.{◌≡◌, refl, ◌∙◌}
use mathlib.Core.List.{List, ◌++◌, append_assoc}
use lib.ListN.{length, drop}
use lib.Seq.{sets, drop-cons}
use Rattle.message.specs.Fields.{no_field, write_fields}
use Rattle.message.specs.Rule.{num, writes}
use Rattle.layout.specs.Layout.{is_trade, trade_id}
use Rattle.layout.specs.Line.{crlf, layout_for}
use Rattle.layout.specs.Records.{fields_of, type_of, trade_of, match_of, cross_of}
use Rattle.layout.specs.declared.Event.{Event}
use Rattle.layout.specs.declared.Record.{Record}
use Rattle.run.proofs.Stores.{sets_append}
use Rattle.record.proofs.Events.{by_event}
use Rattle.writing.specs.Writes.{id_text, line_from}
use Rattle.writing.proofs.Fields.{field_for, text_for}

line_next : (k : ℕ) (r : Record) → k < 24 → line_from k r ≡ text_for r k ++ line_from (suc k) r
unfolding line_from
line_next k r h =
    rw (drop-cons (layout_for r) k no_field h, drop-cons (fields_of r) k (num 0) h)
    (append_assoc (text_for r k) (write_fields (drop (suc k) (layout_for r)) (drop (suc k) (fields_of r))) crlf)

-- a field's bytes are stored, and behind them the rest of the line
pub field_then : (k : ℕ) (r : Record) (xs l : List ℕ) {l₁ x : List ℕ} → k < 24 → (xs ≡ text_for r k) × (length xs ≡ (field_for r k).len)
    → l₁ ≡ sets l (field_for r k).at xs → x ≡ sets l₁ ((field_for r k).at + (field_for r k).len) (line_from (suc k) r)
    → x ≡ sets l (field_for r k).at (line_from k r)
field_then k r xs l h e p q = q ∙ rw (p, line_next k r h, ← e.0) (sets_append l (field_for r k).at (field_for r k).len xs (line_from (suc k) r) e.1)

pub ends : (r : Record) (l : List ℕ) {x : List ℕ} → x ≡ sets l 138 crlf → x ≡ sets l 138 (line_from 24 r)
unfolding line_from
ends r l e = e

-- ---- the ids of an event, each by computation

pub match_text : (e : Event) → let xs = id_text (is_trade (type_of e)) (trade_of e).match_id in (xs ≡ writes (trade_id (type_of e)) 9 (match_of e)) × (length xs ≡ 9)
match_text = by_event _ (refl, refl) (λ t. (refl, refl)) (refl, refl) (λ t. (refl, refl)) (refl, refl) (refl, refl)

pub cross_text : (e : Event) → let xs = id_text (is_trade (type_of e)) (trade_of e).cross_id in (xs ≡ writes (trade_id (type_of e)) 9 (cross_of e)) × (length xs ≡ 9)
cross_text = by_event _ (refl, refl) (λ t. (refl, refl)) (refl, refl) (λ t. (refl, refl)) (refl, refl) (refl, refl)
