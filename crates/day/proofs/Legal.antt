-- Legal histories: no key is made twice, and whoever a line speaks of was made before.
use mathlib.Core.Path.{◌≡◌, refl, sym, subst, ◌∙◌}
use mathlib.Core.Logic.{◌⊎◌, inl, inr}
use mathlib.Core.Bool.{Bool, true, false, ◌&&◌, false≢true, and-false, and-true, or-true}
use mathlib.Core.List.Memᴰ
use mathlib.Core.List.{[], ◌∷◌, Memᴰ}
use Rattle.layout.specs.Line.{end_of_day, line}
use Rattle.layout.specs.declared.Event.{Event}
use Rattle.layout.specs.declared.Record.{Record}
use Rattle.order.specs.Names.{key_of, elder_key_of, same_key}
use Rattle.order.specs.declared.Key.{Key}
use Rattle.quote.specs.Quotes.{quote_of}
use Rattle.day.specs.History.{History, is_new, is_execution, is_replace, is_maker, made_by, replaces, sum_of, passed_of, lines_that_make, known}
use Rattle.day.specs.Quotes.{belongs, has_row}
use Rattle.day.specs.Refusals.{subject}
use Rattle.run.proofs.Tests.{neither}
use Rattle.order.proofs.Sameness.{key_eq, key_comm, key_self}
use Rattle.day.proofs.Letters.{replace_old, replace_unfilled}

-- a line that may follow a history, as far as keys and quotes go
pub record Follows (h : History) (r : Record) : Type 0 where
  pub fresh : is_maker r.event ≡ true → known (key_of r) h ≡ false
  pub named : is_new r.event ≡ false → belongs h r ≡ false → known (subject r) h ≡ true
  -- 02, 1: "C must find it"
  pub rowed : belongs h r ≡ true → is_execution r.event ≡ false → has_row (quote_of r) h ≡ true

abbrev pub Legal : History → Type 0
Legal [] = Unit {0}
Legal (end_of_day ∷ h) = Legal h
Legal (line r ∷ h) = Follows h r × Legal h

-- ---- whom a line that follows speaks of

pub elder_known : (h : History) (r : Record) → Follows h r → is_replace r.event ≡ true → known (elder_key_of r) h ≡ true
elder_known h r f q = rw q at (f.named (replace_old r.event q) (rw (replace_unfilled r.event q)))

-- ---- keys that are known against those that are not

-- a known key and an unknown one differ
pub apart : (h : History) (a b : Key) → known a h ≡ true → known b h ≡ false → (same_key a b ≡ false) × (same_key b a ≡ false)
apart h a b p q = (go (same_key a b) refl, key_comm b a ∙ go (same_key a b) refl)
  where
    go : (t : Bool) → same_key a b ≡ t → same_key a b ≡ false
    go true s = absurd (false≢true (sym q ∙ subst (λ (k : Key). known k h ≡ true) (key_eq a b s) p))
    go false s = s

pub fresh_unknown : (h : History) (r : Record) (k : Key) → Follows h r → is_maker r.event ≡ true → same_key (key_of r) k ≡ true → known k h ≡ false
fresh_unknown h r k f q s = subst (λ (x : Key). known x h ≡ false) (key_eq (key_of r) k s) (f.fresh q)

not_both : (a b : Bool) → (a ≡ true → b ≡ false) → (a && b) ≡ false
not_both true b f = f refl
not_both false b f = refl

-- a line that follows replaces nobody with an unknown key
pub unreplaced : (h : History) (r : Record) (k : Key) → Follows h r → known k h ≡ false → replaces k r ≡ false
unreplaced h r k f n = not_both (is_replace r.event) (same_key (elder_key_of r) k) (λ q. (apart h (elder_key_of r) k (elder_known h r f q) n).0)

-- a line that names a known key is about its order
pub named_known : (h : History) (r : Record) (k : Key) → known k h ≡ true → (same_key (key_of r) k && known k h) ≡ same_key (key_of r) k
named_known h r k e = rw e (and-true (same_key (key_of r) k))

-- the figures of an unknown key are 0
pub unknown_sum : (kind : Event → Bool) (k : Key) (h : History) → known k h ≡ false → sum_of kind k h ≡ 0
unknown_sum kind k [] n = refl
unknown_sum kind k (end_of_day ∷ h) n = unknown_sum kind k h n
unknown_sum kind k (line r ∷ h) n =
    let before = (neither (made_by k r) (known k h) n).1 in
    rw before (simp and-false (unknown_sum kind k h before))

pub unknown_passed : (k : Key) (h : History) → Legal h → known k h ≡ false → passed_of k h ≡ 0
unknown_passed k [] l n = refl
unknown_passed k (end_of_day ∷ h) l n = unknown_passed k h l n
unknown_passed k (line r ∷ h) l n =
    let before = (neither (made_by k r) (known k h) n).1 in
    rw (unreplaced h r k l.0 before) (unknown_passed k h l.1 before)

-- ---- the lines that made an order

-- its key is known, and for U the elder's
abbrev pub Made : History → Record → Type 0
Made h m = (known (key_of m) h ≡ true) × (is_replace m.event ≡ true → known (elder_key_of m) h ≡ true)

pub made : (h : History) (m : Record) → Legal h → Memᴰ m (lines_that_make h) → Made h m
made [] m l i = absurd (Memᴰ.not-nil i)
made (end_of_day ∷ h) m l i = made h m l i
made (line r ∷ h) m l i = go (is_maker r.event) refl (made h m l.1)
  where
    still : (k : Key) → known k h ≡ true → known k (line r ∷ h) ≡ true
    still k e = rw e (or-true (made_by k r))

    older : Made h m → Made (line r ∷ h) m
    older x = (still (key_of m) x.0, λ q. still (elder_key_of m) (x.1 q))

    newest : is_maker r.event ≡ true → Made (line r ∷ h) r
    newest q = (rw (q, key_self (key_of r)), λ e. still (elder_key_of r) (elder_known h r l.0 e))

    either : is_maker r.event ≡ true → (Memᴰ m (lines_that_make h) → Made h m) → Memᴰ m (lines_that_make h) ⊎ Memᴰ m (r ∷ []) → Made (line r ∷ h) m
    either q ih (inl j) = older (ih j)
    either q ih (inr j) = subst (Made (line r ∷ h)) (sym (Memᴰ.eq_of_singleton j)) (newest q)

    go : (t : Bool) → is_maker r.event ≡ t → (Memᴰ m (lines_that_make h) → Made h m) → Made (line r ∷ h) m
    go true q ih = either q ih (Memᴰ.append_cases (lines_that_make h) (rw q at i))
    go false q ih = older (ih (rw q at i))
