-- What an event puts into the fields that go by its type.
use mathlib.Core.Path.{◌≡◌, refl}
use mathlib.Core.Bool.{true}
use mathlib.Core.List.{[], ◌∷◌}
use Rattle.run.specs.Runs.{member}
use Rattle.message.specs.Rule.{code, verbatim, blank, writes}
use Rattle.layout.specs.Layout.{types, liquidities, on_trade}
use Rattle.layout.specs.Records.{type_of, trade_of, liquidity_of}
use Rattle.layout.specs.declared.Event.{Event}
use Rattle.layout.specs.declared.Event.TheVariants.{Accepted, Executed, Cancelled, Broken, Replaced, Repriced}
use Rattle.layout.specs.declared.Trade.{Trade}

-- case by case
pub by_event : (P : Event → Type 0) → P Accepted → ((t : Trade) → P (Executed t)) → P Cancelled → ((t : Trade) → P (Broken t)) → P Replaced → P Repriced
    → (e : Event) → P e
by_event P a e x c u r Accepted = a
by_event P a e x c u r (Executed t) = e t
by_event P a e x c u r Cancelled = x
by_event P a e x c u r (Broken t) = c t
by_event P a e x c u r Replaced = u
by_event P a e x c u r Repriced = r

-- ---- each of these by computation

pub type_lawful : (e : Event) → member (type_of e) types ≡ true
type_lawful = by_event _ refl (λ t. refl) refl (λ t. refl) refl refl

pub liquidity_text : (e : Event) → ((trade_of e).liquidity ∷ []) ≡ writes (on_trade (type_of e) (code liquidities) (verbatim blank)) 1 (liquidity_of e)
liquidity_text = by_event _ refl (λ t. refl) refl (λ t. refl) refl refl
