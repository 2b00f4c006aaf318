-- 01, The sheet: a row, and which listing is lawful: down a family to its youngest order, then over to the next family.
use Rattle.std.specs.Prelude.{ℕ, ◌+◌, ◌≤◌, ◌<◌, ◌≡◌, List, [], ◌∷◌, map, ◌⊎◌, eqb, length, get_or}
use Rattle.order.specs.declared.Figures.{Figures}
use Rattle.order.specs.declared.Key.{Key}
use Rattle.quote.specs.Quotes.{same_quote}
use Rattle.quote.specs.declared.Quote.{Quote}
use Rattle.quote.specs.declared.QuoteRow.{QuoteRow}
use Rattle.day.specs.History.{add_if}

-- a member of a family: the family and its place in it, both counted from 1, and where the order stands in order of acceptance, counted from 0
pub record Member : Type 0 where
  pub family : ℕ
  pub rank : ℕ
  pub at : ℕ

-- all that is printed of it: family and place, the six figures, Source and token
pub record Row : Type 0 where
  pub member : Member
  pub figures : Figures
  pub key : Key

-- `orders N families F`, then the rows, and below the families the quote rows (02, 1)
pub record Sheet : Type 0 where
  pub orders : ℕ
  pub families : ℕ
  pub rows : List Row
  pub quotes : List QuoteRow

abbrev pub members_of : List Row → List Member
members_of rows = map (λ (q : Row). q.member) rows

-- P holds of each row
abbrev pub Each : (Row → Type 0) → List Row → Type 0
Each P [] = Unit {0}
Each P (q ∷ rows) = P q × Each P rows

-- 02, 1: how many rows of these are a quote's
abbrev pub shown_quote : Quote → List QuoteRow → ℕ
shown_quote q [] = 0
shown_quote q (w ∷ ws) = add_if (same_quote w.quote q) 1 (shown_quote q ws)

-- ---- which order stands behind which. Elders are numbers from 1, and 0 is none

abbrev pub elder_at : List ℕ → ℕ → ℕ
elder_at es i = get_or es i 0

-- nobody replaced the order at i
abbrev pub Youngest : List ℕ → ℕ → Type 0
Youngest es i = (j : ℕ) → j < length es → elder_at es j ≡ i + 1 → ⊥

-- i is the first order from place b on that has no elder
pub record NextRoot (es : List ℕ) (b i : ℕ) : Type 0 where
  pub inside : i < length es
  pub from : b ≤ i
  pub rootless : elder_at es i ≡ 0
  pub first : (j : ℕ) → b ≤ j → j < i → elder_at es j ≡ 0 → ⊥

abbrev pub NoRoot : List ℕ → ℕ → Type 0
NoRoot es b = (j : ℕ) → b ≤ j → j < length es → elder_at es j ≡ 0 → ⊥

-- what may stand behind a member of the family whose first order is at place b - 1
abbrev pub Behind : List ℕ → ℕ → Member → List Member → Type 0
Behind es b r [] = Youngest es r.at × NoRoot es b
Behind es b r (q ∷ members) =
    ((elder_at es q.at ≡ r.at + 1) × (q.at < length es) × (q.family ≡ r.family) × (q.rank ≡ r.rank + 1) × Behind es b q members)
    ⊎ (Youngest es r.at × NextRoot es b q.at × (q.family ≡ r.family + 1) × (q.rank ≡ 1) × Behind es (q.at + 1) q members)

-- families by the place of their first order, each from eldest to youngest
abbrev pub Listed : List ℕ → List Member → Type 0
Listed es [] = NoRoot es 0
Listed es (q ∷ members) = NextRoot es 0 q.at × (q.family ≡ 1) × (q.rank ≡ 1) × Behind es (q.at + 1) q members

-- in how many rows the order at i stands
abbrev pub shown : ℕ → List Member → ℕ
shown i [] = 0
shown i (q ∷ members) = add_if (eqb q.at i) 1 (shown i members)
