-- Texts that are written one right behind the other are one text; how long the texts of a row are.
use Prim.Native.Nat.{ℕ, ◌+◌, ◌^◌, ◌<◌}
use native.Mathlib.Omega.{arith}
use mathlib.Core.Path.{◌≡◌, refl, sym, ap, ◌∙◌}
use mathlib.Core.List.{List, [], ◌∷◌, ◌++◌}
use lib.ListN.{length, length-append}
use lib.Seq.{sets}
use Rattle.field.specs.Number.{filled}
use Rattle.order.specs.declared.Figures.{Figures}
use Rattle.order.specs.declared.Order.{Order}
use Rattle.row.specs.Texts.{decimal, trimmed, heading, rank_text, traded_text, figures_text, names_text, order_text, fills_text, line_text}
use Rattle.row.specs.Writes.{Put, Wrote}
use Rattle.run.proofs.Stores.{sets_append}
use Rattle.row.proofs.Decimals.{decimal_filled}

-- ---- puts

pub run_put : {before after : List ℕ} {at : ℕ} (s : List ℕ) → after ≡ sets before at s → Put s at before after (at + length s)
run_put s e = record { end = refl; out = e }

pub number_put : {before after : List ℕ} {at : ℕ} (n w : ℕ) → n < 2 ^ 64 → w ≡ length (decimal n) → after ≡ sets before at (filled 32 w n)
    → Put (decimal n) at before after (at + w)
number_put {before = l} {at = at} n w h k e =
    record {
      end = ap (λ i. at + i) k;
      out = e ∙ rw k (ap (sets l at) (sym (decimal_filled n (omega arith))));
    }

pub then : {before between after : List ℕ} {at m r : ℕ} {xs ys : List ℕ} → Put xs at before between m → Put ys m between after r
    → Put (xs ++ ys) at before after r
then {before = l} {at = at} {xs = xs} {ys = ys} a b =
    record {
      end = omega (arith, length-append xs ys, a.end, b.end);
      out = b.out ∙ rw (a.out, a.end) (sets_append l at (length xs) xs ys refl);
    }

pub from_front : {text before after : List ℕ} {r : ℕ} → Put text 0 before after r → Wrote text before after r
from_front p = record { long = omega (arith, p.end); out = p.out }

-- a space, the Source, a space, the Token without its padding, an LF
pub names_put : (source token l₀ l₁ l₂ l₃ l₄ l₅ : List ℕ) (at n : ℕ) → n ≡ length (trimmed token)
    → l₁ ≡ sets l₀ at (32 ∷ []) → l₂ ≡ sets l₁ (at + 1) source → l₃ ≡ sets l₂ (at + 1 + length source) (32 ∷ [])
    → l₄ ≡ sets l₃ (at + 1 + length source + 1) (trimmed token) → l₅ ≡ sets l₄ (at + 1 + length source + 1 + n) (10 ∷ [])
    → Put (names_text source token) at l₀ l₅ (at + 1 + length source + 2 + n)
names_put source token l₀ l₁ l₂ l₃ l₄ l₅ at n long a b c d e =
    let behind : at + 1 + length source + 1 + n ≡ at + 1 + length source + 1 + length (trimmed token) = omega arith in
    let space : Put (32 ∷ []) at l₀ l₁ (at + 1) = run_put (32 ∷ []) a in
    let first : Put (32 ∷ source) at l₀ l₂ (at + 1 + length source) = then space (run_put source b) in
    let gap : Put (32 ∷ []) (at + 1 + length source) l₂ l₃ (at + 1 + length source + 1) = run_put (32 ∷ []) c in
    let second : Put (32 ∷ trimmed token) (at + 1 + length source) l₂ l₄ (at + 1 + length source + 1 + length (trimmed token)) = then gap (run_put (trimmed token) d) in
    let all = then (then first second) (run_put (10 ∷ []) (rw behind at e)) in
    record { end = omega (arith, all.end); out = all.out }

-- what stands before the Source of a quote, a space, the Source, an LF
pub line_put : (id source l₀ l₁ l₂ l₃ l₄ : List ℕ) (executed broken m : ℕ) → Put (fills_text id executed broken) 0 l₀ l₁ m → l₂ ≡ sets l₁ m (32 ∷ [])
    → l₃ ≡ sets l₂ (m + 1) source → l₄ ≡ sets l₃ (m + 1 + length source) (10 ∷ [])
    → Wrote (line_text id executed broken source) l₀ l₄ (m + 2 + length source)
line_put id source l₀ l₁ l₂ l₃ l₄ executed broken m fills a b c =
    let space : Put (32 ∷ []) m l₁ l₂ (m + 1) = run_put (32 ∷ []) a in
    let last : Put (32 ∷ source) m l₁ l₃ (m + 1 + length source) = then space (run_put source b) in
    let all = then (then fills last) (run_put (10 ∷ []) c) in
    from_front (record { end = omega (arith, all.end); out = all.out })

-- ---- lengths

pub heading_length : (n f : ℕ) → length (heading n f) ≡ 18 + length (decimal n) + length (decimal f)
heading_length n f = simp (length-append {A = ℕ}) (omega arith)

pub rank_length : (family rank : ℕ) → length (rank_text family rank) ≡ length (decimal family) + 1 + length (decimal rank)
rank_length family rank = omega (arith, length-append (decimal family) (46 ∷ decimal rank))

pub traded_length : (f : Figures) → length (traded_text f) ≡ 3 + length (decimal f.size) + length (decimal f.executed) + length (decimal f.broken)
traded_length f = simp (length-append {A = ℕ}) (omega arith)

pub figures_length : (f : Figures) → length (figures_text f) ≡ 3 + length (traded_text f) + length (decimal f.cancelled) + length (decimal f.passed) + length (decimal f.«open»)
figures_length f = behind (traded_text f) (decimal f.cancelled) (decimal f.passed) (decimal f.«open»)
  where
    behind : (s a b c : List ℕ) → length (s ++ (32 ∷ a) ++ (32 ∷ b) ++ (32 ∷ c)) ≡ 3 + length s + length a + length b + length c
    behind s a b c = simp (length-append {A = ℕ}) (omega arith)

pub names_length : (source token : List ℕ) → length (names_text source token) ≡ 3 + length source + length (trimmed token)
names_length source token = simp (length-append {A = ℕ}) (omega arith)

pub row_length : (family rank : ℕ) (o : Order) → length (order_text family rank o) ≡ length (rank_text family rank) + length (figures_text o.figures) + length (names_text o.key.source o.key.token)
row_length family rank o = three (rank_text family rank) (figures_text o.figures) (names_text o.key.source o.key.token)
  where
    three : (a b c : List ℕ) → length (a ++ b ++ c) ≡ length a + length b + length c
    three a b c = simp (length-append {A = ℕ})

pub fills_length : (id : List ℕ) (executed broken : ℕ) → length (fills_text id executed broken) ≡ 8 + length id + length (decimal executed) + length (decimal broken)
fills_length id executed broken = behind id (decimal executed) (decimal broken)
  where
    behind : (s a b : List ℕ) → length ((113 ∷ 117 ∷ 111 ∷ 116 ∷ 101 ∷ 32 ∷ []) ++ s ++ (32 ∷ a) ++ (32 ∷ b)) ≡ 8 + length s + length a + length b
    behind s a b = simp (length-append {A = ℕ}) (omega arith)

pub line_length : (id : List ℕ) (executed broken : ℕ) (source : List ℕ)
    → length (line_text id executed broken source) ≡ 2 + length (fills_text id executed broken) + length source
line_length id executed broken source = behind (fills_text id executed broken) source
  where
    behind : (s a : List ℕ) → length (s ++ (32 ∷ a) ++ (10 ∷ [])) ≡ 2 + length s + length a
    behind s a = simp (length-append {A = ℕ}) (omega arith)
