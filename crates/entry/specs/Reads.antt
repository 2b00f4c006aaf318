-- What reading an order or a quote row answers, by what stands at a place (crate saved).
use Rattle.std.specs.Prelude.{ℕ, ◌+◌, ◌-◌, Bool, cond, ◌&&◌, Option, Some, None, List, ◌++◌, leb, replicate}
use Rattle.run.specs.Runs.{part}
use Rattle.order.specs.declared.Key.{Key}
use Rattle.quote.specs.declared.Quote.{Quote}
use Rattle.groups.specs.Taken.{Taken, none, taken}

-- what is taken, if anything is
abbrev pub found : {A : Type 0} → Taken A → Option A
found none = None
found (taken a w) = Some a

-- what is sound by itself
abbrev pub sound_only : {A : Type 0} → (A → Bool) → A → Option A
sound_only sound a = cond (sound a) (Some a) None

-- a name of w characters behind the Source, padded with spaces
abbrev pub key_from : ℕ → List ℕ → Key
key_from w b = record { source = part b 0 6; token = part b 6 w ++ replicate (20 - w) 32 }

-- the parts of an entry
abbrev pub parted : Quote → List ℕ → Quote × List ℕ
parted q vs = (q, vs)

-- the sum of a size's four parts, none of them above any size
abbrev pub size_in : (executed cancelled passed left : ℕ) → Option ℕ
size_in e c p l = cond (leb e 999999 && leb c 999999 && leb p 999999 && leb l 999999) (Some (e + c + p + l)) None
