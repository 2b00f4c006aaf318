-- The kinds of field that are read as a number, and how a number is written.
use Rattle.std.specs.Prelude.{ℕ, zero, suc, ◌+◌, ◌-◌, ◌*◌, ◌/◌, ◌%◌, cond, ◌&&◌, List, [], ◌∷◌, ◌++◌, leb, eqb, length, take, drop, Option, Some, None}
use Rattle.field.specs.Byte.{is_of}
use Rattle.field.specs.declared.Class.TheVariants.{Digit}

-- digits and nothing else, after those that said v
abbrev pub digits_after : ℕ → List ℕ → Option ℕ
digits_after v [] = Some v
digits_after v (b ∷ s) = cond (is_of Digit b) (digits_after (v * 10 + (b - 48)) s) None

-- the zero that stands alone
abbrev pub lone_zero : List ℕ → Option ℕ
lone_zero [] = Some 0
lone_zero (b ∷ s) = None

-- 01, The line: Number: fewest digits, right justified, spaces on the left; zero is one digit 0
abbrev pub spaced : List ℕ → Option ℕ
spaced [] = None
spaced (b ∷ s) = cond (eqb b 32) (spaced s) (cond (eqb b 48) (lone_zero s) (digits_after 0 (b ∷ s)))

-- a number from least to most
abbrev pub within : ℕ → ℕ → Option ℕ → Option ℕ
within least most (Some v) = cond (leb least v && leb v most) (Some v) None
within least most None = None

-- 01, The line: 1, 15, 23, 24
abbrev pub number : ℕ → ℕ → List ℕ → Option ℕ
number least most s = within least most (spaced s)

-- 01, The line: 18, 19, 21: exactly as many digits as the field is wide
abbrev pub digits : ℕ → ℕ → List ℕ → Option ℕ
digits least most s = within least most (digits_after 0 s)

-- dollars and ten-thousandths
abbrev pub dollars : Option ℕ → Option ℕ → Option ℕ
dollars (Some w) (Some f) = Some (w * 10000 + f)
dollars (Some w) None = None
dollars None (Some f) = None
dollars None None = None

-- 01, The line: Price: the whole part
abbrev pub whole : List ℕ → Option ℕ
whole s = spaced s

-- 01, The line: Price: a number, then exactly four digits
abbrev pub price : List ℕ → Option ℕ
price s = dollars (whole (take (length s - 4) s)) (digits_after 0 (drop (length s - 4) s))

-- the w bytes left of a digit that is written: where nothing is left of the number, the fill
abbrev pub rest : ℕ → ℕ → ℕ → List ℕ
rest fill zero v = []
rest fill (suc w) v = rest fill w (v / 10) ++ (cond (eqb v 0) fill (48 + v % 10) ∷ [])

-- a number in w bytes, right justified behind its fill; its last digit is always written
abbrev pub filled : ℕ → ℕ → ℕ → List ℕ
filled fill zero v = []
filled fill (suc w) v = rest fill w (v / 10) ++ ((48 + v % 10) ∷ [])

-- 01, The line: Price, written
abbrev pub price_text : ℕ → ℕ → List ℕ
price_text w v = filled 32 (w - 4) (v / 10000) ++ filled 48 4 (v % 10000)
