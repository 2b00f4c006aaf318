-- One field by its rule: what its bytes say, when a value is lawful there, and how it is written.
use Rattle.std.specs.Prelude.{ℕ, ◌^◌, Bool, true, false, ◌&&◌, List, leb, ltb, eqb, length, Option}
use Rattle.std.specs.Bool.{then_some}
use Rattle.std.specs.Option.{option_map}
use Rattle.run.specs.Runs.{all}
use Rattle.field.specs.Byte.{is_of}
use Rattle.field.specs.Verbatim.{is_text, is_text_or_blank, is_blank, is_digits_or_blank, is_hex, is_code}
use Rattle.field.specs.Number.{filled, price_text}
use Rattle.field.specs.Number.{number as read_number, digits as read_digits, price as read_price}
use Rattle.field.specs.declared.Class.TheVariants.{Printable}

-- 01, The line: the kinds of field that are kept as their bytes
pub data Kind : Type 0 where
  text text_or_blank blank digits_or_blank hex : Kind

abbrev pub is_kind : Kind → List ℕ → Bool
is_kind text b = is_text b
is_kind text_or_blank b = is_text_or_blank b
is_kind blank b = is_blank b
is_kind digits_or_blank b = is_digits_or_blank b
is_kind hex b = is_hex b

-- 01, The line: the column Rule
pub data Rule : Type 0 where
  number digits : (least most : ℕ) → Rule
  price : Rule
  code : (codes : List ℕ) → Rule
  verbatim : Kind → Rule

-- what a field says: a number, or its bytes
pub data Value : Type 0 where
  num : ℕ → Value
  run : List ℕ → Value

-- what the bytes of a field say, if they keep its rule
abbrev pub reads : Rule → List ℕ → Option Value
reads (number least most) b = option_map num (read_number least most b)
reads (digits least most) b = option_map num (read_digits least most b)
reads price b = option_map num (read_price b)
reads (code codes) b = then_some (is_code codes b) (run b)
reads (verbatim kind) b = then_some (is_kind kind b) (run b)

-- a value that a field of w bytes can say
abbrev pub lawful : Rule → ℕ → Value → Bool
lawful (number least most) w (num v) = leb least v && leb v most
lawful (number least most) w (run b) = false
lawful (digits least most) w (num v) = leb least v && leb v most
lawful (digits least most) w (run b) = false
lawful price w (num v) = ltb v (10 ^ w)
lawful price w (run b) = false
lawful (code codes) w (num v) = false
lawful (code codes) w (run b) = eqb (length b) w && is_code codes b
lawful (verbatim kind) w (num v) = false
lawful (verbatim kind) w (run b) = eqb (length b) w && is_kind kind b

-- a number in w bytes
abbrev pub writes_number : Rule → ℕ → ℕ → List ℕ
writes_number (number least most) w v = filled 32 w v
writes_number (digits least most) w v = filled 48 w v
writes_number price w v = price_text w v
writes_number (code codes) w v = filled 32 w v
writes_number (verbatim kind) w v = filled 32 w v

-- a value in w bytes
abbrev pub writes : Rule → ℕ → Value → List ℕ
writes rule w (num v) = writes_number rule w v
writes rule w (run b) = b

-- whether what a rule allows has room in w bytes, and each of them is one that a line may have
abbrev pub fits : Rule → ℕ → Bool
fits (number least most) w = ltb 0 w && ltb most (10 ^ w)
fits (digits least most) w = ltb most (10 ^ w)
fits price w = leb 5 w
fits (code codes) w = eqb w 1 && all (is_of Printable) codes
fits (verbatim kind) w = true
