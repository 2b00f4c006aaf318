-- Two outcomes that a promise allows are equal: each is an equation for every number and byte that the entry leaves.
use Prim.Native.Nat.{ℕ}
use mathlib.Core.Path.{◌≡◌, sym, ◌∙◌}
use mathlib.Core.List.{List}
use Rattle.section.specs.declared.Section.{Section}
use Rattle.door.specs.Promises.{Reads, Writes, StrikeValues, StrikeForms, Clocks, Empties, Checks, Finds, RecordsAt, BooksIn, BooksAllIn, SheetsIn, NextPieces}

one : {A : Type 0} {x y z : A} → x ≡ z → y ≡ z → x ≡ y
one p q = p ∙ sym q

pub reads_determined : (piece before : List ℕ) (kind r q : ℕ) (a b : List ℕ) (j k : ℕ)
    → Reads piece before kind r a j → Reads piece before kind q b k → (r ≡ q) × (a ≡ b) × (j ≡ k)
reads_determined piece before kind r q a b j k x y = (one x.said y.said, one x.out y.out, one x.told y.told)

pub writes_determined : (image before : List ℕ) (r q : ℕ) (a b : List ℕ) → Writes image before r a → Writes image before q b → (r ≡ q) × (a ≡ b)
writes_determined image before r q a b x y = (one x.said y.said, one x.out y.out)

pub strike_values_determined : (d n before r q v w : ℕ) → StrikeValues d n before r v → StrikeValues d n before q w → (r ≡ q) × (v ≡ w)
strike_values_determined d n before r q v w x y = (one x.said y.said, one x.told y.told)

pub strike_forms_determined : (v d n r q d1 d2 n1 n2 : ℕ) → StrikeForms v d n r d1 n1 → StrikeForms v d n q d2 n2
    → (r ≡ q) × (d1 ≡ d2) × (n1 ≡ n2)
strike_forms_determined v d n r q d1 d2 n1 n2 x y =
    (one x.said y.said, one x.denominator y.denominator, one x.digits y.digits)

pub clocks_determined : (ms h m s t r q h1 h2 m1 m2 s1 s2 t1 t2 : ℕ) → Clocks ms h m s t r h1 m1 s1 t1 → Clocks ms h m s t q h2 m2 s2 t2
    → (r ≡ q) × (h1 ≡ h2) × (m1 ≡ m2) × (s1 ≡ s2) × (t1 ≡ t2)
clocks_determined ms h m s t r q h1 h2 m1 m2 s1 s2 t1 t2 x y =
    (one x.said y.said, one x.hours y.hours, one x.minutes y.minutes, one x.seconds y.seconds, one x.milliseconds y.milliseconds)

pub empties_determined : (before : List ℕ) (r q : ℕ) (a b : List ℕ) → Empties before r a → Empties before q b → (r ≡ q) × (a ≡ b)
empties_determined before r q a b x y = (one x.said y.said, one x.out y.out)

pub checks_determined : (table : List ℕ) (r q : ℕ) → Checks table r → Checks table q → r ≡ q
checks_determined table r q x y = one x.said y.said

pub finds_determined : (table key : List ℕ) (before r q i j : ℕ) → Finds table key before r i → Finds table key before q j → (r ≡ q) × (i ≡ j)
finds_determined table key before r q i j x y = (one x.said y.said, one x.told y.told)

-- an order as well as a quote row
pub records_at_determined : (c : Section) (n : ℕ) (table : List ℕ) (i : ℕ) (before : List ℕ) (r q : ℕ) (a b : List ℕ)
    → RecordsAt c n table i before r a → RecordsAt c n table i before q b → (r ≡ q) × (a ≡ b)
records_at_determined c n table i before r q a b x y = (one x.said y.said, one x.out y.out)

pub books_in_determined : (before piece : List ℕ) (r q : ℕ) (a b : List ℕ) → BooksIn before piece r a → BooksIn before piece q b → (r ≡ q) × (a ≡ b)
books_in_determined before piece r q a b x y = (one x.said y.said, one x.out y.out)

pub books_all_in_determined : (table text answers : List ℕ) (used booked r q : ℕ) (a b g h : List ℕ) (i j k l : ℕ)
    → BooksAllIn table text answers used booked r a g i k → BooksAllIn table text answers used booked q b h j l
    → (r ≡ q) × (a ≡ b) × (g ≡ h) × (i ≡ j) × (k ≡ l)
books_all_in_determined table text answers used booked r q a b g h i j k l x y =
    (one x.said y.said, one x.out y.out, one x.told y.told, one x.bytes y.bytes, one x.pieces y.pieces)

pub sheets_in_determined : (table before : List ℕ) (n r q : ℕ) (a b : List ℕ) (i j : ℕ)
    → SheetsIn table before n r a i → SheetsIn table before n q b j → (r ≡ q) × (a ≡ b) × (i ≡ j)
sheets_in_determined table before n r q a b i j x y = (one x.said y.said, one x.out y.out, one x.told y.told)

pub next_pieces_determined : (text : List ℕ) (at r q i j : ℕ) → NextPieces text at r i → NextPieces text at q j → (r ≡ q) × (i ≡ j)
next_pieces_determined text at r q i j x y = (one x.said y.said, one x.told y.told)
