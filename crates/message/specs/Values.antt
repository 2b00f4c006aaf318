-- What a field says, made and taken apart.
use Rattle.std.specs.Prelude.{ℕ, List, [], ◌∷◌, get_or, replicate}
use Rattle.message.specs.Rule.{Value, num, run}

-- a code
abbrev pub one : ℕ → Value
one b = run (b ∷ [])

-- 01, The line: Blank: all spaces, meaning missing
abbrev pub missing : ℕ → Value
missing w = run (replicate w 32)

abbrev pub num_of : Value → ℕ
num_of (num v) = v
num_of (run b) = 0

abbrev pub run_of : Value → List ℕ
run_of (num v) = []
run_of (run b) = b

-- of the values of a table's fields, which stand from 0 on
abbrev pub num_at : List Value → ℕ → ℕ
num_at vs i = num_of (get_or vs i (num 0))

abbrev pub run_at : List Value → ℕ → List ℕ
run_at vs i = run_of (get_or vs i (num 0))

abbrev pub byte_at : List Value → ℕ → ℕ
byte_at vs i = get_or (run_at vs i) 0 0
