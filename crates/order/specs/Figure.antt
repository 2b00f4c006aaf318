-- 01, Orders and their figures: what each event does to one order's figures.
use Rattle.std.specs.Prelude.{ℕ, ◌+◌, ◌-◌, ◌≤◌, ◌≡◌}
use Rattle.order.specs.declared.Figures.{Figures}

-- 01, Damaged: what undamaged figures keep
pub record Sound (f : Figures) : Type 0 where
  pub least : 1 ≤ f.size
  pub most : f.size ≤ 999999
  pub broken : f.broken ≤ f.executed
  pub sum : f.size ≡ f.executed + f.cancelled + f.passed + f.«open»

-- A, and the new order of a U: size n, open n, other figures 0
abbrev pub fresh_by : ℕ → Figures
fresh_by n = record { size = n; executed = 0; broken = 0; cancelled = 0; passed = 0; «open» = n }

-- E: n goes from open to executed
abbrev pub executed_by : Figures → ℕ → Figures
executed_by f n =
    record {
      size = f.size;
      executed = f.executed + n;
      broken = f.broken;
      cancelled = f.cancelled;
      passed = f.passed;
      «open» = f.«open» - n;
    }

-- C: n is added to broken; executed stays; nothing returns to open
abbrev pub broken_by : Figures → ℕ → Figures
broken_by f n =
    record {
      size = f.size;
      executed = f.executed;
      broken = f.broken + n;
      cancelled = f.cancelled;
      passed = f.passed;
      «open» = f.«open»;
    }

-- X: n goes from open to cancelled
abbrev pub cancelled_by : Figures → ℕ → Figures
cancelled_by f n =
    record {
      size = f.size;
      executed = f.executed;
      broken = f.broken;
      cancelled = f.cancelled + n;
      passed = f.passed;
      «open» = f.«open» - n;
    }

-- U, the elder: all its open goes to passed on
abbrev pub passed_on : Figures → Figures
passed_on f =
    record {
      size = f.size;
      executed = f.executed;
      broken = f.broken;
      cancelled = f.cancelled;
      passed = f.passed + f.«open»;
      «open» = 0;
    }
