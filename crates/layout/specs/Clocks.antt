-- The time of day that a timestamp means.
use Rattle.std.specs.Prelude.{ℕ, ◌/◌, ◌%◌, cond}
use Rattle.refusal.specs.Answer.{Answer, value, refused}
use Rattle.layout.specs.Layout.{timestamp}
use Rattle.message.specs.Rule.{num, lawful}
use Rattle.layout.specs.declared.Clock.{Clock}

-- 01, What is bought: milliseconds hold
abbrev pub time_of : ℕ → Clock
time_of ms = record { hours = ms / 3600000; minutes = ms / 60000 % 60; seconds = ms / 1000 % 60; milliseconds = ms % 1000 }

-- 01, The line: 1
unfoldable pub clock : ℕ → Answer Clock
clock ms = cond (lawful timestamp 8 (num ms)) (value (time_of ms)) (refused 3 1)
