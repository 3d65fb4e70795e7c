-- How faults are counted.
use Rattle.std.specs.Prelude.{ℕ, ◌+◌, ◌-◌, ◌^◌, min}

-- the last value of a count, at which it stands still
abbrev pub last_count : ℕ
last_count = 2 ^ 64 - 1

-- the count after one fault more: higher by one, or still at its last value
abbrev pub one_more : ℕ → ℕ
one_more count = min (count + 1) last_count
