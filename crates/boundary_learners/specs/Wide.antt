-- A number of 64 bits in two words of the caller's, the low one first. Definitions only.
use Rattle.std.specs.Prelude.{ℕ, ◌+◌, ◌*◌, ◌/◌, ◌%◌}

-- the number that two words stand for
abbrev pub wide : ℕ → ℕ → ℕ
wide low high = low + 4294967296 * high

-- the words that a number writes
abbrev pub low : ℕ → ℕ
low n = n % 4294967296

abbrev pub high : ℕ → ℕ
high n = n / 4294967296
