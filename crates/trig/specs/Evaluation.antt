-- The word in which the code's evaluation is told beside the steps. Definitions only.
use Rattle.std.specs.Prelude.{ℕ, ◌+◌, ◌*◌, ◌/◌}

-- one step of a nested sum, onto what is nested in it
abbrev pub onto : ℕ → ℕ → ℕ → ℕ
onto v p d = 1073741824 + v * p / (8388608 * d)
