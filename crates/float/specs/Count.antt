-- Counts that stop, and a count as a float. Definitions only.
use Rattle.std.specs.Prelude.{ℕ, ◌+◌, min, cond, pos, ltb, Float}
use Rattle.std.specs.Float.{binary32}
use Rattle.std.specs.Float.Ieee.{of_int}

-- one more, but a count at its stop or beyond stands still
abbrev pub raised : ℕ → ℕ → ℕ
raised stop n = cond (ltb n stop) (n + 1) n

-- gate tallies stop at 4,294,967,295, and other counts at 16,777,216
abbrev pub count_stop : ℕ
count_stop = 16777216

abbrev pub tallied : ℕ → ℕ
tallied n = raised 4294967295 n

abbrev pub counted : ℕ → ℕ
counted n = raised count_stop n

-- `count as f32`, which is exact up to 16,777,216; whoever looks at a count beyond that refuses
abbrev pub count_float : ℕ → Float
count_float n = of_int binary32 (pos (min n count_stop))
