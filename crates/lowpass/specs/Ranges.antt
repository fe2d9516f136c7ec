-- Document 01's ranges that only the low-pass tests, one line for each. Definitions only.
-- Ends belong to the range unless it says strictly, a NaN is in none, and decimals mean the nearest f32.
use Rattle.std.specs.Prelude.{Bool, ◌&&◌, Float}
use Rattle.std.specs.Float.Ieee.{le, lt}
use Rattle.float.specs.Value.{f32, ◌⊘◌, within, between}

-- stored coefficients are sound up to 4 in size
abbrev pub is_coefficient : Float → Bool
is_coefficient v = within v (f32 0x4080_0000)

-- cutoff at least 0.01, rate 1 to 1e5, cutoff strictly below half the rate
abbrev pub takes_design : Float → Float → Bool
takes_design cutoff rate = (le (f32 0x3c23_d70a) cutoff && between (f32 0x3f80_0000) rate (f32 0x47c3_5000)) && lt cutoff (rate ⊘ f32 0x4000_0000)
