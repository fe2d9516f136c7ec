-- Document 01's ranges that only the blend tests, one line for each. Definitions only.
-- Ends belong to the range, a NaN is in none, and -0 is in "0 to ..".
use Rattle.std.specs.Prelude.{Bool, Float}
use Rattle.float.specs.Value.{f32, between, zero32}

-- a confidence 0 to 1
abbrev pub takes_confidence : Float → Bool
takes_confidence v = between zero32 v (f32 0x3f80_0000)

-- weights 0 to 1
abbrev pub is_weight : Float → Bool
is_weight v = between zero32 v (f32 0x3f80_0000)
