-- Document 01's ranges that only the yaw rate calibrator tests, one line for each. Definitions only.
-- Ends belong to the range, a NaN is in none, and decimals mean the nearest f32.
use Rattle.std.specs.Prelude.{ℕ, Bool, leb, ltb, Float}
use Rattle.float.specs.Value.{f32, within}

-- the ring's index below 20 and its count at most 20
abbrev pub is_index : ℕ → Bool
is_index n = ltb n 20

abbrev pub is_ring_count : ℕ → Bool
is_ring_count n = leb n 20

-- yaw rate 1e3
abbrev pub takes_yaw_rate : Float → Bool
takes_yaw_rate v = within v (f32 0x447a_0000)
