-- The ranges that more than one learner tests, or a learner and the low-pass or the blend, one line for each: document 01's, and of courses document 02's. Definitions only.
-- Ends belong to the range, a NaN is in none, -0 is in "0 to ..", and decimals mean the nearest f32.
use Rattle.std.specs.Prelude.{ℕ, Bool, leb, ltb, Float}
use Rattle.float.specs.Value.{f32, within, between, zero32, pi}
use Rattle.float.specs.Count.{count_stop}

-- ---- what is stored
-- all stored sums and outputs are sound up to 1e9 in size
abbrev pub is_stored : Float → Bool
is_stored v = within v (f32 0x4e6e_6b28)

-- but stored courses, headings and the heading offset only within PI
abbrev pub is_course : Float → Bool
is_course v = within v pi

-- learner counts at most 16,777,216
abbrev pub is_count : ℕ → Bool
is_count n = leb n count_stop

-- a sample count that a call would raise gives 5 at that end
abbrev pub has_room : ℕ → Bool
has_room n = ltb n count_stop

-- ---- arguments
-- speed 0 to 1e4
abbrev pub takes_speed : Float → Bool
takes_speed v = between zero32 v (f32 0x461c_4000)

-- dt 0 to 0.5
abbrev pub takes_step : Float → Bool
takes_step v = between zero32 v (f32 0x3f00_0000)

-- accelerations, low-pass input and reset value 1e6 in size
abbrev pub takes_acceleration : Float → Bool
takes_acceleration v = within v (f32 0x4974_2400)

-- courses, the ring's headings among them, 32 in size (document 02, C-17)
abbrev pub course_limit : Float
course_limit = f32 0x4200_0000

abbrev pub takes_course : Float → Bool
takes_course v = within v course_limit

-- ---- parameters: alpha 0 to 1, the others 0 to 1e4
abbrev pub is_alpha : Float → Bool
is_alpha v = between zero32 v (f32 0x3f80_0000)

abbrev pub is_parameter : Float → Bool
is_parameter v = between zero32 v (f32 0x461c_4000)
