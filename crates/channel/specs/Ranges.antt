-- Document 01's ranges for the filter, one line for each: what is sound, what a configuration number may be, and what an argument may be. Definitions only.
-- Ends belong to the range, a NaN is in none, -0 is in "0 to ..", and decimals mean the nearest f32.
use Rattle.std.specs.Prelude.{ℕ, Bool, ◌&&◌, leb, Float}
use Rattle.float.specs.Value.{f32, ◌⊗◌, within, between, pi, zero32}
use Rattle.float.specs.Count.{count_stop}

-- ---- Ends that more than one range has
-- positions 1e7, velocities and speeds 1e4, yaws that are given or stored 32, variances 1e9, noises 1e-6 to 1e6, and the least factor of `r_yaw` 0.001
abbrev pub position_limit : Float
position_limit = f32 0x4b18_9680

abbrev pub velocity_limit : Float
velocity_limit = f32 0x461c_4000

abbrev pub yaw_limit : Float
yaw_limit = f32 0x4200_0000

abbrev pub variance_limit : Float
variance_limit = f32 0x4e6e_6b28

abbrev pub least_noise : Float
least_noise = f32 0x3586_37bd

abbrev pub noise_limit : Float
noise_limit = f32 0x4974_2400

abbrev pub least_factor : Float
least_factor = f32 0x3a83_126f

-- ---- Sound
-- positions and last GPS at most 1e7 in size
abbrev pub is_position : Float → Bool
is_position v = within v position_limit

-- velocities 1e4
abbrev pub is_velocity : Float → Bool
is_velocity v = within v velocity_limit

-- yaw within f32 PI
abbrev pub is_yaw : Float → Bool
is_yaw v = within v pi

-- stored moving yaw at most 32
abbrev pub is_moving_yaw : Float → Bool
is_moving_yaw v = within v yaw_limit

-- biases 1e3
abbrev pub is_bias : Float → Bool
is_bias v = within v (f32 0x447a_0000)

-- variances 0 to 1e9
abbrev pub is_variance : Float → Bool
is_variance v = between zero32 v variance_limit

-- NIS sum 0 to 1e9
abbrev pub is_nis_sum : Float → Bool
is_nis_sum v = between zero32 v variance_limit

-- NIS count at most 16,777,216
abbrev pub is_nis_count : ℕ → Bool
is_nis_count n = leb n count_stop

-- ---- Configuration
-- `q_acc`, `q_gyro`, `q_bias` 0 to 1e6
abbrev pub is_process_noise : Float → Bool
is_process_noise v = between zero32 v noise_limit

-- `r_pos`, `r_vel`, `r_yaw` 1e-6 to 1e6
abbrev pub is_measurement_noise : Float → Bool
is_measurement_noise v = between least_noise v noise_limit

-- `min_speed` 0 to 1e4
abbrev pub is_min_speed : Float → Bool
is_min_speed v = between zero32 v velocity_limit

-- ---- Arguments
-- position 1e7 in size
abbrev pub takes_position : Float → Bool
takes_position v = within v position_limit

-- velocity 1e4
abbrev pub takes_velocity : Float → Bool
takes_velocity v = within v velocity_limit

-- speed 0 to 1e4
abbrev pub takes_speed : Float → Bool
takes_speed v = between zero32 v velocity_limit

-- yaw 32 in size
abbrev pub takes_yaw : Float → Bool
takes_yaw v = within v yaw_limit

-- `r_yaw_factor` 0.001 to 1e6
abbrev pub takes_factor : Float → Bool
takes_factor v = between least_factor v noise_limit

-- bias and acceleration 1e3
abbrev pub takes_acceleration : Float → Bool
takes_acceleration v = within v (f32 0x447a_0000)

-- wz 1e3 in size; dt 0 to 0.5 with the f32 product wz*dt at most 0.5 in size
abbrev pub takes_turn : Float → Float → Bool
takes_turn wz dt = (within wz (f32 0x447a_0000) && between zero32 dt (f32 0x3f00_0000)) && within (wz ⊗ dt) (f32 0x3f00_0000)
