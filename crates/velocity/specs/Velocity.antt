-- The velocity channel: x[3], x[4], p[3], p[4], the velocity tallies, and `r_vel`, which the definitions call r. There is no gate. And that two outcomes which are told alike are one.
use Rattle.std.specs.Prelude.{◌≡◌, Bool, ◌&&◌, cond, Float}
use Rattle.std.specs.Float.Ieee.{lt}
use Rattle.std.specs.Float.Ieee.Scale.{finite}
use Rattle.float.specs.Value.{f32, ◌⊕◌, ◌⊖◌, ◌⊗◌, ◌⊘◌}
use Rattle.float.specs.Root.{root}
use Rattle.call.specs.Said.{Said, done, value, pair, told}
use Rattle.call.specs.Once as once
use Rattle.call.specs.Port.{Asked, Port, given, bare, settled_by}
use Rattle.channel.specs.Ranges.{is_velocity, is_measurement_noise, takes_velocity, takes_speed}
use Rattle.channel.specs.Answers.{verdict, verdict_once, counts}
use Rattle.channel.specs.Kalman.{axis_sound, origin, corrected, at_least}
use Rattle.channel.specs.Gate.{one_accepted, no_tallies}
use Rattle.call.specs.declared.Outcome.{Outcome}
use Rattle.channel.specs.declared.Verdict.{Verdict}
use Rattle.channel.specs.declared.Axis.{Axis}
use Rattle.channel.specs.declared.Tallies.{Tallies}
use Rattle.velocity.specs.declared.Velocity.{Velocity}

pub data VelocityCall : Type 0 where
  update_velocity : Float → Float → VelocityCall
  update_speed : Float → VelocityCall
  zupt : VelocityCall
  velocity : VelocityCall
  speed : VelocityCall
  velocity_gate_stats : VelocityCall

-- two outcomes told alike are one
pub told_once : (a b : Outcome Verdict Velocity) (t : Said × Velocity) → told verdict a ≡ t → told verdict b ≡ t → a ≡ b
told_once = once.told_once verdict verdict_once

-- ---- a channel as it is made, and with some of its numbers changed
-- x is 0 and p is 100
abbrev pub fresh_velocity : Velocity
fresh_velocity = record { x = origin (f32 0x42c8_0000); y = origin (f32 0x42c8_0000); tallies = no_tallies }

abbrev pub with_axes : Axis → Axis → Velocity → Velocity
with_axes x y s = record { x = x; y = y; tallies = s.tallies }

abbrev pub with_tallies : Tallies → Velocity → Velocity
with_tallies t s = record { x = s.x; y = s.y; tallies = t }

abbrev pub velocity_sound : Velocity → Bool
velocity_sound s = axis_sound is_velocity s.x && axis_sound is_velocity s.y

abbrev pub updated_velocity : Float → Float → Float → Velocity → Velocity
updated_velocity z_vx z_vy r s = record { x = corrected s.x z_vx r; y = corrected s.y z_vy r; tallies = one_accepted s.tallies }

-- (x[3] * x[3] + x[4] * x[4]).sqrt()
abbrev pub speed_of : Velocity → Float
speed_of s = root (s.x.x ⊗ s.x.x ⊕ s.y.x ⊗ s.y.x)

-- 0.20 strictly below 0.3 m/s, else 0.04
abbrev pub speed_noise : Float → Float
speed_noise z_speed = cond (lt z_speed (f32 0x3e99_999a)) (f32 0x3e4c_cccd) (f32 0x3d23_d70a)

-- the update by a speed z, where the speed is estimated as v and the noise is r; it raises no tally
abbrev pub slowed : Float → Float → Float → Velocity → Velocity
slowed z_speed v_est r_spd s =
    let h_x = s.x.x ⊘ v_est in
    let h_y = s.y.x ⊘ v_est in
    let sum = h_x ⊗ h_x ⊗ s.x.p ⊕ h_y ⊗ h_y ⊗ s.y.p ⊕ r_spd in
    let y = z_speed ⊖ v_est in
    let k_x = s.x.p ⊗ h_x ⊘ sum in
    let k_y = s.y.p ⊗ h_y ⊘ sum in
    with_axes
    (record { x = s.x.x ⊕ k_x ⊗ y; p = s.x.p ⊖ k_x ⊗ h_x ⊗ s.x.p })
    (record { x = s.y.x ⊕ k_y ⊗ y; p = s.y.p ⊖ k_y ⊗ h_y ⊗ s.y.p })
    s

-- v_est = speed().max(0.05)
abbrev pub updated_speed : Float → Velocity → Velocity
updated_speed z_speed s = slowed z_speed (at_least (f32 0x3d4c_cccd) (speed_of s)) (speed_noise z_speed) s

-- x[3] = 0.0; x[4] = 0.0; p[3] = 2.0; p[4] = 2.0
abbrev pub stopped : Velocity → Velocity
stopped s = with_axes (origin (f32 0x4000_0000)) (origin (f32 0x4000_0000)) s

-- ---- the calls: what is tested, and what the Rust answers and leaves
abbrev pub asks_velocity : Float → VelocityCall → Velocity → Asked Velocity
asks_velocity r (update_velocity z_vx z_vy) s =
    given (finite z_vx && finite z_vy) (takes_velocity z_vx && takes_velocity z_vy) (is_measurement_noise r) (done, updated_velocity z_vx z_vy r s)
asks_velocity r (update_speed z_speed) s = given (finite z_speed) (takes_speed z_speed) (is_measurement_noise r) (done, updated_speed z_speed s)
asks_velocity r zupt s = bare (is_measurement_noise r) (done, stopped s)
asks_velocity r velocity s = bare (is_measurement_noise r) (pair s.x.x s.y.x, s)
asks_velocity r speed s = bare (is_measurement_noise r) (value (speed_of s), s)
asks_velocity r velocity_gate_stats s = bare (is_measurement_noise r) (counts s.tallies.accepted s.tallies.rejected, s)

abbrev pub velocity_port : Float → Port VelocityCall Velocity
velocity_port r = record { sound = velocity_sound; asks = asks_velocity r }

abbrev pub on_velocity : Float → VelocityCall → Velocity → Said × Velocity
on_velocity r c s = settled_by (velocity_port r) c s
