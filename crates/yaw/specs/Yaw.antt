-- The yaw channel: x[2], p[2], the stored moving yaw and its flag, the yaw tallies, and `r_yaw`, which the definitions call r. And that two answers of its optional yaw which say the same are one, and two outcomes which are told alike.
use Rattle.std.specs.Prelude.{◌≡◌, Bool, true, false, ◌&&◌, cond, Float, Option, Result}
use Rattle.std.specs.Float.Ieee.Scale.{finite}
use Rattle.float.specs.Value.{f32, ◌⊕◌, ◌⊖◌, ◌⊗◌, ◌⊘◌, zero32}
use Rattle.float.specs.Wrap.{wrapped}
use Rattle.call.specs.Said.{Said, Reply, done, value, nothing, option, said, told}
use Rattle.call.specs.Once as once
use Rattle.call.specs.Port.{Asked, Port, given, bare, settled_by}
use Rattle.channel.specs.Ranges.{is_yaw, is_moving_yaw, is_measurement_noise, takes_yaw, takes_factor}
use Rattle.channel.specs.Answers.{verdict, verdict_once, counts}
use Rattle.channel.specs.Kalman.{axis_sound, origin, one32}
use Rattle.channel.specs.Gate.{gated, one_accepted, one_rejected, no_tallies}
use Rattle.call.specs.declared.refusal.Refusal.{Refusal}
use Rattle.call.specs.declared.Outcome.{Outcome}
use Rattle.channel.specs.declared.Verdict.{Verdict}
use Rattle.channel.specs.declared.Axis.{Axis}
use Rattle.channel.specs.declared.Tallies.{Tallies}
use Rattle.yaw.specs.declared.MovingYaw.{MovingYaw}
use Rattle.yaw.specs.declared.Yaw.{Yaw}

pub data YawCall : Type 0 where
  update_yaw : Float → YawCall
  update_yaw_soft : Float → Float → YawCall
  lock_yaw : YawCall
  store_moving_yaw : Float → YawCall
  get_last_moving_yaw : YawCall
  yaw : YawCall
  yaw_gate_stats : YawCall

-- two outcomes told alike are one
pub told_once : (a b : Outcome Verdict Yaw) (t : Said × Yaw) → told verdict a ≡ t → told verdict b ≡ t → a ≡ b
told_once = once.told_once verdict verdict_once

-- two answers of a yaw or nothing that say the same are one
last_yaw_back : (a : Result (Option Float) Refusal) → once.answer_from once.option_in (said option a) ≡ a
last_yaw_back = once.answer_back option once.option_in once.option_back

pub last_yaw_once : (a b : Result (Option Float) Refusal) (s : Said) → said option a ≡ s → said option b ≡ s → a ≡ b
last_yaw_once = once.said_once option once.option_once

-- ---- a channel as it is made, and with some of its numbers changed
-- x is 0 and p is 100; there is no stored moving yaw
abbrev pub fresh_yaw : Yaw
fresh_yaw = record { angle = origin (f32 0x42c8_0000); moving = record { angle = zero32; known = false }; tallies = no_tallies }

abbrev pub with_angle : Axis → Yaw → Yaw
with_angle a s = record { angle = a; moving = s.moving; tallies = s.tallies }

abbrev pub with_tallies : Tallies → Yaw → Yaw
with_tallies t s = record { angle = s.angle; moving = s.moving; tallies = t }

-- every number of the channel, the stored moving yaw also while its flag is false
abbrev pub yaw_sound : Yaw → Bool
yaw_sound s = axis_sound is_yaw s.angle && is_moving_yaw s.moving.angle

-- CHI2_GATE_YAW: 12.0
abbrev pub chi2_gate_yaw : Float
chi2_gate_yaw = f32 0x4140_0000

-- dy = wrap_angle(z_yaw - x[2])
abbrev pub yaw_innovation : Axis → Float → Float
yaw_innovation a z_yaw = wrapped (z_yaw ⊖ a.x)

-- s = p[2] + r; mahal_sq = (dy * dy) / s
abbrev pub yaw_gate_value : Axis → Float → Float → Float
yaw_gate_value a dy r =
    let s = a.p ⊕ r in
    dy ⊗ dy ⊘ s

-- k = p[2] / s; x[2] += k * dy; x[2] = wrap_angle(x[2]); p[2] *= 1.0 - k
abbrev pub turned : Axis → Float → Float → Axis
turned a dy r =
    let s = a.p ⊕ r in
    let k = a.p ⊘ s in
    record { x = wrapped (a.x ⊕ k ⊗ dy); p = a.p ⊗ (one32 ⊖ k) }

-- a rejected yaw, and an accepted one
abbrev pub yaw_away : Yaw → Yaw
yaw_away s = with_tallies (one_rejected s.tallies) s

abbrev pub yaw_taken : Yaw → Axis → Yaw
yaw_taken s next = with_angle next (with_tallies (one_accepted s.tallies) s)

-- both yaw updates, which differ in r
abbrev pub updated_yaw : Float → Float → Yaw → Reply × Yaw
updated_yaw z_yaw r s =
    let dy = yaw_innovation s.angle z_yaw in
    gated chi2_gate_yaw (yaw_gate_value s.angle dy r) (yaw_away s) (yaw_taken s (turned s.angle dy r))

-- p[2] = 0.001
abbrev pub locked_yaw : Yaw → Yaw
locked_yaw s = with_angle (record { x = s.angle.x; p = f32 0x3a83_126f }) s

abbrev pub stored_yaw : Float → Yaw → Yaw
stored_yaw v s = record { angle = s.angle; moving = record { angle = v; known = true }; tallies = s.tallies }

-- the stored moving yaw, or nothing
abbrev pub last_yaw : MovingYaw → Reply
last_yaw m = cond m.known (value m.angle) nothing

-- ---- the calls: what is tested, and what the Rust answers and leaves
abbrev pub asks_yaw : Float → YawCall → Yaw → Asked Yaw
asks_yaw r (update_yaw z_yaw) s = given (finite z_yaw) (takes_yaw z_yaw) (is_measurement_noise r) (updated_yaw z_yaw r s)
asks_yaw r (update_yaw_soft z_yaw factor) s =
    given (finite z_yaw && finite factor) (takes_yaw z_yaw && takes_factor factor) (is_measurement_noise r) (updated_yaw z_yaw (r ⊗ factor) s)
asks_yaw r lock_yaw s = bare (is_measurement_noise r) (done, locked_yaw s)
asks_yaw r (store_moving_yaw v) s = given (finite v) (takes_yaw v) (is_measurement_noise r) (done, stored_yaw v s)
asks_yaw r get_last_moving_yaw s = bare (is_measurement_noise r) (last_yaw s.moving, s)
asks_yaw r yaw s = bare (is_measurement_noise r) (value s.angle.x, s)
asks_yaw r yaw_gate_stats s = bare (is_measurement_noise r) (counts s.tallies.accepted s.tallies.rejected, s)

abbrev pub yaw_port : Float → Port YawCall Yaw
yaw_port r = record { sound = yaw_sound; asks = asks_yaw r }

abbrev pub on_yaw : Float → YawCall → Yaw → Said × Yaw
on_yaw r c s = settled_by (yaw_port r) c s
