-- The bias channel: x[5], x[6], p[5], p[6]. Its calls are `update_bias` and `biases`. And that two outcomes which are told alike are one.
use Rattle.std.specs.Prelude.{◌≡◌, Bool, true, ◌&&◌, Float}
use Rattle.std.specs.Float.Ieee.Scale.{finite}
use Rattle.float.specs.Value.{f32}
use Rattle.call.specs.Said.{Said, done, pair, told}
use Rattle.call.specs.Once as once
use Rattle.call.specs.Port.{Asked, Port, given, bare, settled_by}
use Rattle.channel.specs.Ranges.{is_bias, takes_acceleration}
use Rattle.channel.specs.Answers.{verdict, verdict_once}
use Rattle.channel.specs.Kalman.{axis_sound, origin, corrected}
use Rattle.call.specs.declared.Outcome.{Outcome}
use Rattle.channel.specs.declared.Verdict.{Verdict}
use Rattle.bias.specs.declared.Bias.{Bias}

pub data BiasCall : Type 0 where
  update_bias : Float → Float → BiasCall
  biases : BiasCall

-- two outcomes told alike are one
pub told_once : (a b : Outcome Verdict Bias) (t : Said × Bias) → told verdict a ≡ t → told verdict b ≡ t → a ≡ b
told_once = once.told_once verdict verdict_once

-- a channel as it is made: x is 0 and p is 1
abbrev pub fresh_bias : Bias
fresh_bias = record { x = origin (f32 0x3f80_0000); y = origin (f32 0x3f80_0000) }

abbrev pub bias_sound : Bias → Bool
bias_sound s = axis_sound is_bias s.x && axis_sound is_bias s.y

-- R_BIAS: 0.05 * 0.05, which is not the nearest f32 to 0.0025
abbrev pub r_bias : Float
r_bias = f32 0x3b23_d70b

abbrev pub updated_bias : Float → Float → Bias → Bias
updated_bias z_ax z_ay s = record { x = corrected s.x z_ax r_bias; y = corrected s.y z_ay r_bias }

-- ---- the calls: what is tested, and what the Rust answers and leaves
abbrev pub asks_bias : BiasCall → Bias → Asked Bias
asks_bias (update_bias z_ax z_ay) s = given (finite z_ax && finite z_ay) (takes_acceleration z_ax && takes_acceleration z_ay) true (done, updated_bias z_ax z_ay s)
asks_bias biases s = bare true (pair s.x.x s.y.x, s)

abbrev pub bias_port : Port BiasCall Bias
bias_port = record { sound = bias_sound; asks = asks_bias }

abbrev pub on_bias : BiasCall → Bias → Said × Bias
on_bias c s = settled_by bias_port c s
