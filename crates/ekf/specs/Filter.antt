-- The filter's calls. A call of a channel looks at that channel and at its configuration number, and puts the channel back; a making, a prediction and the reset of all tallies belong to the whole. And that two outcomes which are told alike are one.
use Rattle.std.specs.Prelude.{◌≡◌, true}
use Rattle.call.specs.Said.{Said, done, told}
use Rattle.call.specs.Once as once
use Rattle.call.specs.Port.{Port, bare, inside, port_inside, settled_by}
use Rattle.channel.specs.Answers.{verdict, verdict_once}
use Rattle.channel.specs.Gate.{no_tallies}
use Rattle.position.specs.Position as position
use Rattle.position.specs.Position.{PositionCall, asks_position, position_sound, on_position}
use Rattle.velocity.specs.Velocity as velocity
use Rattle.velocity.specs.Velocity.{VelocityCall, asks_velocity, velocity_sound, on_velocity}
use Rattle.yaw.specs.Yaw as yaw
use Rattle.yaw.specs.Yaw.{YawCall, asks_yaw, yaw_sound, on_yaw}
use Rattle.bias.specs.Bias.{BiasCall, asks_bias, bias_sound, on_bias}
use Rattle.call.specs.declared.Outcome.{Outcome}
use Rattle.channel.specs.declared.Verdict.{Verdict}
use Rattle.position.specs.declared.Position.{Position}
use Rattle.velocity.specs.declared.Velocity.{Velocity}
use Rattle.yaw.specs.declared.Yaw.{Yaw}
use Rattle.bias.specs.declared.Bias.{Bias}
use Rattle.ekf.specs.declared.Ekf.{Ekf}

-- two outcomes told alike are one
pub told_once : (a b : Outcome Verdict Ekf) (t : Said × Ekf) → told verdict a ≡ t → told verdict b ≡ t → a ≡ b
told_once = once.told_once verdict verdict_once

-- ---- a filter with one channel changed
abbrev pub with_position : Ekf → Position → Ekf
with_position f s = record { config = f.config; position = s; velocity = f.velocity; yaw = f.yaw; bias = f.bias }

abbrev pub with_velocity : Ekf → Velocity → Ekf
with_velocity f s = record { config = f.config; position = f.position; velocity = s; yaw = f.yaw; bias = f.bias }

abbrev pub with_yaw : Ekf → Yaw → Ekf
with_yaw f s = record { config = f.config; position = f.position; velocity = f.velocity; yaw = s; bias = f.bias }

abbrev pub with_bias : Ekf → Bias → Ekf
with_bias f s = record { config = f.config; position = f.position; velocity = f.velocity; yaw = f.yaw; bias = s }

-- a filter with the states and variances of another; the biases stay
abbrev pub with_motion : Ekf → Ekf → Ekf
with_motion f g =
    record {
      config = f.config;
      position = position.with_axes g.position.x g.position.y f.position;
      velocity = velocity.with_axes g.velocity.x g.velocity.y f.velocity;
      yaw = yaw.with_angle g.yaw.angle f.yaw;
      bias = record { x = record { x = f.bias.x.x; p = g.bias.x.p }; y = record { x = f.bias.y.x; p = g.bias.y.p } };
    }

-- ---- a call of each channel, on the filter
abbrev pub call_position : PositionCall → Ekf → Said × Ekf
call_position c f = inside (with_position f) (on_position f.config.r_pos c f.position)

abbrev pub call_velocity : VelocityCall → Ekf → Said × Ekf
call_velocity c f = inside (with_velocity f) (on_velocity f.config.r_vel c f.velocity)

abbrev pub call_yaw : YawCall → Ekf → Said × Ekf
call_yaw c f = inside (with_yaw f) (on_yaw f.config.r_yaw c f.yaw)

abbrev pub call_bias : BiasCall → Ekf → Said × Ekf
call_bias c f = inside (with_bias f) (on_bias c f.bias)

-- the same as ports of the filter; `FilterLaws` has that they are
abbrev pub position_calls : Port PositionCall Ekf
position_calls = port_inside position_sound (λ f. asks_position f.config.r_pos) (λ f. f.position) with_position

abbrev pub velocity_calls : Port VelocityCall Ekf
velocity_calls = port_inside velocity_sound (λ f. asks_velocity f.config.r_vel) (λ f. f.velocity) with_velocity

abbrev pub yaw_calls : Port YawCall Ekf
yaw_calls = port_inside yaw_sound (λ f. asks_yaw f.config.r_yaw) (λ f. f.yaw) with_yaw

abbrev pub bias_calls : Port BiasCall Ekf
bias_calls = port_inside bias_sound (λ f. asks_bias) (λ f. f.bias) with_bias

-- ---- `reset_gate_stats`, which belongs to no channel and is never refused: all six tallies become 0
abbrev pub reset_gate_stats : Ekf → Ekf
reset_gate_stats f =
    record {
      config = f.config;
      position = position.with_tallies no_tallies f.position;
      velocity = velocity.with_tallies no_tallies f.velocity;
      yaw = yaw.with_tallies no_tallies f.yaw;
      bias = f.bias;
    }

abbrev pub reset_port : Port (Unit {0}) Ekf
reset_port = record { sound = λ f. true; asks = λ c f. bare true (done, reset_gate_stats f) }

abbrev pub on_reset : Ekf → Said × Ekf
on_reset f = settled_by reset_port tt f
