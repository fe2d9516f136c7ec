-- The default configuration, when a configuration is in range, and the filter that it makes. Definitions only.
use Rattle.std.specs.Prelude.{Bool, true, ◌&&◌}
use Rattle.float.specs.Value.{f32}
use Rattle.call.specs.Said.{Said}
use Rattle.call.specs.Port.{Making, made_by}
use Rattle.channel.specs.Ranges.{is_process_noise, is_measurement_noise, is_min_speed}
use Rattle.position.specs.Position.{fresh_position}
use Rattle.velocity.specs.Velocity.{fresh_velocity}
use Rattle.yaw.specs.Yaw.{fresh_yaw}
use Rattle.bias.specs.Bias.{fresh_bias}
use Rattle.ekf.specs.declared.EkfConfig.{EkfConfig}
use Rattle.ekf.specs.declared.Ekf.{Ekf}

-- q_acc 0.40, q_gyro 0.005, q_bias 1e-3, r_pos 20.0, r_vel 0.2, r_yaw 0.10, min_speed 2.0
abbrev pub default_config : EkfConfig
default_config =
    record {
      q_acc = f32 0x3ecc_cccd;
      q_gyro = f32 0x3ba3_d70a;
      q_bias = f32 0x3a83_126f;
      r_pos = f32 0x41a0_0000;
      r_vel = f32 0x3e4c_cccd;
      r_yaw = f32 0x3dcc_cccd;
      min_speed = f32 0x4000_0000;
    }

-- every configuration number is in its range
abbrev pub config_sound : EkfConfig → Bool
config_sound c =
    ((is_process_noise c.q_acc && is_process_noise c.q_gyro) && is_process_noise c.q_bias) &&
    (((is_measurement_noise c.r_pos && is_measurement_noise c.r_vel) && is_measurement_noise c.r_yaw) && is_min_speed c.min_speed)

abbrev pub fresh : EkfConfig → Ekf
fresh c = record { config = c; position = fresh_position; velocity = fresh_velocity; yaw = fresh_yaw; bias = fresh_bias }

-- a refused making hands back the number with a default filter; that a fresh filter is sound is `fresh_sound` of `PredictLaws`
abbrev pub filter_making : Making EkfConfig Ekf
filter_making = record { config = config_sound; fits = λ c. true; rust = fresh; blank = fresh default_config }

abbrev pub made : EkfConfig → Said × Ekf
made c = made_by filter_making c
