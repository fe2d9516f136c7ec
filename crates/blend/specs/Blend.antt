-- The blend: the GPS weight by the confidence, and the value. It stores nothing, so it never gives 4, 5 or 6. Definitions only.
use Rattle.std.specs.Prelude.{Bool, true, false, ◌&&◌, cond, Float, Option, Some, None}
use Rattle.std.specs.Float.Ieee.{lt}
use Rattle.std.specs.Float.Ieee.Scale.{finite}
use Rattle.float.specs.Value.{f32, ◌⊕◌, ◌⊖◌, ◌⊗◌, ◌⊘◌, zero32}
use Rattle.call.specs.Said.{Reply, Said, pair}
use Rattle.call.specs.Port.{Asked, Port, function, asked, said_by}
use Rattle.learner.specs.Ranges.{takes_acceleration}
use Rattle.blend.specs.Ranges.{takes_confidence, is_weight}
use Rattle.blend.specs.declared.Weights.{Weights}

-- a GPS acceleration or none; where there is none a 0 stands, which is finite and in range
abbrev pub is_known : Option Float → Bool
is_known (Some a) = true
is_known None = false

abbrev pub acceleration_of : Option Float → Float
acceleration_of (Some a) = a
acceleration_of None = zero32

abbrev pub weights_in_range : Weights → Bool
weights_in_range w = (is_weight w.gps_weight_high && is_weight w.gps_weight_medium) && is_weight w.gps_weight_low

-- from * (1.0 - t) + to * t
abbrev pub mixed : Float → Float → Float → Float
mixed from to t = from ⊗ (f32 0x3f80_0000 ⊖ t) ⊕ to ⊗ t

-- above 0.8 high; above 0.3 between medium and high, t = (confidence - 0.3) / 0.5; else between low and medium, t = confidence / 0.3
abbrev pub gps_weight : Float → Weights → Float
gps_weight confidence w =
    cond (lt (f32 0x3f4c_cccd) confidence) w.gps_weight_high
    (cond (lt (f32 0x3e99_999a) confidence)
    (mixed w.gps_weight_medium w.gps_weight_high ((confidence ⊖ f32 0x3e99_999a) ⊘ f32 0x3f00_0000))
    (mixed w.gps_weight_low w.gps_weight_medium (confidence ⊘ f32 0x3e99_999a)))

-- (1.0 - gps_weight) * imu + gps_weight * gps
abbrev pub blended : Float → Float → Float → Float
blended imu gps weight = (f32 0x3f80_0000 ⊖ weight) ⊗ imu ⊕ weight ⊗ gps

-- value and weight; without GPS the IMU value and weight 0
abbrev pub blend_reply : Float → Option Float → Float → Weights → Reply
blend_reply imu gps confidence w =
    let weight = gps_weight confidence w in
    pair (cond (is_known gps) (blended imu (acceleration_of gps) weight) imu) (cond (is_known gps) weight zero32)

-- ---- the call
pub record BlendCall : Type 0 where
  pub imu : Float
  pub gps : Option Float
  pub confidence : Float
  -- parameters
  pub weights : Weights

-- arguments and weights are looked at also without GPS
abbrev pub asks_blend : BlendCall → Asked (Unit {0})
asks_blend c =
    let a = acceleration_of c.gps in
    asked ((finite c.imu && finite a) && finite c.confidence) ((takes_acceleration c.imu && takes_acceleration a) && takes_confidence c.confidence) (weights_in_range c.weights)
    (blend_reply c.imu c.gps c.confidence c.weights)

abbrev pub blend_port : Port BlendCall (Unit {0})
blend_port = function asks_blend

abbrev pub blend : Float → Option Float → Float → Weights → Said
blend imu gps confidence w = said_by blend_port (record { imu = imu; gps = gps; confidence = confidence; weights = w })
