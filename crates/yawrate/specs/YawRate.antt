-- The yaw rate calibrator: what a heading and a yaw rate leave, when the bias is learned, and the calls. Definitions only.
use Rattle.std.specs.Prelude.{Bool, true, false, not, ◌&&◌, ◌||◌, cond, ltb, replicate, Float}
use Rattle.std.specs.Float.Ieee.{lt, le}
use Rattle.std.specs.Float.Ieee.Scale.{finite}
use Rattle.float.specs.Value.{f32, ◌⊕◌, ◌⊖◌, ◌⊗◌, ◌⊘◌, zero32}
use Rattle.float.specs.Count.{raised, counted, count_float}
use Rattle.call.specs.Said.{Reply, Said, value, flag}
use Rattle.call.specs.Port.{Asked, Port, bare, settled_by, Making, made_by}
use Rattle.learner.specs.Ranges.{is_stored, is_count, has_room, takes_speed, takes_step, is_alpha, is_parameter}
use Rattle.learner.specs.Course.{entered}
use Rattle.yawrate.specs.Ranges.{is_index, is_ring_count, takes_yaw_rate}
use Rattle.yawrate.specs.Ring.{ring_sound, put, next_slot, stable}
use Rattle.yawrate.specs.declared.YawRateCalibrator.{YawRateCalibrator}

pub data YawRateCall : Type 0 where
  update_heading : Float → YawRateCall
  -- yaw_rate, speed, dt
  update : Float → Float → Float → YawRateCall
  get_bias : YawRateCall
  is_valid : YawRateCall

-- every stored number, all 20 slots of the ring included
abbrev pub sound : YawRateCalibrator → Bool
sound s =
    ((is_stored s.bias && ring_sound s.heading_history) && (is_index s.heading_idx && is_ring_count s.heading_count)) &&
    ((is_stored s.straight_time && is_stored s.yaw_sum) && is_count s.sample_count)

abbrev pub parameters : YawRateCalibrator → Bool
parameters s = (is_parameter s.min_speed && is_parameter s.heading_tolerance) && (is_parameter s.learn_time && is_alpha s.alpha)

-- all zeros and false flags
abbrev pub fresh : Float → Float → Float → Float → YawRateCalibrator
fresh min_speed heading_tolerance learn_time alpha =
    record {
      bias = zero32;
      valid = false;
      heading_history = replicate 20 zero32;
      heading_idx = 0;
      heading_count = 0;
      straight_time = zero32;
      yaw_sum = zero32;
      sample_count = 0;
      min_speed = min_speed;
      heading_tolerance = heading_tolerance;
      learn_time = learn_time;
      alpha = alpha;
    }

-- by min_speed, heading_tolerance, learn_time and alpha; a refused making hands back the number with a fresh learner with all parameters 0
abbrev fresh_by : Float × Float × Float × Float → YawRateCalibrator
fresh_by p = fresh p.0 p.1 p.2 p.3

abbrev pub yaw_rate_making : Making (Float × Float × Float × Float) YawRateCalibrator
yaw_rate_making = record { config = λ p. parameters (fresh_by p); fits = λ p. true; rust = fresh_by; blank = fresh zero32 zero32 zero32 zero32 }

abbrev pub made : Float → Float → Float → Float → Said × YawRateCalibrator
made min_speed heading_tolerance learn_time alpha = made_by yaw_rate_making (min_speed, heading_tolerance, learn_time, alpha)

-- ---- update_heading: the heading enters the ring, whose count stops at 20
abbrev pub headed : Float → YawRateCalibrator → YawRateCalibrator
headed heading s =
    record {
      bias = s.bias;
      valid = s.valid;
      heading_history = put s.heading_idx heading s.heading_history;
      heading_idx = next_slot s.heading_idx;
      heading_count = raised 20 s.heading_count;
      straight_time = s.straight_time;
      yaw_sum = s.yaw_sum;
      sample_count = s.sample_count;
      min_speed = s.min_speed;
      heading_tolerance = s.heading_tolerance;
      learn_time = s.learn_time;
      alpha = s.alpha;
    }

-- ---- update
-- not: speed < min_speed || heading_count < 10; and is_heading_stable()
unfoldable pub straight : Float → YawRateCalibrator → Bool
straight speed s = cond (lt speed s.min_speed || ltb s.heading_count 10) false (stable s.heading_history s.heading_count s.heading_tolerance)

-- reset_accumulator()
abbrev pub halted : YawRateCalibrator → YawRateCalibrator
halted s =
    record {
      bias = s.bias;
      valid = s.valid;
      heading_history = s.heading_history;
      heading_idx = s.heading_idx;
      heading_count = s.heading_count;
      straight_time = zero32;
      yaw_sum = zero32;
      sample_count = 0;
      min_speed = s.min_speed;
      heading_tolerance = s.heading_tolerance;
      learn_time = s.learn_time;
      alpha = s.alpha;
    }

-- straight_time += dt; yaw_sum += yaw_rate; sample_count += 1
abbrev pub sampled : Float → Float → YawRateCalibrator → YawRateCalibrator
sampled yaw_rate dt s =
    record {
      bias = s.bias;
      valid = s.valid;
      heading_history = s.heading_history;
      heading_idx = s.heading_idx;
      heading_count = s.heading_count;
      straight_time = s.straight_time ⊕ dt;
      yaw_sum = s.yaw_sum ⊕ yaw_rate;
      sample_count = counted s.sample_count;
      min_speed = s.min_speed;
      heading_tolerance = s.heading_tolerance;
      learn_time = s.learn_time;
      alpha = s.alpha;
    }

-- measured_bias = yaw_sum / sample_count; while valid (1.0 - alpha) * bias + alpha * measured_bias, else the measured one
abbrev pub measured : YawRateCalibrator → Float
measured s =
    let measured_bias = s.yaw_sum ⊘ count_float s.sample_count in
    cond s.valid ((f32 0x3f80_0000 ⊖ s.alpha) ⊗ s.bias ⊕ s.alpha ⊗ measured_bias) measured_bias

abbrev pub learned : YawRateCalibrator → YawRateCalibrator
learned s =
    record {
      bias = measured s;
      valid = true;
      heading_history = s.heading_history;
      heading_idx = s.heading_idx;
      heading_count = s.heading_count;
      straight_time = zero32;
      yaw_sum = zero32;
      sample_count = 0;
      min_speed = s.min_speed;
      heading_tolerance = s.heading_tolerance;
      learn_time = s.learn_time;
      alpha = s.alpha;
    }

-- straight_time >= learn_time && sample_count > 50
abbrev pub learns : YawRateCalibrator → Bool
learns s = le s.learn_time s.straight_time && ltb 50 s.sample_count

-- true if the bias was updated
unfoldable pub updated : Bool → Float → Float → YawRateCalibrator → Reply × YawRateCalibrator
updated straight yaw_rate dt s =
    let t = sampled yaw_rate dt s in
    (flag (straight && learns t), cond straight (cond (learns t) (learned t) t) (halted s))

-- ---- the calls
-- the count is raised on a straight only
abbrev pub asks_yaw_rate : YawRateCall → YawRateCalibrator → Asked YawRateCalibrator
asks_yaw_rate (update_heading heading) s = entered (parameters s) (λ course. headed course s) heading
asks_yaw_rate (update yaw_rate speed dt) s =
    record {
      finite = (finite yaw_rate && finite speed) && finite dt;
      in_range = (takes_yaw_rate yaw_rate && takes_speed speed) && takes_step dt;
      config = parameters s;
      room = not (straight speed s) || has_room s.sample_count;
      rust = updated (straight speed s) yaw_rate dt s;
    }
asks_yaw_rate get_bias s = bare (parameters s) (value s.bias, s)
asks_yaw_rate is_valid s = bare (parameters s) (flag s.valid, s)

abbrev pub yaw_rate_port : Port YawRateCall YawRateCalibrator
yaw_rate_port = record { sound = sound; asks = asks_yaw_rate }

abbrev pub on_yaw_rate : YawRateCall → YawRateCalibrator → Said × YawRateCalibrator
on_yaw_rate c s = settled_by yaw_rate_port c s
