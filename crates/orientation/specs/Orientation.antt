-- The orientation corrector: pitch, roll and cruise learning, and the calls. Definitions only.
use Rattle.std.specs.Prelude.{Bool, true, not, ◌&&◌, ◌||◌, cond, ltb, Float}
use Rattle.std.specs.Float.Ieee.{lt, le, neg}
use Rattle.std.specs.Float.Ieee.Scale.{finite}
use Rattle.float.specs.Value.{f32, ◌⊕◌, ◌⊖◌, ◌⊗◌, ◌⊘◌, zero32}
use Rattle.float.specs.Count.{counted, count_float}
use Rattle.call.specs.Said.{Said, done, value}
use Rattle.call.specs.Port.{Asked, Port, bare, settled_by, Making, made_by}
use Rattle.learner.specs.Ranges.{is_stored, is_count, has_room, takes_speed, takes_step, takes_acceleration, is_alpha, is_parameter}
use Rattle.learner.specs.Confidence.{confidence}
use Rattle.orientation.specs.declared.OrientationCorrector.{OrientationCorrector}

pub data OrientationCall : Type 0 where
  -- lon_imu, lon_gps, lat_imu, lat_gps, speed, is_gps_fresh, dt
  update : Float → Float → Float → Float → Float → Bool → Float → OrientationCall
  reset : OrientationCall
  get_cruise_bias : OrientationCall
  get_pitch_correction_deg : OrientationCall
  get_roll_correction_deg : OrientationCall
  get_pitch_confidence : OrientationCall
  get_roll_confidence : OrientationCall

abbrev pub sound : OrientationCorrector → Bool
sound s =
    ((is_stored s.pitch_correction && is_stored s.roll_correction) && (is_stored s.pitch_confidence && is_stored s.roll_confidence)) &&
    (((is_stored s.cruise_bias && is_stored s.cruise_bias_sum) && (is_count s.cruise_bias_count && is_stored s.cruise_time)) && is_count s.update_count)

abbrev pub parameters : OrientationCorrector → Bool
parameters s = (is_alpha s.alpha && is_parameter s.min_speed) && (is_parameter s.min_accel && is_parameter s.max_correction)

-- all zeros
abbrev pub fresh : Float → Float → Float → Float → OrientationCorrector
fresh alpha min_speed min_accel max_correction =
    record {
      pitch_correction = zero32;
      roll_correction = zero32;
      pitch_confidence = zero32;
      roll_confidence = zero32;
      cruise_bias = zero32;
      cruise_bias_sum = zero32;
      cruise_bias_count = 0;
      cruise_time = zero32;
      alpha = alpha;
      min_speed = min_speed;
      min_accel = min_accel;
      max_correction = max_correction;
      update_count = 0;
    }

-- by alpha, min_speed, min_accel and max_correction; a refused making hands back the number with a fresh learner with all parameters 0
abbrev fresh_by : Float × Float × Float × Float → OrientationCorrector
fresh_by p = fresh p.0 p.1 p.2 p.3

abbrev pub orientation_making : Making (Float × Float × Float × Float) OrientationCorrector
orientation_making = record { config = λ p. parameters (fresh_by p); fits = λ p. true; rust = fresh_by; blank = fresh zero32 zero32 zero32 zero32 }

abbrev pub made : Float → Float → Float → Float → Said × OrientationCorrector
made alpha min_speed min_accel max_correction = made_by orientation_making (alpha, min_speed, min_accel, max_correction)

-- ---- the parts of `update`
-- v.clamp(low, high): below `low` it is `low`, and then above `high` it is `high`
abbrev pub not_below : Float → Float → Float
not_below low v = cond (lt v low) low v

abbrev pub not_above : Float → Float → Float
not_above high v = cond (lt high v) high v

abbrev pub clamped : Float → Float → Float → Float
clamped low high v = not_above high (not_below low v)

-- v.abs() > limit
abbrev pub exceeds : Float → Float → Bool
exceeds v limit = lt limit v || lt v (neg limit)

-- (1.0 - alpha) * old + alpha * innovation with innovation = error / G, clamped
abbrev pub corrected : Float → Float → Float → Float → Float
corrected alpha max_correction old error =
    clamped (neg max_correction) max_correction ((f32 0x3f80_0000 ⊖ alpha) ⊗ old ⊕ alpha ⊗ (error ⊘ f32 0x411c_e80a))

-- cruise_time = 0.0; cruise_bias_sum = 0.0; cruise_bias_count = 0
abbrev pub halted : OrientationCorrector → OrientationCorrector
halted s =
    record {
      pitch_correction = s.pitch_correction;
      roll_correction = s.roll_correction;
      pitch_confidence = s.pitch_confidence;
      roll_confidence = s.roll_confidence;
      cruise_bias = s.cruise_bias;
      cruise_bias_sum = zero32;
      cruise_bias_count = 0;
      cruise_time = zero32;
      alpha = s.alpha;
      min_speed = s.min_speed;
      min_accel = s.min_accel;
      max_correction = s.max_correction;
      update_count = s.update_count;
    }

-- the pitch correction is learned, its count is raised, and the cruise accumulator is reset
abbrev pub pitched : Float → OrientationCorrector → OrientationCorrector
pitched lon_error s =
    record {
      pitch_correction = corrected s.alpha s.max_correction s.pitch_correction lon_error;
      roll_correction = s.roll_correction;
      pitch_confidence = confidence (counted s.update_count);
      roll_confidence = s.roll_confidence;
      cruise_bias = s.cruise_bias;
      cruise_bias_sum = zero32;
      cruise_bias_count = 0;
      cruise_time = zero32;
      alpha = s.alpha;
      min_speed = s.min_speed;
      min_accel = s.min_accel;
      max_correction = s.max_correction;
      update_count = counted s.update_count;
    }

-- cruise_time += dt; cruise_bias_sum += lon_imu_corrected; cruise_bias_count += 1
abbrev pub sampled : Float → Float → OrientationCorrector → OrientationCorrector
sampled lon_imu_corrected dt s =
    record {
      pitch_correction = s.pitch_correction;
      roll_correction = s.roll_correction;
      pitch_confidence = s.pitch_confidence;
      roll_confidence = s.roll_confidence;
      cruise_bias = s.cruise_bias;
      cruise_bias_sum = s.cruise_bias_sum ⊕ lon_imu_corrected;
      cruise_bias_count = counted s.cruise_bias_count;
      cruise_time = s.cruise_time ⊕ dt;
      alpha = s.alpha;
      min_speed = s.min_speed;
      min_accel = s.min_accel;
      max_correction = s.max_correction;
      update_count = s.update_count;
    }

abbrev pub biased : Float → OrientationCorrector → OrientationCorrector
biased bias s =
    record {
      pitch_correction = s.pitch_correction;
      roll_correction = s.roll_correction;
      pitch_confidence = s.pitch_confidence;
      roll_confidence = s.roll_confidence;
      cruise_bias = bias;
      cruise_bias_sum = s.cruise_bias_sum;
      cruise_bias_count = s.cruise_bias_count;
      cruise_time = s.cruise_time;
      alpha = s.alpha;
      min_speed = s.min_speed;
      min_accel = s.min_accel;
      max_correction = s.max_correction;
      update_count = s.update_count;
    }

-- 0.9 * cruise_bias + 0.1 * measured_bias with measured_bias = cruise_bias_sum / cruise_bias_count, clamped to 1.5 in size
abbrev pub measured : OrientationCorrector → Float
measured s =
    clamped (neg (f32 0x3fc0_0000)) (f32 0x3fc0_0000)
    (f32 0x3f66_6666 ⊗ s.cruise_bias ⊕ f32 0x3dcc_cccd ⊗ (s.cruise_bias_sum ⊘ count_float s.cruise_bias_count))

-- at cruise_time >= 2.0 with more than 30 samples the bias is learned and the accumulator is reset
abbrev pub cruised : Float → Float → OrientationCorrector → OrientationCorrector
cruised lon_imu_corrected dt s =
    let t = sampled lon_imu_corrected dt s in
    cond (le (f32 0x4000_0000) t.cruise_time && ltb 30 t.cruise_bias_count) (halted (biased (measured t) t)) t

-- the roll correction is learned; its confidence uses the count that only pitch learning raises
abbrev pub rolled : Float → OrientationCorrector → OrientationCorrector
rolled lat_error s =
    record {
      pitch_correction = s.pitch_correction;
      roll_correction = corrected s.alpha s.max_correction s.roll_correction lat_error;
      pitch_confidence = s.pitch_confidence;
      roll_confidence = confidence s.update_count;
      cruise_bias = s.cruise_bias;
      cruise_bias_sum = s.cruise_bias_sum;
      cruise_bias_count = s.cruise_bias_count;
      cruise_time = s.cruise_time;
      alpha = s.alpha;
      min_speed = s.min_speed;
      min_accel = s.min_accel;
      max_correction = s.max_correction;
      update_count = s.update_count;
    }

-- speed < min_speed || !is_gps_fresh
abbrev pub idle : Float → Bool → OrientationCorrector → Bool
idle speed is_gps_fresh s = lt speed s.min_speed || not is_gps_fresh

-- while idle the cruise accumulator is reset; else first pitch or cruise, then roll
-- lon_imu_corrected = lon_imu - cruise_bias; lon_error = lon_imu_corrected - lon_gps
unfoldable pub updated : Bool → Bool → Bool → Float → Float → Float → Float → OrientationCorrector → OrientationCorrector
updated idle accelerating cornering lon_imu lon_gps lat_error dt s =
    let lon_imu_corrected = lon_imu ⊖ s.cruise_bias in
    let t = cond accelerating (pitched (lon_imu_corrected ⊖ lon_gps) s) (cruised lon_imu_corrected dt s) in
    cond idle (halted s) (cond cornering (rolled lat_error t) t)

-- ---- the calls
-- four accelerations, a speed and a time step: finite, and in their ranges
abbrev pub is_sample : Float → Float → Float → Float → Float → Float → Bool
is_sample lon_imu lon_gps lat_imu lat_gps speed dt = ((finite lon_imu && finite lon_gps) && (finite lat_imu && finite lat_gps)) && (finite speed && finite dt)

abbrev pub takes_sample : Float → Float → Float → Float → Float → Float → Bool
takes_sample lon_imu lon_gps lat_imu lat_gps speed dt =
    ((takes_acceleration lon_imu && takes_acceleration lon_gps) && (takes_acceleration lat_imu && takes_acceleration lat_gps)) && (takes_speed speed && takes_step dt)

-- to_degrees
abbrev pub degrees : Float → Float
degrees v = v ⊗ f32 0x4265_2ee1

-- the cruise count is raised while neither idle nor accelerating
abbrev pub asks_orientation : OrientationCall → OrientationCorrector → Asked OrientationCorrector
asks_orientation (update lon_imu lon_gps lat_imu lat_gps speed is_gps_fresh dt) s =
    let still = idle speed is_gps_fresh s in
    let accelerating = exceeds lon_gps s.min_accel in
    let cornering = exceeds lat_gps s.min_accel in
    record {
      finite = is_sample lon_imu lon_gps lat_imu lat_gps speed dt;
      in_range = takes_sample lon_imu lon_gps lat_imu lat_gps speed dt;
      config = parameters s;
      room = (still || accelerating) || has_room s.cruise_bias_count;
      rust = (done, updated still accelerating cornering lon_imu lon_gps (lat_imu ⊖ lat_gps) dt s);
    }
asks_orientation reset s = bare (parameters s) (done, fresh s.alpha s.min_speed s.min_accel s.max_correction)
asks_orientation get_cruise_bias s = bare (parameters s) (value s.cruise_bias, s)
asks_orientation get_pitch_correction_deg s = bare (parameters s) (value (degrees s.pitch_correction), s)
asks_orientation get_roll_correction_deg s = bare (parameters s) (value (degrees s.roll_correction), s)
asks_orientation get_pitch_confidence s = bare (parameters s) (value s.pitch_confidence, s)
asks_orientation get_roll_confidence s = bare (parameters s) (value s.roll_confidence, s)

abbrev pub orientation_port : Port OrientationCall OrientationCorrector
orientation_port = record { sound = sound; asks = asks_orientation }

abbrev pub on_orientation : OrientationCall → OrientationCorrector → Said × OrientationCorrector
on_orientation c s = settled_by orientation_port c s
