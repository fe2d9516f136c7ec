-- The tilt estimator: what a sample leaves while the car stands, when the offset is learned, and the calls. Definitions only.
use Rattle.std.specs.Prelude.{Bool, true, false, not, ◌&&◌, ◌||◌, cond, ltb, Float}
use Rattle.std.specs.Float.Ieee.{lt, le}
use Rattle.std.specs.Float.Ieee.Scale.{finite}
use Rattle.float.specs.Value.{f32, ◌⊕◌, ◌⊖◌, ◌⊗◌, ◌⊘◌, zero32}
use Rattle.float.specs.Root.{root}
use Rattle.float.specs.Count.{counted, count_float}
use Rattle.call.specs.Said.{Reply, Said, done, flag}
use Rattle.call.specs.Port.{Asked, Port, bare, settled_by, Making, made_by}
use Rattle.learner.specs.Ranges.{is_stored, is_count, has_room, takes_step, takes_acceleration, is_parameter}
use Rattle.tilt.specs.Answers.{offsets}
use Rattle.tilt.specs.declared.TiltEstimator.{TiltEstimator}

pub data TiltCall : Type 0 where
  update_stationary : Float → Float → Float → TiltCall
  reset_stationary : TiltCall
  get_offsets : TiltCall

abbrev pub sound : TiltEstimator → Bool
sound s =
    ((is_stored s.accel_x_sum && is_stored s.accel_y_sum) && (is_count s.sample_count && is_stored s.stationary_time)) &&
    (is_stored s.offset_x && is_stored s.offset_y)

-- all zeros and false flags
abbrev pub fresh : Float → TiltEstimator
fresh learn_time =
    record {
      accel_x_sum = zero32;
      accel_y_sum = zero32;
      sample_count = 0;
      stationary_time = zero32;
      offset_x = zero32;
      offset_y = zero32;
      offset_valid = false;
      learn_time = learn_time;
    }

-- by learn_time; a refused making hands back the number with a fresh learner with all parameters 0
abbrev pub tilt_making : Making Float TiltEstimator
tilt_making = record { config = is_parameter; fits = λ learn_time. true; rust = fresh; blank = fresh zero32 }

abbrev pub made : Float → Said × TiltEstimator
made learn_time = made_by tilt_making learn_time

-- ---- update_stationary
-- stationary_time += dt; accel_x_sum += ax_earth; accel_y_sum += ay_earth; sample_count += 1
abbrev pub summed : Float → Float → Float → TiltEstimator → TiltEstimator
summed ax_earth ay_earth dt s =
    record {
      accel_x_sum = s.accel_x_sum ⊕ ax_earth;
      accel_y_sum = s.accel_y_sum ⊕ ay_earth;
      sample_count = counted s.sample_count;
      stationary_time = s.stationary_time ⊕ dt;
      offset_x = s.offset_x;
      offset_y = s.offset_y;
      offset_valid = s.offset_valid;
      learn_time = s.learn_time;
    }

-- at `stationary_time` >= `learn_time` with more than 50 samples, if the change is above 0.05 or none is valid
-- change = ((new_offset_x - offset_x).powi(2) + (new_offset_y - offset_y).powi(2)).sqrt(), where powi(2) is one multiplication
abbrev pub learns : Float → Float → TiltEstimator → Bool
learns new_offset_x new_offset_y s =
    let x = new_offset_x ⊖ s.offset_x in
    let y = new_offset_y ⊖ s.offset_y in
    let change = root (x ⊗ x ⊕ y ⊗ y) in
    (le s.learn_time s.stationary_time && ltb 50 s.sample_count) && (lt (f32 0x3d4c_cccd) change || not s.offset_valid)

-- the offset is replaced, sums and count become 0, and `stationary_time` is kept
abbrev pub taken : Float → Float → TiltEstimator → TiltEstimator
taken new_offset_x new_offset_y s =
    record {
      accel_x_sum = zero32;
      accel_y_sum = zero32;
      sample_count = 0;
      stationary_time = s.stationary_time;
      offset_x = new_offset_x;
      offset_y = new_offset_y;
      offset_valid = true;
      learn_time = s.learn_time;
    }

-- new_offset_x = accel_x_sum / sample_count; new_offset_y likewise
abbrev pub updated : Float → Float → Float → TiltEstimator → Reply × TiltEstimator
updated ax_earth ay_earth dt s =
    let t = summed ax_earth ay_earth dt s in
    let x = t.accel_x_sum ⊘ count_float t.sample_count in
    let y = t.accel_y_sum ⊘ count_float t.sample_count in
    (flag (learns x y t), cond (learns x y t) (taken x y t) t)

-- ---- reset_stationary
abbrev pub resetted : TiltEstimator → TiltEstimator
resetted s =
    record {
      accel_x_sum = zero32;
      accel_y_sum = zero32;
      sample_count = 0;
      stationary_time = zero32;
      offset_x = s.offset_x;
      offset_y = s.offset_y;
      offset_valid = s.offset_valid;
      learn_time = s.learn_time;
    }

-- ---- the calls
abbrev pub asks_tilt : TiltCall → TiltEstimator → Asked TiltEstimator
asks_tilt (update_stationary ax_earth ay_earth dt) s =
    record {
      finite = (finite ax_earth && finite ay_earth) && finite dt;
      in_range = (takes_acceleration ax_earth && takes_acceleration ay_earth) && takes_step dt;
      config = is_parameter s.learn_time;
      room = has_room s.sample_count;
      rust = updated ax_earth ay_earth dt s;
    }
asks_tilt reset_stationary s = bare (is_parameter s.learn_time) (done, resetted s)
asks_tilt get_offsets s = bare (is_parameter s.learn_time) (offsets s.offset_x s.offset_y s.offset_valid, s)

abbrev pub tilt_port : Port TiltCall TiltEstimator
tilt_port = record { sound = sound; asks = asks_tilt }

abbrev pub on_tilt : TiltCall → TiltEstimator → Said × TiltEstimator
on_tilt c s = settled_by tilt_port c s
