-- The heading aligner: what a course and a yaw leave, and the calls. Definitions only.
use Rattle.std.specs.Prelude.{ℕ, Bool, true, false, not, ◌&&◌, ◌||◌, cond, ltb, Float}
use Rattle.std.specs.Float.Ieee.{lt}
use Rattle.std.specs.Float.Ieee.Scale.{finite}
use Rattle.float.specs.Value.{f32, ◌⊕◌, ◌⊗◌, zero32}
use Rattle.float.specs.Wrap.{wrapped, angle_diff}
use Rattle.float.specs.Count.{counted}
use Rattle.call.specs.Said.{Reply, Said, done, value, flag}
use Rattle.call.specs.Port.{Asked, Port, given, bare, settled_by, Making, made_by}
use Rattle.learner.specs.Ranges.{is_stored, is_course, is_count, takes_speed, takes_step, is_alpha, is_parameter}
use Rattle.learner.specs.Course.{entered}
use Rattle.learner.specs.Confidence.{confidence}
use Rattle.aligner.specs.Ranges.{takes_yaw}
use Rattle.aligner.specs.declared.HeadingAligner.{HeadingAligner}

pub data AlignerCall : Type 0 where
  update_gps_course : Float → AlignerCall
  -- ekf_yaw, speed, dt
  update : Float → Float → Float → AlignerCall
  get_aligned_heading : Float → AlignerCall
  is_valid : AlignerCall
  get_offset : AlignerCall
  get_confidence : AlignerCall
  reset : AlignerCall

abbrev pub sound : HeadingAligner → Bool
sound s = (is_course s.offset && is_count s.update_count) && (is_course s.last_gps_course && is_stored s.time_since_gps)

abbrev pub parameters : HeadingAligner → Bool
parameters s = (is_alpha s.alpha && is_parameter s.min_speed) && is_parameter s.max_gps_age

-- all zeros and false flags, but `time_since_gps` is 999.0
abbrev pub fresh : Float → Float → Float → HeadingAligner
fresh alpha min_speed max_gps_age =
    record {
      offset = zero32;
      valid = false;
      update_count = 0;
      alpha = alpha;
      min_speed = min_speed;
      last_gps_course = zero32;
      time_since_gps = f32 0x4479_c000;
      max_gps_age = max_gps_age;
    }

-- by alpha, min_speed and max_gps_age; a refused making hands back the number with a fresh learner with all parameters 0
abbrev fresh_by : Float × Float × Float → HeadingAligner
fresh_by p = fresh p.0 p.1 p.2

abbrev pub aligner_making : Making (Float × Float × Float) HeadingAligner
aligner_making = record { config = λ p. parameters (fresh_by p); fits = λ p. true; rust = fresh_by; blank = fresh zero32 zero32 zero32 }

abbrev pub made : Float → Float → Float → Said × HeadingAligner
made alpha min_speed max_gps_age = made_by aligner_making (alpha, min_speed, max_gps_age)

-- last_gps_course = gps_course; time_since_gps = 0.0
abbrev pub headed : Float → HeadingAligner → HeadingAligner
headed gps_course s =
    record {
      offset = s.offset;
      valid = s.valid;
      update_count = s.update_count;
      alpha = s.alpha;
      min_speed = s.min_speed;
      last_gps_course = gps_course;
      time_since_gps = zero32;
      max_gps_age = s.max_gps_age;
    }

-- ---- update
-- time_since_gps += dt
abbrev pub aged : Float → HeadingAligner → HeadingAligner
aged dt s =
    record {
      offset = s.offset;
      valid = s.valid;
      update_count = s.update_count;
      alpha = s.alpha;
      min_speed = s.min_speed;
      last_gps_course = s.last_gps_course;
      time_since_gps = s.time_since_gps ⊕ dt;
      max_gps_age = s.max_gps_age;
    }

abbrev pub with_offset : Float → ℕ → HeadingAligner → HeadingAligner
with_offset offset n s =
    record {
      offset = offset;
      valid = true;
      update_count = n;
      alpha = s.alpha;
      min_speed = s.min_speed;
      last_gps_course = s.last_gps_course;
      time_since_gps = s.time_since_gps;
      max_gps_age = s.max_gps_age;
    }

-- the first offset is taken as it is
abbrev pub first : Float → HeadingAligner → HeadingAligner
first new_offset s = with_offset new_offset 1 s

-- `alpha` while `update_count` < 50, then 0.02
abbrev pub effective_alpha : Float → ℕ → Float
effective_alpha alpha n = cond (ltb n 50) alpha (f32 0x3ca3_d70a)

-- innovation = angle_diff(new_offset, offset); offset = wrap_angle(offset + effective_alpha * innovation); the count stops at 16,777,216
abbrev pub later : Float → HeadingAligner → HeadingAligner
later new_offset s =
    record {
      offset = wrapped (s.offset ⊕ effective_alpha s.alpha s.update_count ⊗ angle_diff new_offset s.offset);
      valid = s.valid;
      update_count = counted s.update_count;
      alpha = s.alpha;
      min_speed = s.min_speed;
      last_gps_course = s.last_gps_course;
      time_since_gps = s.time_since_gps;
      max_gps_age = s.max_gps_age;
    }

-- speed < min_speed || time_since_gps > max_gps_age
abbrev pub idle : Float → HeadingAligner → Bool
idle speed s = lt speed s.min_speed || lt s.max_gps_age s.time_since_gps

-- new_offset = angle_diff(last_gps_course, ekf_yaw); true if the offset was updated
abbrev pub updated : Float → Float → Float → HeadingAligner → Reply × HeadingAligner
updated ekf_yaw speed dt s =
    let t = aged dt s in
    let new_offset = angle_diff t.last_gps_course ekf_yaw in
    (flag (not (idle speed t)), cond (idle speed t) t (cond t.valid (later new_offset t) (first new_offset t)))

-- ---- the others
-- wrap_angle(ekf_yaw + offset), or ekf_yaw while the offset is not valid
abbrev pub aligned : Float → HeadingAligner → Float
aligned ekf_yaw s = cond s.valid (wrapped (ekf_yaw ⊕ s.offset)) ekf_yaw

-- the offset is forgotten; `last_gps_course` is kept
abbrev pub resetted : HeadingAligner → HeadingAligner
resetted s =
    record {
      offset = zero32;
      valid = false;
      update_count = 0;
      alpha = s.alpha;
      min_speed = s.min_speed;
      last_gps_course = s.last_gps_course;
      time_since_gps = f32 0x4479_c000;
      max_gps_age = s.max_gps_age;
    }

-- ---- the calls
-- `update_count` is no sample count: it stands still at its stop
abbrev pub asks_aligner : AlignerCall → HeadingAligner → Asked HeadingAligner
asks_aligner (update_gps_course gps_course) s = entered (parameters s) (λ course. headed course s) gps_course
asks_aligner (update ekf_yaw speed dt) s =
    given ((finite ekf_yaw && finite speed) && finite dt) ((takes_yaw ekf_yaw && takes_speed speed) && takes_step dt) (parameters s) (updated ekf_yaw speed dt s)
asks_aligner (get_aligned_heading ekf_yaw) s = given (finite ekf_yaw) (takes_yaw ekf_yaw) (parameters s) (value (aligned ekf_yaw s), s)
asks_aligner is_valid s = bare (parameters s) (flag s.valid, s)
asks_aligner get_offset s = bare (parameters s) (value s.offset, s)
asks_aligner get_confidence s = bare (parameters s) (value (confidence s.update_count), s)
asks_aligner reset s = bare (parameters s) (done, resetted s)

abbrev pub aligner_port : Port AlignerCall HeadingAligner
aligner_port = record { sound = sound; asks = asks_aligner }

abbrev pub on_aligner : AlignerCall → HeadingAligner → Said × HeadingAligner
on_aligner c s = settled_by aligner_port c s
