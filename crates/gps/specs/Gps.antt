-- GPS acceleration: the interval of two fixes, what a fix, a count of fixes and time leave, and the calls. Definitions only.
-- Times are whole milliseconds in 64 bits (document 02, C-13), and any 64 bits are one: no time is refused or unsound by itself.
use Rattle.std.specs.Prelude.{ℕ, ◌-◌, Bool, true, false, not, ◌&&◌, ◌||◌, cond, leb, ltb, Float}
use Rattle.std.specs.Float.Ieee.{lt}
use Rattle.std.specs.Float.Ieee.Scale.{finite}
use Rattle.float.specs.Value.{f32, ◌⊕◌, ◌⊖◌, ◌⊗◌, ◌⊘◌, zero32}
use Rattle.float.specs.Count.{count_stop, count_float}
use Rattle.call.specs.Said.{Reply, Said, done, nothing, value}
use Rattle.call.specs.Port.{Asked, Port, given, bare, settled_by}
use Rattle.learner.specs.Ranges.{is_stored, takes_speed, takes_step}
use Rattle.gps.specs.declared.GpsAcceleration.{GpsAcceleration}

pub data GpsCall : Type 0 where
  update : Float → ℕ → GpsCall
  update_rate : ℕ → ℕ → GpsCall
  advance_time : Float → GpsCall
  get_rate : GpsCall

-- every stored float; `last_fix_count` and the times are free
abbrev pub sound : GpsAcceleration → Bool
sound s = (is_stored s.prev_speed && is_stored s.accel_lon) && (is_stored s.gps_rate && (is_stored s.time_since_fix && is_stored s.rate_ema))

-- all zeros and false flags
abbrev pub fresh : GpsAcceleration
fresh =
    record {
      prev_speed = zero32;
      prev_time = 0;
      has_prev_fix = false;
      accel_lon = zero32;
      valid = false;
      gps_rate = zero32;
      time_since_fix = zero32;
      rate_ema = zero32;
      last_fix_count = 0;
      last_rate_time = 0;
      has_last_rate = false;
    }

-- ---- the interval of two fixes
-- the whole difference; a clock that goes back or stands still has none
abbrev pub interval : ℕ → ℕ → ℕ
interval last now = now - last

-- the divisor: the difference as f32 over 1000.0
abbrev pub seconds : ℕ → Float
seconds d = count_float d ⊘ f32 0x447a_0000

-- there is a previous fix, and the interval lies strictly between 20 and 500
abbrev pub usable : Bool → ℕ → Bool
usable has_prev d = has_prev && (ltb 20 d && ltb d 500)

-- there is a previous count, and the interval is 1,000 or more
abbrev pub acts : Bool → ℕ → Bool
acts has_last d = has_last && leb 1000 d

-- ---- update
-- accel_lon = (speed - prev_speed) / dt
abbrev pub acceleration : Float → ℕ → GpsAcceleration → Float
acceleration speed time s = (speed ⊖ s.prev_speed) ⊘ seconds (interval s.prev_time time)

-- speed and time are replaced in every answered call, and are those of a previous fix from then on; the acceleration and its flag become a and v
abbrev pub fixed : Float → ℕ → Float → Bool → GpsAcceleration → GpsAcceleration
fixed speed time a v s =
    record {
      prev_speed = speed;
      prev_time = time;
      has_prev_fix = true;
      accel_lon = a;
      valid = v;
      gps_rate = s.gps_rate;
      time_since_fix = zero32;
      rate_ema = s.rate_ema;
      last_fix_count = s.last_fix_count;
      last_rate_time = s.last_rate_time;
      has_last_rate = s.has_last_rate;
    }

-- either an acceleration or nothing
abbrev pub updated : Float → ℕ → GpsAcceleration → Reply × GpsAcceleration
updated speed time s =
    let a = acceleration speed time s in
    cond (usable s.has_prev_fix (interval s.prev_time time)) (value a, fixed speed time a true s) (nothing, fixed speed time s.accel_lon s.valid s)

-- ---- update_rate
-- instant_rate = fixes / dt, where the difference of the counts stops at 0 from below; rate_ema = 0.3 * instant_rate + 0.7 * rate_ema
abbrev pub smoothed : ℕ → ℕ → GpsAcceleration → Float
smoothed n time s =
    let instant_rate = count_float (n - s.last_fix_count) ⊘ seconds (interval s.last_rate_time time) in
    f32 0x3e99_999a ⊗ instant_rate ⊕ f32 0x3f33_3333 ⊗ s.rate_ema

-- count and time are replaced, and are those of a previous count from then on; the rate and its mean become r and m
abbrev pub with_rate : ℕ → ℕ → Float → Float → GpsAcceleration → GpsAcceleration
with_rate n time r m s =
    record {
      prev_speed = s.prev_speed;
      prev_time = s.prev_time;
      has_prev_fix = s.has_prev_fix;
      accel_lon = s.accel_lon;
      valid = s.valid;
      gps_rate = r;
      time_since_fix = s.time_since_fix;
      rate_ema = m;
      last_fix_count = n;
      last_rate_time = time;
      has_last_rate = true;
    }

-- a first count is kept, whatever its time; a later one changes nothing before the interval acts
abbrev pub rated : ℕ → ℕ → GpsAcceleration → GpsAcceleration
rated n time s =
    let m = smoothed n time s in
    cond (acts s.has_last_rate (interval s.last_rate_time time)) (with_rate n time m m s) (cond s.has_last_rate s (with_rate n time s.gps_rate s.rate_ema s))

-- where it acts, a difference of the times above 16,777,216 is out of range, and so is one of the counts
abbrev pub takes_count : ℕ → ℕ → GpsAcceleration → Bool
takes_count n time s =
    let d = interval s.last_rate_time time in
    not (acts s.has_last_rate d) || (leb d count_stop && leb (n - s.last_fix_count) count_stop)

-- ---- advance_time
-- time_since_fix += dt; above 0.5 the acceleration is no longer valid
abbrev pub advanced : Float → GpsAcceleration → GpsAcceleration
advanced dt s =
    let t = s.time_since_fix ⊕ dt in
    record {
      prev_speed = s.prev_speed;
      prev_time = s.prev_time;
      has_prev_fix = s.has_prev_fix;
      accel_lon = s.accel_lon;
      valid = s.valid && not (lt (f32 0x3f00_0000) t);
      gps_rate = s.gps_rate;
      time_since_fix = t;
      rate_ema = s.rate_ema;
      last_fix_count = s.last_fix_count;
      last_rate_time = s.last_rate_time;
      has_last_rate = s.has_last_rate;
    }

-- ---- the calls
-- a call looks at no parameter and raises no sample count
abbrev pub asks_gps : GpsCall → GpsAcceleration → Asked GpsAcceleration
asks_gps (update speed time) s = given (finite speed) (takes_speed speed) true (updated speed time s)
asks_gps (update_rate n time) s = given true (takes_count n time s) true (done, rated n time s)
asks_gps (advance_time dt) s = given (finite dt) (takes_step dt) true (done, advanced dt s)
asks_gps get_rate s = bare true (value s.gps_rate, s)

abbrev pub gps_port : Port GpsCall GpsAcceleration
gps_port = record { sound = sound; asks = asks_gps }

abbrev pub on_gps : GpsCall → GpsAcceleration → Said × GpsAcceleration
on_gps c s = settled_by gps_port c s
