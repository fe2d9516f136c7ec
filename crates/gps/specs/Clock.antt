-- What a clock of whole milliseconds gives (document 02, C-13): an interval is divided by its exact seconds, rounded once, and every call answers the same whatever the clock's age. Assumes nothing.
use Rattle.std.specs.Prelude.{ℕ, ◌+◌, ◌≤◌, ◌≡◌, refl, Bool, true, false, ◌&&◌, cond, T, leb, ltb, Float}
use Rattle.std.proofs.Common.{ap, ◌∙◌, mul-one, arith, lit<}
use Rattle.std.specs.Float.{binary32}
use Rattle.std.specs.Float.Ieee.{of_bits, round}
use Rattle.std.specs.Float.Ieee.Exact.{HasValue}
use Rattle.std.specs.Float.Ieee.Positive.{positive}
use Rattle.float.specs.Value.{f32}
use Rattle.float.specs.Count.{count_float}
use Rattle.float.specs.CountLaws.{count_exact}
use Rattle.float.specs.Bounds.{div_at}
use Rattle.call.specs.Said.{Reply, value, nothing}
use Rattle.call.specs.Port.{inside}
use Rattle.call.specs.PortLaws.{along, goes_along}
use Rattle.gps.specs.Gps.{GpsCall, update, update_rate, advance_time, get_rate, interval, seconds, acceleration, fixed, updated, with_rate, smoothed, rated, takes_count, asks_gps, gps_port, on_gps}
use Rattle.gps.specs.declared.GpsAcceleration.{GpsAcceleration}

-- ---- the divisor
thousand_is : T (positive (f32 0x447a_0000)) × HasValue (f32 0x447a_0000) false 1000 1
unfolding of_bits
thousand_is = (tt, (refl, refl))

-- the f32 nearest to d / 1000, for every interval that an answered call divides by
pub seconds_nearest : (d : ℕ) → d ≤ 16777216 → seconds d ≡ round binary32 false d 1000
seconds_nearest d h =
    div_at binary32 (count_float d) (f32 0x447a_0000) d 1 1000 1 (lit< tt) (lit< tt) (count_exact d h) thousand_is.0 thousand_is.1
    ∙ ap (λ (n : ℕ). round binary32 false n 1000) (mul-one d)

-- ---- the clock's age
-- the same record by a clock that began k milliseconds earlier: a time that stands for a fix or a count is k more
abbrev moved : Bool → ℕ → ℕ → ℕ
moved known k time = cond known (time + k) time

abbrev pub later : ℕ → GpsAcceleration → GpsAcceleration
later k s =
    record {
      prev_speed = s.prev_speed;
      prev_time = moved s.has_prev_fix k s.prev_time;
      has_prev_fix = s.has_prev_fix;
      accel_lon = s.accel_lon;
      valid = s.valid;
      gps_rate = s.gps_rate;
      time_since_fix = s.time_since_fix;
      rate_ema = s.rate_ema;
      last_fix_count = s.last_fix_count;
      last_rate_time = moved s.has_last_rate k s.last_rate_time;
      has_last_rate = s.has_last_rate;
    }

-- the same call by that clock
abbrev pub later_call : ℕ → GpsCall → GpsCall
later_call k (update speed time) = update speed (time + k)
later_call k (update_rate n time) = update_rate n (time + k)
later_call k (advance_time dt) = advance_time dt
later_call k get_rate = get_rate

module _ (k : ℕ) where
  same_interval : (last now : ℕ) → interval (last + k) (now + k) ≡ interval last now
  same_interval last now = omega arith

  either_later : (b : Bool) (x y : Reply × GpsAcceleration) → ◌≡◌ {A = Reply × GpsAcceleration} (cond b (x.0, later k x.1) (y.0, later k y.1)) ((cond b x y).0, later k (cond b x y).1)
  either_later true x y = refl
  either_later false x y = refl

  updated_later : (speed : Float) (time : ℕ) (s : GpsAcceleration) → updated speed (time + k) (later k s) ≡ ((updated speed time s).0, later k (updated speed time s).1)
  updated_later speed time s = go s.has_prev_fix refl
    where
      d : ℕ
      d = interval s.prev_time time

      a : Float
      a = acceleration speed time s

      go : (p : Bool) → s.has_prev_fix ≡ p → updated speed (time + k) (later k s) ≡ ((updated speed time s).0, later k (updated speed time s).1)
      go true e = rw (e, same_interval s.prev_time time) (either_later (ltb 20 d && ltb d 500) (value a, fixed speed time a true s) (nothing, fixed speed time s.accel_lon s.valid s))
      go false e = rw e refl

  acting_later : (b : Bool) (x y : GpsAcceleration) → cond b (later k x) (later k y) ≡ later k (cond b x y)
  acting_later true x y = refl
  acting_later false x y = refl

  -- what a count of fixes leaves, and whether it is taken
  rated_later : (n time : ℕ) (s : GpsAcceleration) → (rated n (time + k) (later k s) ≡ later k (rated n time s)) × (takes_count n (time + k) (later k s) ≡ takes_count n time s)
  rated_later n time s = go s.has_last_rate
    where
      d : ℕ
      d = interval s.last_rate_time time

      known : Bool → GpsAcceleration
      known q =
          record {
            prev_speed = s.prev_speed;
            prev_time = s.prev_time;
            has_prev_fix = s.has_prev_fix;
            accel_lon = s.accel_lon;
            valid = s.valid;
            gps_rate = s.gps_rate;
            time_since_fix = s.time_since_fix;
            rate_ema = s.rate_ema;
            last_fix_count = s.last_fix_count;
            last_rate_time = s.last_rate_time;
            has_last_rate = q;
          }

      go : (q : Bool) → (rated n (time + k) (later k (known q)) ≡ later k (rated n time (known q))) × (takes_count n (time + k) (later k (known q)) ≡ takes_count n time (known q))
      go true = rw (same_interval s.last_rate_time time) (acting_later (leb 1000 d) (with_rate n time (smoothed n time s) (smoothed n time s) s) (known true), refl)
      go false = (refl, refl)

  asks_later : (c : GpsCall) (s : GpsAcceleration) → asks_gps (later_call k c) (later k s) ≡ along (later k) (asks_gps c s)
  asks_later (update speed time) s = rw (updated_later speed time s) refl
  asks_later (update_rate n time) s = let h = rated_later n time s in rw (h.0, h.1) refl
  asks_later (advance_time dt) s = refl
  asks_later get_rate s = refl

  -- every call answers as it does by the other clock, and leaves the same but for the times, which are k more: from any record, refused ones too
  pub same_later : (c : GpsCall) (s : GpsAcceleration) → on_gps (later_call k c) (later k s) ≡ inside (later k) (on_gps c s)
  same_later c s = goes_along gps_port (later k) (λ s. refl) c (later_call k c) s (asks_later c s)
