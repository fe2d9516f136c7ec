-- What `update_rate` and `advance_time` store is sound, so that they never give 6; and a fix that does. Assumes nothing.
use Rattle.std.specs.Prelude.{ℕ, ◌-◌, ◌≤◌, ◌≡◌, refl, Bool, true, false, ◌&&◌, cond, T, leb, Float}
use Rattle.std.proofs.Common.{sym, subst, leb→le}
use Rattle.std.specs.Float.{binary32}
use Rattle.std.specs.Float.Ieee.{of_bits, of_int, round, add, sub, mul, div, neg, le, lt}
use Rattle.std.specs.Float.Ieee.Fits.{and_i, and_l, and_r}
use Rattle.std.specs.Float.Ieee.Scale.{finite}
use Rattle.std.specs.Float.Ieee.Positive.{positive}
use Rattle.float.specs.Value.{f32, ◌⊕◌, ◌⊗◌, ◌⊘◌, within, zero32}
use Rattle.float.specs.Order.{le_trans_float, between_finite}
use Rattle.float.specs.Bounds.{nought, one, positive_by, div_from_zero}
use Rattle.float.specs.Interval.{div_scale, div_anti}
use Rattle.float.specs.Size.{within_of, within_more, within_add, within_mul, between_within}
use Rattle.float.specs.Count.{count_float}
use Rattle.float.specs.CountLaws.{top, count_between, count_mono}
use Rattle.call.specs.Said.{refused}
use Rattle.learner.specs.Ranges.{is_stored, takes_step}
use Rattle.gps.specs.Gps.{update, sound, interval, seconds, acts, smoothed, with_rate, rated, advanced, on_gps}
use Rattle.gps.specs.declared.GpsAcceleration.{GpsAcceleration}

-- ---- facts that antt computes
abbrev most : Float
most = f32 0x4e6e_6b28

abbrev half : Float
half = f32 0x3f00_0000

abbrev third : Float
third = f32 0x3e99_999a

abbrev rest : Float
rest = f32 0x3f33_3333

abbrev thousand : Float
thousand = f32 0x447a_0000

finites : T (finite most) × T (finite half) × T (finite third) × T (finite rest) × T (finite top) × T (finite (third ⊗ top)) × T (finite (rest ⊗ most)) × T (finite (count_float 1000)) × T (finite (top ⊘ thousand)) × T (positive thousand)
unfolding of_bits of_int add mul div
finites = (tt, tt, tt, tt, tt, tt, tt, tt, tt, tt)

-- 1e9 + 0.5 rounds to 1e9, 0.3 * 16,777,216 + 0.7 * 1e9 is below it, and 1,000 ms are a second
ends : T (le (most ⊕ half) most) × T (le (third ⊗ top ⊕ rest ⊗ most) most) × T (le (top ⊘ one) top) × T (le one (count_float 1000 ⊘ thousand))
unfolding of_bits of_int add mul div le
ends = (tt, tt, tt, tt)

-- below zero nothing is reached
lows : T (le (neg half) zero32) × T (le (neg top) nought) × T (le (neg third) third) × T (le third third) × T (le (neg rest) rest) × T (le rest rest)
unfolding of_bits neg le round
lows = (tt, tt, tt, tt, tt, tt)

-- ---- an interval that acts is a second or more
a_second : (d : ℕ) → 1000 ≤ d → T (finite (seconds d)) × T (le one (seconds d))
a_second d h =
    let c = count_between d in
    let fc = between_finite nought (count_float d) top tt finites.4 c.0 c.1 in
    let e = le_trans_float one (count_float 1000 ⊘ thousand) (seconds d) ends.3 (div_scale binary32 (count_float 1000) (count_float d) thousand finites.7 fc finites.9 (count_mono 1000 d h)) in
    (between_finite one (seconds d) (top ⊘ thousand) tt finites.8 e (div_scale binary32 (count_float d) top thousand fc finites.4 finites.9 c.1), e)

-- ---- the rate of at most 16,777,216 fixes in at least a second
rate_within : (n : ℕ) (dt : Float) → T (finite dt) → T (le one dt) → T (within (count_float n ⊘ dt) top)
rate_within n dt f h =
    let c = count_between n in
    let p = positive_by one dt tt f h in
    let fc = between_finite nought (count_float n) top tt finites.4 c.0 c.1 in
    within_of (count_float n ⊘ dt) top (le_trans_float (neg top) nought (count_float n ⊘ dt) lows.1 (div_from_zero binary32 (count_float n) dt fc p c.0))
    (le_trans_float (count_float n ⊘ dt) (count_float n ⊘ one) top (div_anti binary32 (count_float n) one dt fc c.0 tt p h)
    (le_trans_float (count_float n ⊘ one) (top ⊘ one) top (div_scale binary32 (count_float n) top one fc finites.4 tt c.1) ends.2))

mean_within : (instant mean : Float) → T (within instant top) → T (within mean most) → T (within (third ⊗ instant ⊕ rest ⊗ mean) most)
mean_within instant mean p q =
    within_more (third ⊗ instant ⊕ rest ⊗ mean) (third ⊗ top ⊕ rest ⊗ most) most ends.1
    (within_add binary32 (third ⊗ instant) (rest ⊗ mean) (third ⊗ top) (rest ⊗ most) finites.5 finites.6
    (within_mul binary32 third instant third top finites.2 finites.4 (within_of third third lows.2 lows.3) p)
    (within_mul binary32 rest mean rest most finites.3 finites.0 (within_of rest rest lows.4 lows.5) q))

-- ---- the learner
-- a sound learner from its parts
together : (s : GpsAcceleration) → T (is_stored s.prev_speed) → T (is_stored s.accel_lon) → T (is_stored s.gps_rate) → T (is_stored s.time_since_fix) → T (is_stored s.rate_ema) → T (sound s)
together s a b c d e =
    let v = is_stored in
    and_i (v s.prev_speed && v s.accel_lon) (v s.gps_rate && (v s.time_since_fix && v s.rate_ema)) (and_i (v s.prev_speed) (v s.accel_lon) a b)
    (and_i (v s.gps_rate) (v s.time_since_fix && v s.rate_ema) c (and_i (v s.time_since_fix) (v s.rate_ema) d e))

parts : (a b c d e : Bool) → T ((a && b) && (c && (d && e))) → T a × T b × T c × T d × T e
parts a b c d e t =
    let l = and_l (a && b) (c && (d && e)) t in
    let r = and_r (a && b) (c && (d && e)) t in
    let de = and_r c (d && e) r in
    (and_l a b l, and_r a b l, and_l c (d && e) r, and_l d e de, and_r d e de)

module _ (s : GpsAcceleration) (t : T (sound s)) where
  pub has : T (is_stored s.prev_speed) × T (is_stored s.accel_lon) × T (is_stored s.gps_rate) × T (is_stored s.time_since_fix) × T (is_stored s.rate_ema)
  has = parts (is_stored s.prev_speed) (is_stored s.accel_lon) (is_stored s.gps_rate) (is_stored s.time_since_fix) (is_stored s.rate_ema) t

  pub advanced_sound : (dt : Float) → T (takes_step dt) → T (sound (advanced dt s))
  advanced_sound dt d =
      together (advanced dt s) has.0 has.1 has.2
      (within_more (s.time_since_fix ⊕ dt) (most ⊕ half) most ends.0 (within_add binary32 s.time_since_fix dt most half finites.0 finites.1 has.3 (between_within dt half lows.0 d)))
      has.4

  with_rate_sound : (n time : ℕ) (r m : Float) → T (is_stored r) → T (is_stored m) → T (sound (with_rate n time r m s))
  with_rate_sound n time r m p q = together (with_rate n time r m s) has.0 has.1 p has.3 q

  smoothed_sound : (n time : ℕ) → T (acts s.has_last_rate (interval s.last_rate_time time)) → T (is_stored (smoothed n time s))
  smoothed_sound n time a =
      let d = interval s.last_rate_time time in
      let e = a_second d (leb→le 1000 d (and_r s.has_last_rate (leb 1000 d) a)) in
      mean_within (count_float (n - s.last_fix_count) ⊘ seconds d) s.rate_ema (rate_within (n - s.last_fix_count) (seconds d) e.0 e.1) has.4

  pub rated_sound : (n time : ℕ) → T (sound (rated n time s))
  rated_sound n time = go (acts s.has_last_rate (interval s.last_rate_time time)) s.has_last_rate refl
    where
      m : Float
      m = smoothed n time s

      go : (a b : Bool) → acts s.has_last_rate (interval s.last_rate_time time) ≡ a → T (sound (cond a (with_rate n time m m s) (cond b s (with_rate n time s.gps_rate s.rate_ema s))))
      go true b e = let v = smoothed_sound n time (subst T (sym e) tt) in with_rate_sound n time m m v v
      go false true e = t
      go false false e = with_rate_sound n time s.gps_rate s.rate_ema has.2 has.4

-- ---- `update` gives 6: at rest a quarter of a second after a stored speed of 1e9
abbrev fast : GpsAcceleration
fast =
    record {
      prev_speed = most;
      prev_time = 1000;
      has_prev_fix = true;
      accel_lon = zero32;
      valid = false;
      gps_rate = zero32;
      time_since_fix = zero32;
      rate_ema = zero32;
      last_fix_count = 0;
      last_rate_time = 0;
      has_last_rate = false;
    }

pub too_fast : on_gps (update zero32 1250) fast ≡ (refused 6, fast)
unfolding of_bits of_int sub div neg le lt
too_fast = refl
