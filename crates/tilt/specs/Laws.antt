-- What a making and `reset_stationary` store is sound, so that they never give 6; and a sample that does. Assumes nothing.
use Rattle.std.specs.Prelude.{◌≡◌, refl, false, ◌&&◌, T, Float}
use Rattle.std.specs.Float.Ieee.{of_bits, of_int, add, sub, mul, div, neg, le, lt}
use Rattle.std.specs.Float.Ieee.Fits.{and_i, and_r}
use Rattle.float.specs.Value.{f32, zero32}
use Rattle.float.specs.Root.{root}
use Rattle.call.specs.Said.{refused}
use Rattle.learner.specs.Ranges.{is_stored, is_count}
use Rattle.tilt.specs.Tilt.{update_stationary, sound, fresh, resetted, on_tilt}
use Rattle.tilt.specs.declared.TiltEstimator.{TiltEstimator}

zeros_sound : T ((is_stored zero32 && is_stored zero32) && (is_count 0 && is_stored zero32))
unfolding of_bits neg le
zeros_sound = tt

pub fresh_sound : (learn_time : Float) → T (sound (fresh learn_time))
unfolding of_bits neg le
fresh_sound learn_time = tt

pub resetted_sound : (s : TiltEstimator) → T (sound s) → T (sound (resetted s))
resetted_sound s t =
    and_i ((is_stored zero32 && is_stored zero32) && (is_count 0 && is_stored zero32)) (is_stored s.offset_x && is_stored s.offset_y) zeros_sound
    (and_r ((is_stored s.accel_x_sum && is_stored s.accel_y_sum) && (is_count s.sample_count && is_stored s.stationary_time)) (is_stored s.offset_x && is_stored s.offset_y) t)

-- ---- `update_stationary` gives 6: 1e6 on a stored sum of 1e9, and too few samples to learn
abbrev full : TiltEstimator
full =
    record {
      accel_x_sum = f32 0x4e6e_6b28;
      accel_y_sum = zero32;
      sample_count = 0;
      stationary_time = zero32;
      offset_x = zero32;
      offset_y = zero32;
      offset_valid = false;
      learn_time = zero32;
    }

pub too_full : on_tilt (update_stationary (f32 0x4974_2400) zero32 zero32) full ≡ (refused 6, full)
unfolding of_bits of_int add sub mul div neg le lt root
too_full = refl
