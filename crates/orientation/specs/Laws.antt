-- What a making and `reset` store is sound, so that they never give 6; and a cruise sample that does. Assumes nothing.
use Rattle.std.specs.Prelude.{◌≡◌, refl, true, T, Float}
use Rattle.std.specs.Float.Ieee.{of_bits, of_int, add, sub, mul, div, neg, le, lt}
use Rattle.float.specs.Value.{f32, zero32}
use Rattle.call.specs.Said.{refused}
use Rattle.orientation.specs.Orientation.{update, sound, fresh, updated, on_orientation}
use Rattle.orientation.specs.declared.OrientationCorrector.{OrientationCorrector}

pub fresh_sound : (alpha min_speed min_accel max_correction : Float) → T (sound (fresh alpha min_speed min_accel max_correction))
unfolding of_bits neg le
fresh_sound alpha min_speed min_accel max_correction = tt

-- ---- `update` gives 6: 1e6 on a stored cruise sum of 1e9, while cruising
abbrev full : OrientationCorrector
full =
    record {
      pitch_correction = zero32;
      roll_correction = zero32;
      pitch_confidence = zero32;
      roll_confidence = zero32;
      cruise_bias = zero32;
      cruise_bias_sum = f32 0x4e6e_6b28;
      cruise_bias_count = 0;
      cruise_time = zero32;
      alpha = zero32;
      min_speed = zero32;
      min_accel = zero32;
      max_correction = zero32;
      update_count = 0;
    }

pub too_full : on_orientation (update (f32 0x4974_2400) zero32 zero32 zero32 zero32 true zero32) full ≡ (refused 6, full)
unfolding of_bits of_int add sub mul div neg le lt updated
too_full = refl
