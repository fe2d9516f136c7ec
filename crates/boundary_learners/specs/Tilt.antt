-- Made from docs/boundary.txt by tools/boundary.
-- The tilt estimator in the caller's memory: which word is which number, and which operation which call. Definitions only.
use Rattle.std.specs.Prelude.{ℕ, cond, List, [], ◌∷◌, eqb, get_or, Float}
use Rattle.std.specs.Float.{nan}
use Rattle.tilt.specs.Tilt.{made, update_stationary, reset_stationary, get_offsets, on_tilt}
use Rattle.tilt.specs.declared.TiltEstimator.{TiltEstimator}
use Rattle.words.specs.Words.{flag, word, Turn, changing, reading, unknown}

-- the record that the words stand for
abbrev pub loaded : List Float → List ℕ → TiltEstimator
loaded n c =
    record {
      accel_x_sum = get_or n 0 nan;
      accel_y_sum = get_or n 1 nan;
      sample_count = get_or c 0 0;
      stationary_time = get_or n 2 nan;
      offset_x = get_or n 3 nan;
      offset_y = get_or n 4 nan;
      offset_valid = flag (get_or c 1 0);
      learn_time = get_or n 5 nan;
    }

-- the words that a record writes
abbrev pub numbers_of : TiltEstimator → List Float
numbers_of s =
    s.accel_x_sum ∷ s.accel_y_sum ∷ s.stationary_time ∷ s.offset_x ∷ s.offset_y ∷ s.learn_time ∷ []

abbrev pub counts_of : TiltEstimator → List ℕ
counts_of s = s.sample_count ∷ word s.offset_valid ∷ []

-- the operation's call, with its arguments
unfoldable pub called : ℕ → List Float → List ℕ → TiltEstimator → Turn TiltEstimator
called operation arguments words s =
    cond (eqb operation 0) (changing (made (get_or arguments 0 nan)))
    (cond (eqb operation 1) (changing (on_tilt (update_stationary (get_or arguments 0 nan) (get_or arguments 1 nan) (get_or arguments 2 nan)) s))
    (cond (eqb operation 2) (changing (on_tilt reset_stationary s))
    (cond (eqb operation 3) (reading (on_tilt get_offsets s).0)
    (unknown))))
