-- Made from docs/boundary.txt by tools/boundary.
-- The yaw rate calibrator in the caller's memory: which word is which number, and which operation which call. Definitions only.
use Rattle.std.specs.Prelude.{ℕ, cond, List, [], ◌∷◌, eqb, get_or, Float}
use Rattle.std.specs.Float.{nan}
use Rattle.yawrate.specs.YawRate.{made, update_heading, update, get_bias, is_valid, on_yaw_rate}
use Rattle.yawrate.specs.declared.YawRateCalibrator.{YawRateCalibrator}
use Rattle.words.specs.Words.{flag, word, Turn, changing, reading, unknown}
use Rattle.boundary_learners.specs.Index.{index_word}

-- the record that the words stand for
abbrev pub loaded : List Float → List ℕ → YawRateCalibrator
loaded n c =
    record {
      bias = get_or n 0 nan;
      valid = flag (get_or c 0 0);
      heading_history = get_or n 7 nan ∷ get_or n 8 nan ∷ get_or n 9 nan ∷ get_or n 10 nan ∷ get_or n 11 nan ∷ get_or n 12 nan ∷ get_or n 13 nan ∷ get_or n 14 nan ∷ get_or n 15 nan ∷ get_or n 16 nan ∷ get_or n 17 nan ∷ get_or n 18 nan ∷ get_or n 19 nan ∷ get_or n 20 nan ∷ get_or n 21 nan ∷ get_or n 22 nan ∷ get_or n 23 nan ∷ get_or n 24 nan ∷ get_or n 25 nan ∷ get_or n 26 nan ∷ [];
      heading_idx = get_or c 1 0;
      heading_count = get_or c 2 0;
      straight_time = get_or n 1 nan;
      yaw_sum = get_or n 2 nan;
      sample_count = get_or c 3 0;
      min_speed = get_or n 3 nan;
      heading_tolerance = get_or n 4 nan;
      learn_time = get_or n 5 nan;
      alpha = get_or n 6 nan;
    }

-- the words that a record writes
abbrev pub numbers_of : YawRateCalibrator → List Float
numbers_of s =
    s.bias ∷ s.straight_time ∷ s.yaw_sum ∷ s.min_speed ∷ s.heading_tolerance ∷ s.learn_time ∷ s.alpha
    ∷ get_or s.heading_history 0 nan ∷ get_or s.heading_history 1 nan ∷ get_or s.heading_history 2 nan ∷ get_or s.heading_history 3 nan ∷ get_or s.heading_history 4 nan ∷ get_or s.heading_history 5 nan ∷ get_or s.heading_history 6 nan
    ∷ get_or s.heading_history 7 nan ∷ get_or s.heading_history 8 nan ∷ get_or s.heading_history 9 nan ∷ get_or s.heading_history 10 nan ∷ get_or s.heading_history 11 nan ∷ get_or s.heading_history 12 nan ∷ get_or s.heading_history 13 nan
    ∷ get_or s.heading_history 14 nan ∷ get_or s.heading_history 15 nan ∷ get_or s.heading_history 16 nan ∷ get_or s.heading_history 17 nan ∷ get_or s.heading_history 18 nan ∷ get_or s.heading_history 19 nan ∷ []

abbrev pub counts_of : YawRateCalibrator → List ℕ
counts_of s = word s.valid ∷ index_word s.heading_idx ∷ s.heading_count ∷ s.sample_count ∷ []

-- the operation's call, with its arguments
unfoldable pub called : ℕ → List Float → List ℕ → YawRateCalibrator → Turn YawRateCalibrator
called operation arguments words s =
    cond (eqb operation 0) (changing (made (get_or arguments 0 nan) (get_or arguments 1 nan) (get_or arguments 2 nan) (get_or arguments 3 nan)))
    (cond (eqb operation 1) (changing (on_yaw_rate (update_heading (get_or arguments 0 nan)) s))
    (cond (eqb operation 2) (changing (on_yaw_rate (update (get_or arguments 0 nan) (get_or arguments 1 nan) (get_or arguments 2 nan)) s))
    (cond (eqb operation 3) (reading (on_yaw_rate get_bias s).0)
    (cond (eqb operation 4) (reading (on_yaw_rate is_valid s).0)
    (unknown)))))
