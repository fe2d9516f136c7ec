-- Made from docs/boundary.txt by tools/boundary.
-- The orientation corrector in the caller's memory: which word is which number, and which operation which call. Definitions only.
use Rattle.std.specs.Prelude.{ℕ, cond, List, [], ◌∷◌, eqb, get_or, Float}
use Rattle.std.specs.Float.{nan}
use Rattle.orientation.specs.Orientation.{made, update, reset, get_cruise_bias, get_pitch_correction_deg, get_roll_correction_deg, get_pitch_confidence, get_roll_confidence, on_orientation}
use Rattle.orientation.specs.declared.OrientationCorrector.{OrientationCorrector}
use Rattle.words.specs.Words.{flag, Turn, changing, reading, unknown}

-- the record that the words stand for
abbrev pub loaded : List Float → List ℕ → OrientationCorrector
loaded n c =
    record {
      pitch_correction = get_or n 0 nan;
      roll_correction = get_or n 1 nan;
      pitch_confidence = get_or n 2 nan;
      roll_confidence = get_or n 3 nan;
      cruise_bias = get_or n 4 nan;
      cruise_bias_sum = get_or n 5 nan;
      cruise_bias_count = get_or c 0 0;
      cruise_time = get_or n 6 nan;
      alpha = get_or n 7 nan;
      min_speed = get_or n 8 nan;
      min_accel = get_or n 9 nan;
      max_correction = get_or n 10 nan;
      update_count = get_or c 1 0;
    }

-- the words that a record writes
abbrev pub numbers_of : OrientationCorrector → List Float
numbers_of s =
    s.pitch_correction ∷ s.roll_correction ∷ s.pitch_confidence ∷ s.roll_confidence ∷ s.cruise_bias ∷ s.cruise_bias_sum ∷ s.cruise_time
    ∷ s.alpha ∷ s.min_speed ∷ s.min_accel ∷ s.max_correction ∷ []

abbrev pub counts_of : OrientationCorrector → List ℕ
counts_of s = s.cruise_bias_count ∷ s.update_count ∷ []

-- the operation's call, with its arguments
unfoldable pub called : ℕ → List Float → List ℕ → OrientationCorrector → Turn OrientationCorrector
called operation arguments words s =
    cond (eqb operation 0) (changing (made (get_or arguments 0 nan) (get_or arguments 1 nan) (get_or arguments 2 nan) (get_or arguments 3 nan)))
    (cond (eqb operation 1) (changing (on_orientation (update (get_or arguments 0 nan) (get_or arguments 1 nan) (get_or arguments 2 nan) (get_or arguments 3 nan) (get_or arguments 4 nan) (flag (get_or words 0 0)) (get_or arguments 5 nan)) s))
    (cond (eqb operation 2) (changing (on_orientation reset s))
    (cond (eqb operation 3) (reading (on_orientation get_cruise_bias s).0)
    (cond (eqb operation 4) (reading (on_orientation get_pitch_correction_deg s).0)
    (cond (eqb operation 5) (reading (on_orientation get_roll_correction_deg s).0)
    (cond (eqb operation 6) (reading (on_orientation get_pitch_confidence s).0)
    (cond (eqb operation 7) (reading (on_orientation get_roll_confidence s).0)
    (unknown))))))))
