-- Made from docs/boundary.txt by tools/boundary.
-- GPS acceleration in the caller's memory: which word is which number, and which operation which call. Definitions only.
use Rattle.std.specs.Prelude.{ℕ, cond, List, [], ◌∷◌, eqb, get_or, Float}
use Rattle.std.specs.Float.{nan}
use Rattle.call.specs.Said.{answer, done}
use Rattle.gps.specs.Gps.{fresh, update, update_rate, advance_time, get_rate, on_gps}
use Rattle.gps.specs.declared.GpsAcceleration.{GpsAcceleration}
use Rattle.words.specs.Words.{flag, word, Turn, changing, reading, unknown}
use Rattle.boundary_learners.specs.Wide.{wide, low, high}

-- the record that the words stand for
abbrev pub loaded : List Float → List ℕ → GpsAcceleration
loaded n c =
    record {
      prev_speed = get_or n 0 nan;
      prev_time = wide (get_or c 3 0) (get_or c 4 0);
      has_prev_fix = flag (get_or c 2 0);
      accel_lon = get_or n 1 nan;
      valid = flag (get_or c 0 0);
      gps_rate = get_or n 2 nan;
      time_since_fix = get_or n 3 nan;
      rate_ema = get_or n 4 nan;
      last_fix_count = get_or c 1 0;
      last_rate_time = wide (get_or c 6 0) (get_or c 7 0);
      has_last_rate = flag (get_or c 5 0);
    }

-- the words that a record writes
abbrev pub numbers_of : GpsAcceleration → List Float
numbers_of s =
    s.prev_speed ∷ s.accel_lon ∷ s.gps_rate ∷ s.time_since_fix ∷ s.rate_ema ∷ []

abbrev pub counts_of : GpsAcceleration → List ℕ
counts_of s = word s.valid ∷ s.last_fix_count ∷ word s.has_prev_fix ∷ low s.prev_time ∷ high s.prev_time ∷ word s.has_last_rate ∷ low s.last_rate_time
    ∷ high s.last_rate_time ∷ []

-- the operation's call, with its arguments
unfoldable pub called : ℕ → List Float → List ℕ → GpsAcceleration → Turn GpsAcceleration
called operation arguments words s =
    cond (eqb operation 0) (changing (answer done, fresh))
    (cond (eqb operation 1) (changing (on_gps (update (get_or arguments 0 nan) (wide (get_or words 0 0) (get_or words 1 0))) s))
    (cond (eqb operation 2) (changing (on_gps (update_rate (get_or words 0 0) (wide (get_or words 1 0) (get_or words 2 0))) s))
    (cond (eqb operation 3) (changing (on_gps (advance_time (get_or arguments 0 nan)) s))
    (cond (eqb operation 4) (reading (on_gps get_rate s).0)
    (unknown)))))
