-- Made from docs/boundary.txt by tools/boundary.
-- The heading aligner in the caller's memory: which word is which number, and which operation which call. Definitions only.
use Rattle.std.specs.Prelude.{ℕ, cond, List, [], ◌∷◌, eqb, get_or, Float}
use Rattle.std.specs.Float.{nan}
use Rattle.aligner.specs.Aligner.{made, update_gps_course, update, get_aligned_heading, is_valid, get_offset, get_confidence, reset, on_aligner}
use Rattle.aligner.specs.declared.HeadingAligner.{HeadingAligner}
use Rattle.words.specs.Words.{flag, word, Turn, changing, reading, unknown}

-- the record that the words stand for
abbrev pub loaded : List Float → List ℕ → HeadingAligner
loaded n c =
    record {
      offset = get_or n 0 nan;
      valid = flag (get_or c 0 0);
      update_count = get_or c 1 0;
      alpha = get_or n 1 nan;
      min_speed = get_or n 2 nan;
      last_gps_course = get_or n 3 nan;
      time_since_gps = get_or n 4 nan;
      max_gps_age = get_or n 5 nan;
    }

-- the words that a record writes
abbrev pub numbers_of : HeadingAligner → List Float
numbers_of s =
    s.offset ∷ s.alpha ∷ s.min_speed ∷ s.last_gps_course ∷ s.time_since_gps ∷ s.max_gps_age ∷ []

abbrev pub counts_of : HeadingAligner → List ℕ
counts_of s = word s.valid ∷ s.update_count ∷ []

-- the operation's call, with its arguments
unfoldable pub called : ℕ → List Float → List ℕ → HeadingAligner → Turn HeadingAligner
called operation arguments words s =
    cond (eqb operation 0) (changing (made (get_or arguments 0 nan) (get_or arguments 1 nan) (get_or arguments 2 nan)))
    (cond (eqb operation 1) (changing (on_aligner (update_gps_course (get_or arguments 0 nan)) s))
    (cond (eqb operation 2) (changing (on_aligner (update (get_or arguments 0 nan) (get_or arguments 1 nan) (get_or arguments 2 nan)) s))
    (cond (eqb operation 3) (reading (on_aligner (get_aligned_heading (get_or arguments 0 nan)) s).0)
    (cond (eqb operation 4) (reading (on_aligner is_valid s).0)
    (cond (eqb operation 5) (reading (on_aligner get_offset s).0)
    (cond (eqb operation 6) (reading (on_aligner get_confidence s).0)
    (cond (eqb operation 7) (changing (on_aligner reset s))
    (unknown))))))))
