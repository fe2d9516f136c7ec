-- The ring of the last 20 headings: when it is sound, and when the headings in it are stable. Definitions only.
use Rattle.std.specs.Prelude.{ℕ, zero, suc, ◌+◌, min, Bool, true, not, ◌&&◌, ◌||◌, cond, List, ltb, set, Float}
use Rattle.std.specs.Float.Ieee.{lt, neg}
use Rattle.float.specs.Value.{zero32}
use Rattle.float.specs.Wrap.{angle_diff}
use Rattle.trig.specs.Row.{slot, sum_to}
use Rattle.trig.specs.Table.{table_sine, table_cosine}
use Rattle.trig.specs.Tangent.{arc_tangent}
use Rattle.learner.specs.Ranges.{is_course}

-- a test holds in each of the first n slots
unfoldable pub all_to : (Float → Bool) → List Float → ℕ → Bool
all_to test h zero = true
all_to test h (suc n) = all_to test h n && test (slot h n)

-- all 20 slots, whatever the count
abbrev pub ring_sound : List Float → Bool
ring_sound h = all_to is_course h 20

-- the slots that count; a count beyond 20 is unsound
abbrev pub slots : ℕ → ℕ
slots count = min count 20

-- not: diff.abs() > heading_tolerance
abbrev pub is_near : Float → Float → Float → Bool
is_near mean tolerance heading =
    let diff = angle_diff heading mean in
    not (lt tolerance diff || lt diff (neg tolerance))

abbrev pub near_to : Float → Float → List Float → ℕ → Bool
near_to mean tolerance h n = all_to (is_near mean tolerance) h n

-- mean_heading = sin_sum.atan2(cos_sum), with the sines and cosines of the tables
abbrev pub circular_mean : List Float → ℕ → Float
circular_mean h n = arc_tangent (sum_to table_sine zero32 h n) (sum_to table_cosine zero32 h n)

-- every heading within tolerance of the circular mean
unfoldable pub stable : List Float → ℕ → Float → Bool
stable h count tolerance = near_to (circular_mean h (slots count)) tolerance h (slots count)

-- heading_history[heading_idx] = heading
unfoldable pub put : ℕ → Float → List Float → List Float
put idx heading h = cond (ltb idx 20) (set h idx heading) h

-- (heading_idx + 1) % 20; an index beyond is unsound
abbrev pub next_slot : ℕ → ℕ
next_slot idx = cond (ltb idx 19) (idx + 1) 0
