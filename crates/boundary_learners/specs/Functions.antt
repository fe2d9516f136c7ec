-- The functions without a record: which operation of `track_float` and of `track_trig` is which call, and the blend's arguments in the caller's memory. Definitions only.
use Rattle.std.specs.Prelude.{ℕ, Bool, true, false, ◌&&◌, cond, List, eqb, get_or, Float, Option, Some, None}
use Rattle.std.specs.Float.{nan}
use Rattle.std.specs.Float.Ieee.Scale.{finite}
use Rattle.call.specs.Refusal.{refusal_of}
use Rattle.call.specs.Said.{Said, refused}
use Rattle.float.specs.Wrap.{wrap_angle}
use Rattle.float.specs.Root.{square_root}
use Rattle.trig.specs.Angle.{sin, cos}
use Rattle.trig.specs.Table.{table_sin, table_cos}
use Rattle.trig.specs.Tangent.{atan2}
use Rattle.blend.specs.Blend.{blend}
use Rattle.blend.specs.declared.Weights.{Weights}
use Rattle.words.specs.Words.{flag}

-- what an unknown operation gives: an argument outside its range, if the float arguments are finite
abbrev pub unknown : Bool → Said
unknown finite = refused (refusal_of finite false true true true true)

-- `track_float`: 0 the wrap, 1 the root
abbrev pub float_call : ℕ → Float → Said
float_call operation a =
    cond (eqb operation 0) (wrap_angle a)
    (cond (eqb operation 1) (square_root a)
    (unknown (finite a)))

-- `track_trig`: 0 the sine, 1 the cosine, 2 the arc tangent of y and x; 3 the sine and 4 the cosine that are read from the tables
abbrev pub trig_call : ℕ → Float → Float → Said
trig_call operation a b =
    cond (eqb operation 0) (sin a)
    (cond (eqb operation 1) (cos a)
    (cond (eqb operation 2) (atan2 a b)
    (cond (eqb operation 3) (table_sin a)
    (cond (eqb operation 4) (table_cos a)
    (unknown (finite a && finite b))))))

-- ---- `track_blend`
abbrev pub gps_of : Bool → Float → Option Float
gps_of known acceleration = cond known (Some acceleration) None

-- high, medium, low
abbrev pub weights_of : List Float → Weights
weights_of w = record { gps_weight_high = get_or w 0 nan; gps_weight_medium = get_or w 1 nan; gps_weight_low = get_or w 2 nan }

abbrev pub blend_call : Float → ℕ → Float → Float → List Float → Said
blend_call imu has_gps gps confidence weights = blend imu (gps_of (flag has_gps) gps) confidence (weights_of weights)
