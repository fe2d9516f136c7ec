-- A course that enters the ring never gives 6; within PI it gives what it gave; and a caller that folds it first gets the same (document 02, C-17). Assumes nothing.
use Rattle.std.specs.Prelude.{◌≡◌, refl, T, Float}
use Rattle.std.specs.Float.Ieee.Scale.{finite}
use Rattle.float.specs.Wrap.{wrapped}
use Rattle.call.specs.Said.{done}
use Rattle.call.specs.Port.{given}
use Rattle.call.specs.PortLaws.{NotSix, not_six, goes_along}
use Rattle.learner.specs.Ranges.{is_course}
use Rattle.learner.specs.CourseLaws.{folded_within, entered_kept, folded_first, entered_folded}
use Rattle.yawrate.specs.YawRate.{YawRateCall, update_heading, update, get_bias, is_valid, parameters, headed, asks_yaw_rate, yaw_rate_port, on_yaw_rate}
use Rattle.yawrate.specs.Stored.{headed_sound}
use Rattle.yawrate.specs.declared.YawRateCalibrator.{YawRateCalibrator}

pub heading_not_six : (heading : Float) (s : YawRateCalibrator) → NotSix (on_yaw_rate (update_heading heading) s)
heading_not_six heading s = not_six yaw_rate_port (update_heading heading) s (λ f u n h. headed_sound (wrapped heading) s (folded_within heading u) h)

pub heading_kept :
    (heading : Float) (s : YawRateCalibrator) → T (is_course heading) → asks_yaw_rate (update_heading heading) s ≡ given (finite heading) (is_course heading) (parameters s) (done, headed heading s)
heading_kept heading s w = entered_kept (parameters s) (λ course. headed course s) heading w

-- the same call with its course folded by the caller
abbrev pub folded_call : YawRateCall → YawRateCall
folded_call (update_heading heading) = update_heading (folded_first heading)
folded_call (update yaw_rate speed dt) = update yaw_rate speed dt
folded_call get_bias = get_bias
folded_call is_valid = is_valid

asks_folded : (c : YawRateCall) (s : YawRateCalibrator) → asks_yaw_rate (folded_call c) s ≡ asks_yaw_rate c s
asks_folded (update_heading heading) s = entered_folded (parameters s) (λ course. headed course s) heading
asks_folded (update yaw_rate speed dt) s = refl
asks_folded get_bias s = refl
asks_folded is_valid s = refl

pub same_folded : (c : YawRateCall) (s : YawRateCalibrator) → on_yaw_rate (folded_call c) s ≡ on_yaw_rate c s
same_folded c s = goes_along yaw_rate_port (λ s. s) (λ s. refl) c (folded_call c) s (asks_folded c s)
