-- No call of the aligner gives 6; a course within PI gives what it gave; and a caller that folds it first gets the same (document 02, C-17). Assumes nothing.
use Rattle.std.specs.Prelude.{◌≡◌, refl, ◌&&◌, T, Float}
use Rattle.std.specs.Float.Ieee.Fits.{and_l, and_r}
use Rattle.std.specs.Float.Ieee.Scale.{finite}
use Rattle.float.specs.Wrap.{wrapped}
use Rattle.call.specs.Said.{done}
use Rattle.call.specs.Port.{given}
use Rattle.call.specs.PortLaws.{NotSix, not_six, goes_along}
use Rattle.learner.specs.Ranges.{is_course, takes_speed, takes_step, is_alpha, is_parameter}
use Rattle.learner.specs.CourseLaws.{folded_within, entered_kept, folded_first, entered_folded}
use Rattle.aligner.specs.Ranges.{takes_yaw}
use Rattle.aligner.specs.Aligner.{AlignerCall, update_gps_course, update, get_aligned_heading, is_valid, get_offset, get_confidence, reset, parameters, headed, asks_aligner, aligner_port, on_aligner}
use Rattle.aligner.specs.Laws.{headed_sound, updated_sound, resetted_sound}
use Rattle.aligner.specs.declared.HeadingAligner.{HeadingAligner}

pub aligner_not_six : (c : AlignerCall) (s : HeadingAligner) → NotSix (on_aligner c s)
aligner_not_six (update_gps_course gps_course) s = not_six aligner_port (update_gps_course gps_course) s (λ f u n h. headed_sound s h (wrapped gps_course) (folded_within gps_course u))
aligner_not_six (update ekf_yaw speed dt) s =
    not_six aligner_port (update ekf_yaw speed dt) s
    (λ f u n h.
    updated_sound ekf_yaw speed dt s h
    (and_l (is_alpha s.alpha) (is_parameter s.min_speed) (and_l (is_alpha s.alpha && is_parameter s.min_speed) (is_parameter s.max_gps_age) n))
    (and_l (takes_yaw ekf_yaw) (takes_speed speed) (and_l (takes_yaw ekf_yaw && takes_speed speed) (takes_step dt) u))
    (and_r (takes_yaw ekf_yaw && takes_speed speed) (takes_step dt) u))
aligner_not_six (get_aligned_heading ekf_yaw) s = not_six aligner_port (get_aligned_heading ekf_yaw) s (λ f u n h. h)
aligner_not_six is_valid s = not_six aligner_port is_valid s (λ f u n h. h)
aligner_not_six get_offset s = not_six aligner_port get_offset s (λ f u n h. h)
aligner_not_six get_confidence s = not_six aligner_port get_confidence s (λ f u n h. h)
aligner_not_six reset s = not_six aligner_port reset s (λ f u n h. resetted_sound s h)

pub course_kept :
    (gps_course : Float) (s : HeadingAligner) → T (is_course gps_course) → asks_aligner (update_gps_course gps_course) s ≡ given (finite gps_course) (is_course gps_course) (parameters s) (done, headed gps_course s)
course_kept gps_course s w = entered_kept (parameters s) (λ course. headed course s) gps_course w

-- the same call with its course folded by the caller
abbrev pub folded_call : AlignerCall → AlignerCall
folded_call (update_gps_course gps_course) = update_gps_course (folded_first gps_course)
folded_call (update ekf_yaw speed dt) = update ekf_yaw speed dt
folded_call (get_aligned_heading ekf_yaw) = get_aligned_heading ekf_yaw
folded_call is_valid = is_valid
folded_call get_offset = get_offset
folded_call get_confidence = get_confidence
folded_call reset = reset

asks_folded : (c : AlignerCall) (s : HeadingAligner) → asks_aligner (folded_call c) s ≡ asks_aligner c s
asks_folded (update_gps_course gps_course) s = entered_folded (parameters s) (λ course. headed course s) gps_course
asks_folded (update ekf_yaw speed dt) s = refl
asks_folded (get_aligned_heading ekf_yaw) s = refl
asks_folded is_valid s = refl
asks_folded get_offset s = refl
asks_folded get_confidence s = refl
asks_folded reset s = refl

pub same_folded : (c : AlignerCall) (s : HeadingAligner) → on_aligner (folded_call c) s ≡ on_aligner c s
same_folded c s = goes_along aligner_port (λ s. s) (λ s. refl) c (folded_call c) s (asks_folded c s)
