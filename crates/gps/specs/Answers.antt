-- That two outcomes of the learner which are told alike are one: of a fix, and of a count of fixes or of time.
use Rattle.std.specs.Prelude.{◌≡◌, Float, Option, Result}
use Rattle.call.specs.Said.{Said, done_reply, option, said, told}
use Rattle.call.specs.Once as once
use Rattle.call.specs.declared.refusal.Refusal.{Refusal}
use Rattle.call.specs.declared.Outcome.{Outcome}
use Rattle.gps.specs.declared.GpsAcceleration.{GpsAcceleration}

answer_back : (a : Result (Option Float) Refusal) → once.answer_from once.option_in (said option a) ≡ a
answer_back = once.answer_back option once.option_in once.option_back

pub told_once : (a b : Outcome (Option Float) GpsAcceleration) (t : Said × GpsAcceleration) → told option a ≡ t → told option b ≡ t → a ≡ b
told_once = once.told_once option once.option_once

pub done_once : (a b : Outcome (Unit {0}) GpsAcceleration) (t : Said × GpsAcceleration) → told done_reply a ≡ t → told done_reply b ≡ t → a ≡ b
done_once = once.told_once done_reply once.done_once
