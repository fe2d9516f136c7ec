-- That two outcomes of the learner which are told alike are one: of a yaw rate, and of a making or a heading; and two answers whether it is valid.
use Rattle.std.specs.Prelude.{◌≡◌, Bool, Result}
use Rattle.call.specs.Said.{Said, done_reply, flag, flag_in, said, told}
use Rattle.call.specs.Once as once
use Rattle.call.specs.declared.refusal.Refusal.{Refusal}
use Rattle.call.specs.declared.Outcome.{Outcome}
use Rattle.yawrate.specs.declared.YawRateCalibrator.{YawRateCalibrator}

answer_back : (a : Result Bool Refusal) → once.answer_from flag_in (said flag a) ≡ a
answer_back = once.answer_back flag flag_in once.flag_back

pub told_once : (a b : Outcome Bool YawRateCalibrator) (t : Said × YawRateCalibrator) → told flag a ≡ t → told flag b ≡ t → a ≡ b
told_once = once.told_once flag once.flag_once

pub done_once : (a b : Outcome (Unit {0}) YawRateCalibrator) (t : Said × YawRateCalibrator) → told done_reply a ≡ t → told done_reply b ≡ t → a ≡ b
done_once = once.told_once done_reply once.done_once

validity_back : (a : Result Bool Refusal) → once.answer_from flag_in (said flag a) ≡ a
validity_back = once.answer_back flag flag_in once.flag_back

pub validity_once : (a b : Result Bool Refusal) (s : Said) → said flag a ≡ s → said flag b ≡ s → a ≡ b
validity_once = once.said_once flag once.flag_once
