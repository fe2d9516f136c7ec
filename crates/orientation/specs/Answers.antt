-- That two outcomes of the learner which are told alike are one.
use Rattle.std.specs.Prelude.{◌≡◌, Result}
use Rattle.call.specs.Said.{Said, done_reply, said, told}
use Rattle.call.specs.Once as once
use Rattle.call.specs.declared.refusal.Refusal.{Refusal}
use Rattle.call.specs.declared.Outcome.{Outcome}
use Rattle.orientation.specs.declared.OrientationCorrector.{OrientationCorrector}

answer_back : (a : Result (Unit {0}) Refusal) → once.answer_from once.done_in (said done_reply a) ≡ a
answer_back = once.answer_back done_reply once.done_in once.done_back

pub told_once : (a b : Outcome (Unit {0}) OrientationCorrector) (t : Said × OrientationCorrector) → told done_reply a ≡ t → told done_reply b ≡ t → a ≡ b
told_once = once.told_once done_reply once.done_once
