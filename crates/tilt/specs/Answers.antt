-- What the offset says in document 01's words, and that two outcomes of the learner which are told alike are one.
use Rattle.std.specs.Prelude.{◌≡◌, refl, [], ◌∷◌, Bool, Float, Result}
use Rattle.call.specs.Said.{Reply, Said, shows, done_reply, flag, value_in, second_value_in, flag_in, said, told}
use Rattle.call.specs.Once as once
use Rattle.call.specs.declared.refusal.Refusal.{Refusal}
use Rattle.call.specs.declared.Outcome.{Outcome}
use Rattle.tilt.specs.declared.Offsets.{Offsets}
use Rattle.tilt.specs.declared.TiltEstimator.{TiltEstimator}

-- ---- the offset
abbrev pub offsets : Float → Float → Bool → Reply
offsets x y b = shows (x ∷ y ∷ []) [] (b ∷ [])

abbrev pub offsets_reply : Offsets → Reply
offsets_reply o = offsets o.x o.y o.valid

abbrev offsets_in : Reply → Offsets
offsets_in r = record { x = value_in r; y = second_value_in r; valid = flag_in r }

pub offsets_alike : (a b : Offsets) → offsets_reply a ≡ offsets_reply b → a ≡ b
offsets_alike a b e = once.one_outcome offsets_reply offsets_in (λ o. refl) a b (offsets_reply b) e refl

offsets_back : (a : Result Offsets Refusal) → once.answer_from offsets_in (said offsets_reply a) ≡ a
offsets_back = once.answer_back offsets_reply offsets_in (λ o. refl)

pub offsets_once : (a b : Result Offsets Refusal) (s : Said) → said offsets_reply a ≡ s → said offsets_reply b ≡ s → a ≡ b
offsets_once = once.said_once offsets_reply offsets_alike

-- ---- a sample, and a making or a reset
answer_back : (a : Result Bool Refusal) → once.answer_from flag_in (said flag a) ≡ a
answer_back = once.answer_back flag flag_in once.flag_back

pub told_once : (a b : Outcome Bool TiltEstimator) (t : Said × TiltEstimator) → told flag a ≡ t → told flag b ≡ t → a ≡ b
told_once = once.told_once flag once.flag_once

pub done_once : (a b : Outcome (Unit {0}) TiltEstimator) (t : Said × TiltEstimator) → told done_reply a ≡ t → told done_reply b ≡ t → a ≡ b
done_once = once.told_once done_reply once.done_once
