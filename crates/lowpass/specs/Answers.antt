-- That two outcomes of the low-pass which are told alike are one: of a sample, and of a making or a reset.
use Rattle.std.specs.Prelude.{◌≡◌, Float, Result}
use Rattle.call.specs.Said.{Said, done_reply, value, value_in, said, told}
use Rattle.call.specs.Once as once
use Rattle.call.specs.declared.refusal.Refusal.{Refusal}
use Rattle.call.specs.declared.Outcome.{Outcome}
use Rattle.lowpass.specs.declared.BiquadFilter.{BiquadFilter}

answer_back : (a : Result Float Refusal) → once.answer_from value_in (said value a) ≡ a
answer_back = once.answer_back value value_in once.value_back

pub told_once : (a b : Outcome Float BiquadFilter) (t : Said × BiquadFilter) → told value a ≡ t → told value b ≡ t → a ≡ b
told_once = once.told_once value once.value_once

pub done_once : (a b : Outcome (Unit {0}) BiquadFilter) (t : Said × BiquadFilter) → told done_reply a ≡ t → told done_reply b ≡ t → a ≡ b
done_once = once.told_once done_reply once.done_once
