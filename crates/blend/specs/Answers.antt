-- That two answers of the blend which say the same are one.
use Rattle.std.specs.Prelude.{◌≡◌, Float, Result}
use Rattle.call.specs.Said.{Said, pair_reply, said}
use Rattle.call.specs.Once as once
use Rattle.call.specs.declared.refusal.Refusal.{Refusal}

answer_back : (a : Result (Float × Float) Refusal) → once.answer_from once.pair_in (said pair_reply a) ≡ a
answer_back = once.answer_back pair_reply once.pair_in once.pair_back

pub said_once : (a b : Result (Float × Float) Refusal) (s : Said) → said pair_reply a ≡ s → said pair_reply b ≡ s → a ≡ b
said_once = once.said_once pair_reply once.pair_once
