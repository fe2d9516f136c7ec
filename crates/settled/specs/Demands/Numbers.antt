-- "No filter, learner or low-pass call gives 7 to 10": none gives a number above 6. Assumes nothing.
use Rattle.std.specs.Prelude.{◌≤◌}
use Rattle.call.specs.Said.{Said, number}
use Rattle.call.specs.PortLaws.{at_most_six, making_at_most_six}
use Rattle.settled.specs.Demands.Stated.{Everywhere}
use Rattle.settled.specs.Demands.Met.{everywhere}

-- of the calls of a record, and of a making
abbrev pub AtMostSix : {C S : Type 0} → (C → S → Said × S) → Type 0
AtMostSix {C} {S} on = (c : C) (s : S) → number (on c s).0 ≤ 6

abbrev pub AtMostSixMaking : {P S : Type 0} → (P → Said × S) → Type 0
AtMostSixMaking {P} made = (p : P) → number (made p).0 ≤ 6

pub never_above_six : Everywhere (λ C S p on. AtMostSix on) (λ P S m made. AtMostSixMaking made)
never_above_six = everywhere _ _ (λ C S p on h c s. rw (h c s) (at_most_six p c s)) (λ P S m made h p. rw (h p) (making_at_most_six m p))
