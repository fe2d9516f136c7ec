-- How a course enters the ring or the aligner (document 02, C-17). Definitions only.
use Rattle.std.specs.Prelude.{Bool, Float}
use Rattle.std.specs.Float.Ieee.Scale.{finite}
use Rattle.float.specs.Wrap.{wrapped}
use Rattle.call.specs.Said.{done}
use Rattle.call.specs.Port.{Asked, given}
use Rattle.learner.specs.Ranges.{takes_course}

-- of size up to 32, it is folded by the bounded wrap before it is stored; `store` gives the learner with a course stored
abbrev pub entered : {S : Type 0} → Bool → (Float → S) → Float → Asked S
entered config store course = given (finite course) (takes_course course) config (done, store (wrapped course))
