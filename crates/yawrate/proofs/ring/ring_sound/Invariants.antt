-- The slots passed are sound.
use Rattle.std.proofs.Common.{◌≡◌}
use Rattle.learner.specs.Ranges.{is_course}
use Rattle.yawrate.specs.Ring.{all_to}
use Rattle.yawrate.proofs.ring.ring_sound.Given as goal

abbrev pub invariant-loop-heading : goal.invariant-loop-heading
invariant-loop-heading l = l.ok ≡ all_to is_course l.fn.h l.heading-index
