-- The headings passed are near the mean.
use Rattle.std.proofs.Common.{◌≡◌}
use Rattle.yawrate.specs.Ring.{near_to}
use Rattle.yawrate.proofs.ring.are_near.Given as goal

abbrev pub invariant-loop-heading : goal.invariant-loop-heading
invariant-loop-heading l = l.ok ≡ near_to l.mean l.tolerance l.headings l.heading-index
