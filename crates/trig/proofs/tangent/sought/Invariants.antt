-- The ends are on the way from the bracket's, with turns enough left; the measure is what lies between them.
use Rattle.std.proofs.Common.{◌≤◌, ◌-◌}
use Rattle.trig.proofs.Laws.Turns.{Going}
use Rattle.trig.proofs.tangent.sought.Given as goal

abbrev pub invariant-loop-lo : goal.invariant-loop-lo
invariant-loop-lo l = (l.lo ≤ l.hi) × (l.hi ≤ 13176795) × Going l.left l.y l.x l.guess l.low l.high l.lo l.hi

abbrev pub decreases-loop-lo : goal.decreases-loop-lo
decreases-loop-lo l = l.hi - l.lo
