-- The loop's measure is the turns that are left.
use Rattle.std.proofs.Common.{◌≡◌, T}
use Rattle.float.specs.Loop.{turns}
use Rattle.float.specs.Wrap.{inside, deep, up, lifted}
use Rattle.float.proofs.wrap.lift.Given as goal

abbrev pub invariant-loop-x : goal.invariant-loop-x
invariant-loop-x l = T (inside l.x) × (lifted l.x ≡ lifted l.a)

abbrev pub decreases-loop-x : goal.decreases-loop-x
decreases-loop-x l = turns deep up 10 l.x
