-- The loop's measure is the turns that are left.
use Rattle.std.proofs.Common.{◌≡◌, T}
use Rattle.float.specs.Loop.{turns}
use Rattle.float.specs.Wrap.{inside, high, down, lowered}
use Rattle.float.proofs.wrap.lower.Given as goal

abbrev pub invariant-loop-x : goal.invariant-loop-x
invariant-loop-x l = T (inside l.x) × (lowered l.x ≡ lowered l.a)

abbrev pub decreases-loop-x : goal.decreases-loop-x
decreases-loop-x l = turns high down 10 l.x
