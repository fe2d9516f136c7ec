-- The digits move up with no loss.
use Rattle.float.specs.RootLaws.{Moved}
use Rattle.float.proofs.root.root_bits.Given as goal

abbrev pub invariant-loop-m : goal.invariant-loop-m
invariant-loop-m l = Moved l.b l.m l.k

abbrev pub decreases-loop-m : goal.decreases-loop-m
decreases-loop-m l = l.k
