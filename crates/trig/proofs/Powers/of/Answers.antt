-- The cuts are the definition's.
use Rattle.trig.specs.Steps.{square, fourth}
use Rattle.trig.proofs.Laws.Powers.{powered}
use Rattle.trig.proofs.Powers.of.Goals as goal

pub invariant_of-result : goal.invariant_of-result
unfolding square fourth
invariant_of-result c = record { powered = powered c.args.n c.requires }
