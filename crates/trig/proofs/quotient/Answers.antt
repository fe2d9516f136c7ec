-- What is taken for 1 / d is close enough.
use Rattle.std.proofs.Common.{◌∙◌, arith}
use Rattle.trig.proofs.Laws.Quotient.{by_reciprocal}
use Rattle.trig.proofs.quotient.Goals as goal

pub returns : goal.returns
returns c = c.upper_half.ensures ∙ by_reciprocal c.args.x c.args.d (omega arith) c.requires.1
