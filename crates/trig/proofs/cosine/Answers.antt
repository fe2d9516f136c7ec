-- Within 4 the calls are the definition's steps, and beyond it is a NaN.
use Rattle.std.proofs.Common.{sym, ◌∙◌}
use Rattle.std.specs.Float.Ieee.{of_bits}
use Rattle.trig.specs.Cases.{cosine_inside, cosine_beyond}
use Rattle.trig.proofs.cosine.Goals as goal

pub returns-then-is_within : goal.returns-then-is_within
returns-then-is_within c = cc (cosine_inside c.args.a (sym c.is_within.ensures ∙ c.if-is_within.true))

pub returns-else-is_within : goal.returns-else-is_within
unfolding of_bits
returns-else-is_within c = sym (cosine_beyond c.args.a (sym c.is_within.ensures ∙ c.if-is_within.false))
