-- Within 4 the calls are the steps of both definitions, and beyond both are a NaN.
use Rattle.std.proofs.Common.{sym, ◌∙◌}
use Rattle.std.specs.Float.Ieee.{of_bits}
use Rattle.trig.specs.Cases.{sine_inside, sine_beyond, cosine_inside, cosine_beyond}
use Rattle.trig.proofs.Distance.{small_angle}
use Rattle.trig.proofs.sine_and_cosine.Goals as goal

pub is_negative-requires : goal.is_negative-requires
is_negative-requires c = (small_angle c.args.a (sym c.is_within.ensures ∙ c.if-is_within.true)).is_finite

pub returns-then-is_within : goal.returns-then-is_within
returns-then-is_within c =
    let w = sym c.is_within.ensures ∙ c.if-is_within.true in
    (cc (sine_inside c.args.a w), cc (cosine_inside c.args.a w))

pub returns-else-is_within : goal.returns-else-is_within
unfolding of_bits
returns-else-is_within c =
    let w = sym c.is_within.ensures ∙ c.if-is_within.false in
    (sym (sine_beyond c.args.a w), sym (cosine_beyond c.args.a w))
