-- The digits of the pattern, shifted once, are the size in the units asked for.
use Rattle.std.proofs.Common.{sym, subst, T, arith}
use Rattle.std.specs.Float.Ieee.{of_bits}
use Rattle.trig.proofs.Laws.Shift.{exponent_most, units_tiny, units_shifted}
use Rattle.trig.proofs.units.Goals as goal

pub overflow_sub-result : goal.overflow_sub-result
unfolding of_bits
overflow_sub-result c = omega (arith, exponent_most c.args.v c.args.places (subst T (sym c.well_formed.1.0.1) tt) c.requires.2 c.requires.1)

pub returns-then-exponent-lt126 : goal.returns-then-exponent-lt126
unfolding of_bits
returns-then-exponent-lt126 c = units_tiny c.args.v c.args.places (subst T (sym c.well_formed.1.0.1) tt) c.requires.2 c.requires.1 c.if-exponent-lt126.true

pub returns : goal.returns
unfolding of_bits
returns c = units_shifted c.args.v c.args.places (subst T (sym c.well_formed.1.0.1) tt) c.requires.2 c.requires.1 c.if-exponent-lt126.false
