-- An angle within 4 has at most 2 ^ 30 units.
use Rattle.std.proofs.Common.{arith, lit≤}
use Rattle.std.specs.Float.Ieee.Bits.{is_true}
use Rattle.trig.proofs.Distance.{small_angle}
use Rattle.trig.proofs.whole.Goals as goal

pub units-requires : goal.units-requires
units-requires c = (lit≤ tt, lit≤ tt, (small_angle c.args.a (is_true _ c.requires)).at_most_large)

pub overflow_cast-result : goal.overflow_cast-result
overflow_cast-result c = omega (arith, c.units.ensures, (small_angle c.args.a (is_true _ c.requires)).n_small)

pub returns : goal.returns
returns c = (c.units.ensures, omega (arith, c.units.ensures, (small_angle c.args.a (is_true _ c.requires)).n_small))
