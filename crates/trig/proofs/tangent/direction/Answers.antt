-- Both arguments are usable.
use Rattle.std.proofs.Common.{sym, subst, T, lit≤}
use Rattle.trig.proofs.Laws.Usable.{argument}
use Rattle.trig.proofs.tangent.direction.Goals as goal

pub is_negative-requires : goal.is_negative-requires
is_negative-requires c = (argument c.args.x (subst T (sym c.well_formed.1.0.1) tt) c.requires.1).is_finite

pub units-requires : goal.units-requires
units-requires c = (lit≤ tt, lit≤ tt, (argument c.args.y (subst T (sym c.well_formed.0.1) tt) c.requires.0).at_most_large)

pub units-requires-2 : goal.units-requires-2
units-requires-2 c = (lit≤ tt, lit≤ tt, (argument c.args.x (subst T (sym c.well_formed.1.0.1) tt) c.requires.1).at_most_large)

pub bearing-k-requires : goal.bearing-k-requires
bearing-k-requires c =
    let y = argument c.args.y (subst T (sym c.well_formed.0.1) tt) c.requires.0 in
    let x = argument c.args.x (subst T (sym c.well_formed.1.0.1) tt) c.requires.1 in
    (rw c.units.ensures y.units_most, rw c.units-2.ensures x.units_most)

pub is_negative-requires-2 : goal.is_negative-requires-2
is_negative-requires-2 c = (argument c.args.y (subst T (sym c.well_formed.0.1) tt) c.requires.0).is_finite
