use Rattle.std.proofs.Common.{◌∙◌}
use Rattle.float.specs.RootFloat.{finite_no_nan}
use Rattle.trig.proofs.Laws.Shift.{negative_is}
use Rattle.trig.proofs.is_negative.Goals as goal

pub is_sign_negative-requires : goal.is_sign_negative-requires
is_sign_negative-requires c = finite_no_nan c.args.v c.requires

pub returns : goal.returns
returns c = c.is_sign_negative.ensures ∙ negative_is c.args.v
