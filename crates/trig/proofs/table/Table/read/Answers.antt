-- Within 4 the calls are the definition's steps, and beyond it is a NaN.
use Rattle.std.proofs.Common.{sym, ◌∙◌}
use Rattle.std.specs.Float.Ieee.{of_bits}
use Rattle.trig.specs.Table.{entry_of}
use Rattle.trig.proofs.Distance.{small_angle}
use Rattle.trig.proofs.Laws.Tabled.{read_inside, read_beyond}
use Rattle.trig.proofs.table.Table.read.Goals as goal

pub is_negative-requires : goal.is_negative-requires
is_negative-requires c = (small_angle c.args.a (sym c.is_within.ensures ∙ c.if-is_within.true)).is_finite

pub returns-then-is_within : goal.returns-then-is_within
returns-then-is_within c =
    simp (c.turned.ensures, c.lowered.ensures, c.line.ensures, c.whole.ensures.0, c.is_negative.ensures, read_inside c.args.odd (entry_of c.args.self.now.entries) c.args.a (sym c.is_within.ensures ∙ c.if-is_within.true))

pub returns-else-is_within : goal.returns-else-is_within
unfolding of_bits
returns-else-is_within c = sym (read_beyond c.args.odd (entry_of c.args.self.now.entries) c.args.a (sym c.is_within.ensures ∙ c.if-is_within.false))
