-- n is at most 2 ^ 30, so that both places lie within the table.
use Rattle.std.proofs.Common.{refl}
use Rattle.trig.specs.Table.{line}
use Rattle.trig.proofs.table.Table.line.Goals as goal

pub returns : goal.returns
unfolding line
returns c = rw (c.entry-a.ensures, c.entry-b.ensures, c.next.ensures) refl
