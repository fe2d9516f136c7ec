-- The sum over the angles passed.
use Rattle.std.proofs.Common.{◌≡◌}
use Rattle.trig.specs.Row.{sum_to}
use Rattle.trig.specs.Table.{read, entry_of}
use Rattle.trig.proofs.table.Table.sum.Given as goal

abbrev pub invariant-loop-a : goal.invariant-loop-a
invariant-loop-a l = l.sum ≡ sum_to (read l.odd (entry_of l.self.entries)) l.start l.row l.a-index
