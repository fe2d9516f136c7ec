-- antt computes one test over the whole constant.
use Rattle.std.proofs.Common.{refl}
use Rattle.trig.specs.Series.{scale, coef}
use Rattle.trig.specs.Table.{sine_entry}
use Rattle.trig.proofs.Laws.Entries.{sine_bounds}
use Rattle.trig.proofs.Laws.Tabled.{tested, holds_most}
use Rattle.trig.proofs.table.Table.sines.Goals as goal

pub invariant_of-result : goal.invariant_of-result
unfolding sine_entry scale coef
invariant_of-result c = record { at_most_one = holds_most sine_entry _ sine_bounds (tested sine_entry _ refl tt) }

pub returns : goal.returns
unfolding sine_entry scale coef
returns c = tested sine_entry _ refl tt
