-- antt computes one test over the whole constant.
use Rattle.std.proofs.Common.{refl}
use Rattle.trig.specs.Series.{scale, coef}
use Rattle.trig.specs.Table.{cosine_entry}
use Rattle.trig.proofs.Laws.Entries.{cosine_bounds}
use Rattle.trig.proofs.Laws.Tabled.{tested, holds_most}
use Rattle.trig.proofs.table.Table.cosines.Goals as goal

pub invariant_of-result : goal.invariant_of-result
unfolding cosine_entry scale coef
invariant_of-result c = record { at_most_one = holds_most cosine_entry _ cosine_bounds (tested cosine_entry _ refl tt) }

pub returns : goal.returns
unfolding cosine_entry scale coef
returns c = tested cosine_entry _ refl tt
