use Rattle.std.proofs.Common.{◌∙◌, true}
use Rattle.trig.specs.Table.{sine_entry}
use Rattle.trig.proofs.Laws.Tabled.{holds_sum}
use Rattle.trig.proofs.table.sine_sum.Goals as goal

pub returns : goal.returns
returns c = c.sum.ensures ∙ holds_sum true sine_entry c.sines.result.entries c.args.start c.args.row.now c.sines.ensures
