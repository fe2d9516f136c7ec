-- -0 and what is added is what is added.
use Rattle.std.proofs.Common.{◌∙◌, true}
use Rattle.trig.specs.Table.{sine_entry, table_sine}
use Rattle.trig.specs.RowLaws.{sum_one}
use Rattle.trig.proofs.Laws.Results.{unrefused}
use Rattle.trig.proofs.TableDistance.{read_fits}
use Rattle.trig.proofs.table.sin.Goals as goal

pub returns : goal.returns
returns c = unrefused c.in_ok-angle.ensures (c.sine_sum.ensures ∙ sum_one table_sine c.args.a (read_fits true sine_entry c.args.a))
