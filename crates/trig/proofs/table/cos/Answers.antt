-- -0 and what is added is what is added.
use Rattle.std.proofs.Common.{◌∙◌, false}
use Rattle.trig.specs.Table.{cosine_entry, table_cosine}
use Rattle.trig.specs.RowLaws.{sum_one}
use Rattle.trig.proofs.Laws.Results.{unrefused}
use Rattle.trig.proofs.TableDistance.{read_fits}
use Rattle.trig.proofs.table.cos.Goals as goal

pub returns : goal.returns
returns c = unrefused c.in_ok-angle.ensures (c.cosine_sum.ensures ∙ sum_one table_cosine c.args.a (read_fits false cosine_entry c.args.a))
