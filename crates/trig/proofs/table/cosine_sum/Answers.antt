use Rattle.std.proofs.Common.{◌∙◌, false}
use Rattle.trig.specs.Table.{cosine_entry}
use Rattle.trig.proofs.Laws.Tabled.{holds_sum}
use Rattle.trig.proofs.table.cosine_sum.Goals as goal

pub returns : goal.returns
returns c = c.sum.ensures ∙ holds_sum false cosine_entry c.cosines.result.entries c.args.start c.args.row.now c.cosines.ensures
