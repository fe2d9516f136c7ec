use Rattle.std.proofs.Common.{sym}
use Rattle.trig.specs.RowLaws.{sum_start, sum_next}
use Rattle.trig.specs.Table.{read, entry_of}
use Rattle.trig.proofs.table.Table.sum.Goals as goal

pub loop-a-init : goal.loop-a-init
loop-a-init c = sym (sum_start _ _ _)

pub loop-a-preserved : goal.loop-a-preserved
loop-a-preserved c =
    let at = c.loop-a in
    let t = c.args.self.now in
    simp (at.invariant, c.read-sum.ensures, sum_next (read c.args.odd (entry_of t.entries)) c.args.start c.args.row.now at.a-index)
