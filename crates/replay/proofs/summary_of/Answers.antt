use Rattle.std.proofs.Common.{ap, arith}
use Rattle.buckets.specs.declared.Summary.{Summary}
use Rattle.verdicts.specs.Run.{Finished}
use Rattle.summary.specs.SummarizedLaws.{records_most}
use Rattle.replay.proofs.summary_of.Goals as goal

pub overflow_add-end : goal.overflow_add-end
overflow_add-end g c =
    let n = ap (λ (q : Finished Summary). q.records) c.summarize-end.ensures in
    omega (arith, n, records_most c.args.log.now)
