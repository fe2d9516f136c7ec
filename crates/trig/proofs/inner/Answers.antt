-- Below 2 ^ 14 the next step does not notice the inner ones.
use Rattle.std.proofs.Common.{arith}
use Rattle.trig.specs.Evaluation.{onto}
use Rattle.trig.proofs.Laws.Early.{onto_most, unnoticed}
use Rattle.trig.proofs.inner.Goals as goal

pub returns-then-v-lt16384 : goal.returns-then-v-lt16384
returns-then-v-lt16384 c =
    let a = c.args in
    let h = c.requires in
    let m = onto_most a.v (onto a.v a.p a.c) a.b h.0 (onto_most a.v a.p a.c h.0 h.1 h.6) h.4 in
    (unnoticed a.v (onto a.v (onto a.v a.p a.c) a.b) a.a c.if-v-lt16384.true m h.2, omega arith)
