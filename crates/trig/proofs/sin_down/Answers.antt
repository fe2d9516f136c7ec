-- It is the nested sum, worked out as far as a step notices.
use Rattle.std.proofs.Common.{[], ◌∷◌, arith}
use Rattle.trig.specs.Steps.{nest}
use Rattle.trig.proofs.Laws.Early.{whole_sum}
use Rattle.trig.proofs.sin_down.Goals as goal

pub returns : goal.returns
unfolding nest
returns c =
    let w = whole_sum c.args.v c.inner.result 7920 840 c.outer.result (32760 ∷ 93024 ∷ 212520 ∷ []) c.requires tt c.inner.ensures.0 c.outer.ensures in
    (w.0, omega (arith, w.1))
