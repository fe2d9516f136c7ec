-- It is the nested sum, worked out as far as a step notices.
use Rattle.std.proofs.Common.{[], ◌∷◌, arith}
use Rattle.trig.specs.Steps.{nest}
use Rattle.trig.proofs.Laws.Early.{whole_sum}
use Rattle.trig.proofs.cos_up.Goals as goal

pub returns : goal.returns
unfolding nest
returns c =
    let w = whole_sum c.args.v c.inner-p.result 1680 24 c.outer.result (11880 ∷ 43680 ∷ 116280 ∷ 255024 ∷ []) c.requires tt (cc) c.outer.ensures in
    (w.0, omega (arith, w.1))
