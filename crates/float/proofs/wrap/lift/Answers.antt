use Rattle.std.proofs.Common.{sym, ◌∙◌}
use Rattle.float.specs.Loop.{run_stop, run_keeps, falls}
use Rattle.float.specs.Wrap.{deep, up}
use Rattle.float.specs.WrapLaws.{up_inside, lifted_ends}
use Rattle.float.proofs.wrap.lift.Goals as goal

pub loop-x-smaller : goal.loop-x-smaller
loop-x-smaller c = let at = c.loop-x in falls deep up 9 at.x c.loop-x-test.true (lifted_ends at.x at.invariant.0)

pub loop-x-preserved : goal.loop-x-preserved
loop-x-preserved c =
    let at = c.loop-x in
    (up_inside at.x at.invariant.0 c.loop-x-test.true, run_keeps deep up 9 at.x c.loop-x-test.true (lifted_ends at.x at.invariant.0) ∙ at.invariant.1)

pub returns : goal.returns
returns c = let at = c.loop-x in sym (run_stop deep up 10 at.x c.loop-x-test.false) ∙ at.invariant.1
