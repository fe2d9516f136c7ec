use Rattle.std.proofs.Common.{sym, ◌∙◌}
use Rattle.float.specs.Loop.{run_stop, run_keeps, falls}
use Rattle.float.specs.Wrap.{high, down}
use Rattle.float.specs.WrapLaws.{down_inside, lowered_ends}
use Rattle.float.proofs.wrap.lower.Goals as goal

pub loop-x-smaller : goal.loop-x-smaller
loop-x-smaller c = let at = c.loop-x in falls high down 9 at.x c.loop-x-test.true (lowered_ends at.x at.invariant.0)

pub loop-x-preserved : goal.loop-x-preserved
loop-x-preserved c =
    let at = c.loop-x in
    (down_inside at.x at.invariant.0 c.loop-x-test.true, run_keeps high down 9 at.x c.loop-x-test.true (lowered_ends at.x at.invariant.0) ∙ at.invariant.1)

pub returns : goal.returns
returns c = let at = c.loop-x in sym (run_stop high down 10 at.x c.loop-x-test.false) ∙ at.invariant.1
