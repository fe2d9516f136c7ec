-- The digits move up with no loss, and the scaled whole number's root is the root's digits.
use Rattle.std.proofs.Common.{arith}
use Rattle.float.specs.RootLaws.{begun_low, begun_high, moved, finished}
use Rattle.float.proofs.root.root_bits.Goals as goal
use Rattle.float.proofs.root.root_bits.Goals.{then-e-gt0, else-e-gt0}

pub loop-m-init : goal.loop-m-init
loop-m-init c =
    let b = c.args.b in
    elim c.if-e-gt0.branch [ then-e-gt0 w ↦ rw (w.m-is, w.k-is) (begun_high b (omega arith) w.if-e-gt0.true) | else-e-gt0 w ↦ rw (w.m-is, w.k-is) (begun_low b (omega arith) (omega (arith, w.if-e-gt0.false))) ]

pub loop-m-preserved : goal.loop-m-preserved
loop-m-preserved c = let at = c.loop-m in moved c.args.b at.m at.k (omega arith) at.invariant (omega arith)

pub returns : goal.returns
returns c = let at = c.loop-m in finished c.args.b at.m at.k c.nearest_root-r.result at.invariant (omega arith) c.nearest_root-r.ensures
