-- The sums of halves' products carry what the whole product carries.
use Rattle.std.proofs.Common.{◌+◌, ◌/◌, ◌%◌}
use Rattle.trig.proofs.Laws.Quotient.{upper_half}
use Rattle.trig.proofs.upper_half.Goals as goal

pub returns : goal.returns
returns c =
    let s = c.args in
    let a = c.wide.result + c.wide-2.result / 4294967296 in
    let b = c.wide-3.result + a % 4294967296 in
    cc (upper_half s.x s.y a b (cc) (cc))
