-- The nearest root stays from `low` to below `high`.
use Rattle.std.proofs.Common.{◌+◌, ◌-◌, ◌*◌, ◌<◌, ◌≤◌}
use Rattle.float.proofs.root.search.Given as goal

abbrev pub invariant-loop-high : goal.invariant-loop-high
invariant-loop-high l = (8388608 ≤ l.low) × (l.low < l.high) × (l.high ≤ 16777216) × (l.low * l.low < l.n + l.low) × (l.n + l.high ≤ l.high * l.high)

abbrev pub decreases-loop-high : goal.decreases-loop-high
decreases-loop-high l = l.high - l.low
