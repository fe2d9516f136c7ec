-- The measure is the room that is left and how often a read may still be made again. What was read stands at the buffer's front.
use Rattle.std.proofs.Common.{◌-◌, ◌≤◌, ◌≡◌, length, ◌+◌, take}
use Rattle.std.specs.Io.KnownBytes.{Consumes}
use Rattle.replay.proofs.read_log.Given as goal

abbrev pub invariant-loop-used : goal.invariant-loop-used
invariant-loop-used g l = (length l.log ≡ 65537) × (l.used ≤ 65537) × Consumes (g.R.Read.remaining l.initial.from) (g.R.Read.remaining l.from) (take l.used l.log)

abbrev pub decreases-loop-used : goal.decreases-loop-used
decreases-loop-used g l = (65537 - l.used) + l.again
