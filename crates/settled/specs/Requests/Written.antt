-- Request C-11: a log written record by record replays as the list of its records. Assumes nothing.
use Rattle.std.specs.Prelude.{ℕ, ◌≡◌, List, take}
use Rattle.std.proofs.Common.{ap, ◌∙◌, arith}
use Rattle.tracklog.specs.Record.{LogRecord}
use Rattle.tracklog.specs.Reading.{standing_in}
use Rattle.writer.specs.Log.{Appends, written_log, written_records}
use Rattle.verdicts.specs.Replay.{begun, verdicts}
use Rattle.verdicts.specs.ByList.{replayed, replays_list}

-- each record has the answer of its call, up to the first that may not stand where it does or a configuration that is refused
pub written_replays :
    {end : ℕ} {buf left : List ℕ} {rs : List LogRecord} → Appends 0 buf rs end left
    → (let q = standing_in 1 rs in verdicts (take end left) ≡ replayed q.records q.ending begun.drive)
written_replays {end} {buf} {left} {rs} p = ap verdicts (written_records p).0 ∙ replays_list rs (written_log (omega arith) p).known
