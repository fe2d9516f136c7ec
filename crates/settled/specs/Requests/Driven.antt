-- Request C-13: a drive answers the same whenever its clock began. Assumes nothing.
use Rattle.std.specs.Prelude.{ℕ, ◌≡◌, List}
use Rattle.std.proofs.Common.{ap}
use Rattle.call.specs.Said.{Said}
use Rattle.ekf.specs.Machines.{run, run_in}
use Rattle.gps.specs.Gps.{GpsCall, fresh, on_gps}
use Rattle.gps.specs.Clock.{later, later_call, same_later}
use Rattle.gps.specs.declared.GpsAcceleration.{GpsAcceleration}

-- from a fresh learner, every time k milliseconds later: every answer is the same, refusals too
pub drive_later : (k : ℕ) (calls : List GpsCall) → (run (λ c s. on_gps (later_call k c) s) calls fresh).0 ≡ (run on_gps calls fresh).0
drive_later k calls = ap (λ (r : List Said × GpsAcceleration). r.0) (run_in (later k) (λ c s. on_gps (later_call k c) s) on_gps (same_later k) calls fresh)
