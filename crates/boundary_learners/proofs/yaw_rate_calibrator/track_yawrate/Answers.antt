-- The call on the calibrator that was loaded leaves what the definition gives.
use Rattle.words.specs.Left.{leaves_as, reads_as}
use Rattle.boundary_learners.specs.YawRate.{called}
use Rattle.boundary_learners.proofs.yaw_rate_calibrator.track_yawrate.Goals as goal

pub returns-in-1 : goal.returns-in-1
unfolding called
returns-in-1 c = rw c.in-1.is (leaves_as (rw c.load.ensures at c.update_heading.ensures) c.leave-in-1.ensures)

pub returns-in-2 : goal.returns-in-2
unfolding called
returns-in-2 c = rw c.in-2.is (leaves_as (rw c.load-in-2.ensures at c.update.ensures) c.leave-in-2.ensures)

pub returns-in-3 : goal.returns-in-3
unfolding called
returns-in-3 c = rw c.in-3.is (reads_as (rw c.load-in-3.ensures at c.get_bias.ensures) c.show.ensures)

pub returns-in-4 : goal.returns-in-4
unfolding called
returns-in-4 c = rw c.in-4.is (reads_as (rw c.load-in-4.ensures at c.is_valid.ensures) c.show-in-4.ensures)
