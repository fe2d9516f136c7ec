-- The call on the learner that was loaded leaves what the definition gives; an unknown operation writes nothing.
use Rattle.std.proofs.Common.{◌≡◌, refl, ℕ, ◌<◌, ◌≤◌, false, eqb, ne_eqb, arith}
use Rattle.words.specs.Left.{shows_refusal, leaves_as, reads_as}
use Rattle.boundary_learners.specs.Gps.{called}
use Rattle.boundary_learners.proofs.gps_acceleration.track_gps.Goals as goal

pub returns-in-2 : goal.returns-in-2
unfolding called
returns-in-2 c = rw c.in-2.is (leaves_as (rw (c.load-in-2.ensures, c.wide_of-in-2.ensures) at c.update_rate.ensures) c.leave-in-2.ensures)

-- there are 5 operations
other : (n i : ℕ) → 5 ≤ n → i < 5 → eqb n i ≡ false
other n i h k = ne_eqb n i (λ (e : n ≡ i). omega arith)

pub returns-in_default : goal.returns-in_default
unfolding called
returns-in_default c =
    let n = c.args.operation in
    let h : 5 ≤ n = omega arith in
    simp (other n 0 h (omega arith), other n 1 h (omega arith), other n 2 h (omega arith), other n 3 h (omega arith), other n 4 h (omega arith)) (reads_as refl (shows_refusal refl))
