-- An unknown operation writes nothing.
use Rattle.std.proofs.Common.{◌≡◌, refl, ℕ, ◌<◌, ◌≤◌, false, eqb, ne_eqb, arith}
use Rattle.words.specs.Left.{shows_refusal, reads_as}
use Rattle.boundary_learners.specs.Aligner.{called}
use Rattle.boundary_learners.proofs.heading_aligner.track_aligner.Goals as goal

-- there are 8 operations
other : (n i : ℕ) → 8 ≤ n → i < 8 → eqb n i ≡ false
other n i h k = ne_eqb n i (λ (e : n ≡ i). omega arith)

pub returns-in_default : goal.returns-in_default
unfolding called
returns-in_default c =
    let n = c.args.operation in
    let h : 8 ≤ n = omega arith in
    simp (other n 0 h (omega arith), other n 1 h (omega arith), other n 2 h (omega arith), other n 3 h (omega arith), other n 4 h (omega arith), other n 5 h (omega arith), other n 6 h (omega arith), other n 7 h (omega arith)) (reads_as refl (shows_refusal refl))
