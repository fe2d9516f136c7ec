-- Each operation's call, on what was loaded, leaves what the definition gives.
use Rattle.std.proofs.Common.{ap, ◌∙◌, ◌≡◌, ℕ, ◌<◌, ◌≤◌, List, false, get_or, ne_eqb, eqb, ltb, arith}
use Rattle.std.specs.Float.{nan}
use Rattle.std.specs.Float.Ieee.{Float}
use Rattle.call.specs.Port.{inside}
use Rattle.ekf.specs.Filter.{with_position, with_velocity, with_yaw, with_bias, with_motion}
use Rattle.ekf.specs.FilterLaws.{moves_only}
use Rattle.ekf.specs.Calls.{on_filter, unknown}
use Rattle.ekf.specs.declared.EkfConfig.{EkfConfig}
use Rattle.words.specs.Left.{leaves_as, leaves_inside, reads_as, turns_unknown}
use Rattle.words.specs.Filter.{loaded}
use Rattle.boundary_filter.specs.Filter.{filter_call, called}
use Rattle.boundary_filter.proofs.track_ekf.Goals as goal

pub returns-in-0 : goal.returns-in-0
unfolding on_filter filter_call called
returns-in-0 c = rw c.in-0.is (leaves_as (rw c.load_config.ensures at c.with_config.ensures) c.leave.ensures)

pub returns-in-1 : goal.returns-in-1
unfolding on_filter filter_call called
returns-in-1 c =
    let x = c.args in
    let f = loaded x.numbers.now x.counts.now in
    let a : ℕ → Float = λ i. get_or x.arguments.now i nan in
    rw c.in-1.is (leaves_as (ap (inside (with_motion f)) (rw c.load.ensures at c.predict.ensures) ∙ moves_only (get_or x.words.now 0 0) (a 0) (a 1) (a 2) (a 3) f) c.leave-in-1.ensures)

pub returns-in-2 : goal.returns-in-2
unfolding on_filter filter_call called
returns-in-2 c = rw c.in-2.is (leaves_inside (with_position (loaded c.args.numbers.now c.args.counts.now)) (rw c.load-in-2.ensures at c.update.ensures) c.leave-in-2.ensures)

pub returns-in-3 : goal.returns-in-3
unfolding on_filter filter_call called
returns-in-3 c = rw c.in-3.is (leaves_inside (with_position (loaded c.args.numbers.now c.args.counts.now)) (rw c.load-in-3.ensures at c.lock.ensures) c.leave-in-3.ensures)

pub returns-in-4 : goal.returns-in-4
unfolding on_filter filter_call called
returns-in-4 c = rw c.in-4.is (leaves_inside (with_position (loaded c.args.numbers.now c.args.counts.now)) (rw c.load-in-4.ensures at c.skip_prediction.ensures) c.leave-in-4.ensures)

pub returns-in-5 : goal.returns-in-5
unfolding on_filter filter_call called
returns-in-5 c = rw c.in-5.is (leaves_inside (with_position (loaded c.args.numbers.now c.args.counts.now)) (rw c.load-in-5.ensures at c.reset_nis_stats.ensures) c.leave-in-5.ensures)

pub returns-in-6 : goal.returns-in-6
unfolding on_filter filter_call called
returns-in-6 c = rw c.in-6.is (leaves_inside (with_velocity (loaded c.args.numbers.now c.args.counts.now)) (rw c.load-in-6.ensures at c.update-in-6.ensures) c.leave-in-6.ensures)

pub returns-in-7 : goal.returns-in-7
unfolding on_filter filter_call called
returns-in-7 c = rw c.in-7.is (leaves_inside (with_velocity (loaded c.args.numbers.now c.args.counts.now)) (rw c.load-in-7.ensures at c.update_speed.ensures) c.leave-in-7.ensures)

pub returns-in-8 : goal.returns-in-8
unfolding on_filter filter_call called
returns-in-8 c = rw c.in-8.is (leaves_inside (with_velocity (loaded c.args.numbers.now c.args.counts.now)) (rw c.load-in-8.ensures at c.zupt.ensures) c.leave-in-8.ensures)

pub returns-in-9 : goal.returns-in-9
unfolding on_filter filter_call called
returns-in-9 c = rw c.in-9.is (leaves_inside (with_yaw (loaded c.args.numbers.now c.args.counts.now)) (rw c.load-in-9.ensures at c.update-in-9.ensures) c.leave-in-9.ensures)

pub returns-in-10 : goal.returns-in-10
unfolding on_filter filter_call called
returns-in-10 c = rw c.in-10.is (leaves_inside (with_yaw (loaded c.args.numbers.now c.args.counts.now)) (rw c.load-in-10.ensures at c.update_soft.ensures) c.leave-in-10.ensures)

pub returns-in-11 : goal.returns-in-11
unfolding on_filter filter_call called
returns-in-11 c = rw c.in-11.is (leaves_inside (with_yaw (loaded c.args.numbers.now c.args.counts.now)) (rw c.load-in-11.ensures at c.lock-in-11.ensures) c.leave-in-11.ensures)

pub returns-in-12 : goal.returns-in-12
unfolding on_filter filter_call called
returns-in-12 c = rw c.in-12.is (leaves_inside (with_yaw (loaded c.args.numbers.now c.args.counts.now)) (rw c.load-in-12.ensures at c.store_moving.ensures) c.leave-in-12.ensures)

pub returns-in-13 : goal.returns-in-13
unfolding on_filter filter_call called
returns-in-13 c = rw c.in-13.is (leaves_inside (with_bias (loaded c.args.numbers.now c.args.counts.now)) (rw c.load-in-13.ensures at c.update-in-13.ensures) c.leave-in-13.ensures)

pub returns-in-14 : goal.returns-in-14
unfolding on_filter filter_call called
returns-in-14 c = rw c.in-14.is (leaves_as (rw c.load-in-14.ensures at c.reset_gate_stats.ensures) c.leave-in-14.ensures)

pub returns-in-15 : goal.returns-in-15
unfolding on_filter filter_call called
returns-in-15 c = rw c.in-15.is (leaves_as (rw c.default.ensures at c.with_config-in-15.ensures) c.leave-in-15.ensures)

pub returns-in-16 : goal.returns-in-16
unfolding on_filter filter_call called
returns-in-16 c = rw c.in-16.is (reads_as (rw c.load-in-16.ensures at c.values.ensures) c.show.ensures)

pub returns-in-17 : goal.returns-in-17
unfolding on_filter filter_call called
returns-in-17 c = rw c.in-17.is (reads_as (rw c.load-in-17.ensures at c.gate_stats.ensures) c.show-in-17.ensures)

pub returns-in-18 : goal.returns-in-18
unfolding on_filter filter_call called
returns-in-18 c = rw c.in-18.is (reads_as (rw c.load-in-18.ensures at c.nis_avg.ensures) c.show-in-18.ensures)

pub returns-in-19 : goal.returns-in-19
unfolding on_filter filter_call called
returns-in-19 c = rw c.in-19.is (reads_as (rw c.load-in-19.ensures at c.gps_discrepancy.ensures) c.show-in-19.ensures)

pub returns-in-20 : goal.returns-in-20
unfolding on_filter filter_call called
returns-in-20 c = rw c.in-20.is (reads_as (rw c.load-in-20.ensures at c.effective_pos_sigma.ensures) c.show-in-20.ensures)

pub returns-in-21 : goal.returns-in-21
unfolding on_filter filter_call called
returns-in-21 c = rw c.in-21.is (reads_as (rw c.load-in-21.ensures at c.values-in-21.ensures) c.show-in-21.ensures)

pub returns-in-22 : goal.returns-in-22
unfolding on_filter filter_call called
returns-in-22 c = rw c.in-22.is (reads_as (rw c.load-in-22.ensures at c.speed.ensures) c.show-in-22.ensures)

pub returns-in-23 : goal.returns-in-23
unfolding on_filter filter_call called
returns-in-23 c = rw c.in-23.is (reads_as (rw c.load-in-23.ensures at c.gate_stats-in-23.ensures) c.show-in-23.ensures)

pub returns-in-24 : goal.returns-in-24
unfolding on_filter filter_call called
returns-in-24 c = rw c.in-24.is (reads_as (rw c.load-in-24.ensures at c.value.ensures) c.show-in-24.ensures)

pub returns-in-25 : goal.returns-in-25
unfolding on_filter filter_call called
returns-in-25 c = rw c.in-25.is (reads_as (rw c.load-in-25.ensures at c.gate_stats-in-25.ensures) c.show-in-25.ensures)

pub returns-in-26 : goal.returns-in-26
unfolding on_filter filter_call called
returns-in-26 c = rw c.in-26.is (reads_as (rw c.load-in-26.ensures at c.last_moving.ensures) c.show-in-26.ensures)

pub returns-in-27 : goal.returns-in-27
unfolding on_filter filter_call called
returns-in-27 c = rw c.in-27.is (reads_as (rw c.load-in-27.ensures at c.values-in-27.ensures) c.show-in-27.ensures)

-- there are 28 operations
other : (n i : ℕ) → 28 ≤ n → i < 28 → eqb n i ≡ false
other n i h k = ne_eqb n i (λ (e : n ≡ i). omega arith)

no_call : (n : ℕ) (a : List Float) (config : EkfConfig) → 28 ≤ n → filter_call n a config ≡ unknown 2
unfolding filter_call
no_call n a config h = simp (other n 0 h (omega arith), other n 1 h (omega arith), other n 2 h (omega arith), other n 3 h (omega arith), other n 4 h (omega arith), other n 5 h (omega arith), other n 6 h (omega arith), other n 7 h (omega arith), other n 8 h (omega arith), other n 9 h (omega arith), other n 10 h (omega arith), other n 11 h (omega arith), other n 12 h (omega arith), other n 13 h (omega arith), other n 14 h (omega arith), other n 15 h (omega arith), other n 16 h (omega arith), other n 17 h (omega arith), other n 18 h (omega arith), other n 19 h (omega arith), other n 20 h (omega arith), other n 21 h (omega arith), other n 22 h (omega arith), other n 23 h (omega arith), other n 24 h (omega arith), other n 25 h (omega arith), other n 26 h (omega arith), other n 27 h (omega arith))

pub returns-in_default : goal.returns-in_default
unfolding on_filter called
returns-in_default c =
    let x = c.args in
    let h : 28 ≤ x.operation = omega arith in
    simp (no_call x.operation x.arguments.now (loaded x.numbers.now x.counts.now).config h) (turns_unknown (loaded x.numbers.now x.counts.now) (ltb x.operation 16))
