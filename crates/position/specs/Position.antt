-- The position channel: x[0], x[1], p[0], p[1], NIS sum and count, the last GPS pair and its flag, the position tallies, the run of rejections, and `r_pos`, which the definitions call r. And that two outcomes which are told alike are one.
use Rattle.std.specs.Prelude.{ℕ, ◌+◌, ◌≡◌, Bool, true, false, ◌&&◌, cond, ltb, leb, Float}
use Rattle.std.specs.Float.Ieee.{lt}
use Rattle.std.specs.Float.Ieee.Scale.{finite}
use Rattle.float.specs.Value.{f32, ◌⊕◌, ◌⊖◌, ◌⊗◌, ◌⊘◌, zero32}
use Rattle.float.specs.Root.{root}
use Rattle.float.specs.Count.{count_stop, count_float}
use Rattle.call.specs.Said.{Said, Reply, done, value, pair, told}
use Rattle.call.specs.Once as once
use Rattle.call.specs.Port.{Asked, Port, given, bare, settled_by}
use Rattle.channel.specs.Ranges.{is_position, is_nis_sum, is_nis_count, is_measurement_noise, takes_position}
use Rattle.channel.specs.Answers.{verdict, verdict_once, counts}
use Rattle.channel.specs.Kalman.{axis_sound, origin, corrected, at_least, one32}
use Rattle.channel.specs.Gate.{gated, one_accepted, one_rejected, no_tallies}
use Rattle.call.specs.declared.Outcome.{Outcome}
use Rattle.channel.specs.declared.Verdict.{Verdict}
use Rattle.channel.specs.declared.Axis.{Axis}
use Rattle.channel.specs.declared.Tallies.{Tallies}
use Rattle.position.specs.declared.Nis.{Nis}
use Rattle.position.specs.declared.LastFix.{LastFix}
use Rattle.position.specs.declared.Position.{Position}

pub data PositionCall : Type 0 where
  update_position : Float → Float → PositionCall
  lock_position : PositionCall
  skip_prediction : PositionCall
  reset_nis_stats : PositionCall
  position : PositionCall
  position_gate_stats : PositionCall
  get_nis_position_avg : PositionCall
  get_gps_discrepancy : PositionCall
  get_effective_pos_sigma : PositionCall

-- two outcomes told alike are one
pub told_once : (a b : Outcome Verdict Position) (t : Said × Position) → told verdict a ≡ t → told verdict b ≡ t → a ≡ b
told_once = once.told_once verdict verdict_once

-- ---- a channel as it is made, and with some of its numbers changed
abbrev pub no_nis : Nis
no_nis = record { sum = zero32; count = 0 }

-- x is 0 and p is 100; there is no last GPS pair, and nothing was rejected
abbrev pub fresh_position : Position
fresh_position =
    record {
      x = origin (f32 0x42c8_0000);
      y = origin (f32 0x42c8_0000);
      nis = no_nis;
      last_fix = record { x = zero32; y = zero32; known = false };
      tallies = no_tallies;
      run = 0;
    }

abbrev pub with_axes : Axis → Axis → Position → Position
with_axes x y s = record { x = x; y = y; nis = s.nis; last_fix = s.last_fix; tallies = s.tallies; run = s.run }

-- p[0] and p[1] become v and w
abbrev pub with_variances : Float → Float → Position → Position
with_variances v w s = with_axes (record { x = s.x.x; p = v }) (record { x = s.y.x; p = w }) s

abbrev pub with_nis : Nis → Position → Position
with_nis n s = record { x = s.x; y = s.y; nis = n; last_fix = s.last_fix; tallies = s.tallies; run = s.run }

abbrev pub with_tallies : Tallies → Position → Position
with_tallies t s = record { x = s.x; y = s.y; nis = s.nis; last_fix = s.last_fix; tallies = t; run = s.run }

abbrev pub with_run : ℕ → Position → Position
with_run k s = record { x = s.x; y = s.y; nis = s.nis; last_fix = s.last_fix; tallies = s.tallies; run = k }

-- ---- every number of the channel, the last GPS pair also while its flag is false
abbrev pub nis_sound : Nis → Bool
nis_sound n = is_nis_sum n.sum && is_nis_count n.count

abbrev pub last_fix_sound : LastFix → Bool
last_fix_sound l = is_position l.x && is_position l.y

-- "a sound state has it at most 7" (document 02, C-19)
abbrev pub run_limit : ℕ
run_limit = 7

abbrev pub run_sound : ℕ → Bool
run_sound k = leb k run_limit

abbrev pub position_sound : Position → Bool
position_sound s = (axis_sound is_position s.x && axis_sound is_position s.y) && ((nis_sound s.nis && last_fix_sound s.last_fix) && run_sound s.run)

-- ---- update_position
-- CHI2_GATE_POSITION * 2.0: 32.0
abbrev pub chi2_gate_position : Float
chi2_gate_position = f32 0x4200_0000

-- mahal_sq = (y_x * y_x) / s_x + (y_y * y_y) / s_y
abbrev pub position_gate_value : Position → Float → Float → Float → Float
position_gate_value s z_x z_y r =
    let y_x = z_x ⊖ s.x.x in
    let y_y = z_y ⊖ s.y.x in
    let s_x = s.x.p ⊕ r in
    let s_y = s.y.p ⊕ r in
    y_x ⊗ y_x ⊘ s_x ⊕ y_y ⊗ y_y ⊘ s_y

-- the gate value is added to the sum and 1 to the count; at count 16,777,216 both stand still
abbrev pub noted : Nis → Float → Nis
noted n mahal_sq = cond (ltb n.count count_stop) (record { sum = n.sum ⊕ mahal_sq; count = n.count + 1 }) n

-- a rejected fix, as the Rust leaves it
abbrev pub rejected_once : Position → Position
rejected_once s = with_tallies (one_rejected s.tallies) s

-- p[0] and p[1] become the larger of their value and 100
abbrev pub reopened : Position → Position
reopened s = with_variances (at_least (f32 0x42c8_0000) s.x.p) (at_least (f32 0x42c8_0000) s.y.p) s

-- one more in the run; the eighth in a row opens the gate again, and a new run begins (document 02, C-19)
abbrev pub position_away : Position → Position
position_away s = cond (ltb s.run run_limit) (with_run (s.run + 1) (rejected_once s)) (with_run 0 (reopened (rejected_once s)))

-- an accepted fix, which is kept and ends the run
abbrev pub position_taken : Position → Float → Float → Float → Float → Position
position_taken s z_x z_y r mahal_sq =
    record {
      x = corrected s.x z_x r;
      y = corrected s.y z_y r;
      nis = noted s.nis mahal_sq;
      last_fix = record { x = z_x; y = z_y; known = true };
      tallies = one_accepted s.tallies;
      run = 0;
    }

abbrev pub updated_position : Float → Float → Float → Position → Reply × Position
updated_position z_x z_y r s =
    let mahal_sq = position_gate_value s z_x z_y r in
    gated chi2_gate_position mahal_sq (position_away s) (position_taken s z_x z_y r mahal_sq)

-- ---- the other changes
-- p[0] = 1.0; p[1] = 1.0
abbrev pub locked_position : Position → Position
locked_position s = with_variances one32 one32 s

-- p[0] += 1e-6; p[1] += 1e-6
abbrev pub skipped_position : Position → Position
skipped_position s = with_variances (s.x.p ⊕ f32 0x3586_37bd) (s.y.p ⊕ f32 0x3586_37bd) s

abbrev pub reset_nis : Position → Position
reset_nis s = with_nis no_nis s

-- ---- what the readers show
-- sum / count, and 2.0 at count 0
abbrev pub nis_average : Nis → Float
nis_average n = cond (ltb 0 n.count) (n.sum ⊘ count_float n.count) (f32 0x4000_0000)

-- (dx * dx + dy * dy).sqrt(), and 0.0 without a last GPS pair
abbrev pub discrepancy_of : Position → Float
discrepancy_of s =
    let dx = s.x.x ⊖ s.last_fix.x in
    let dy = s.y.x ⊖ s.last_fix.y in
    cond s.last_fix.known (root (dx ⊗ dx ⊕ dy ⊗ dy)) zero32

abbrev pub nis_inflation : Float → Float
nis_inflation nis_avg = cond (lt (f32 0x4000_0000) nis_avg) (root (nis_avg ⊘ f32 0x4000_0000)) one32

abbrev pub discrepancy_inflation : Float → Float
discrepancy_inflation discrepancy = cond (lt (f32 0x40a0_0000) discrepancy) (one32 ⊕ (discrepancy ⊖ f32 0x40a0_0000) ⊘ f32 0x4120_0000) one32

-- the base sigma inflated twice, and at least POS_SIGMA_FLOOR: 2.5
abbrev pub effective_sigma : Position → Float
effective_sigma s =
    let base_sigma = root (s.x.p ⊕ s.y.p) in
    let inflated_sigma = base_sigma ⊗ nis_inflation (nis_average s.nis) ⊗ discrepancy_inflation (discrepancy_of s) in
    at_least (f32 0x4020_0000) inflated_sigma

-- ---- the calls: what is tested, and what the Rust answers and leaves
abbrev pub asks_position : Float → PositionCall → Position → Asked Position
asks_position r (update_position z_x z_y) s =
    given (finite z_x && finite z_y) (takes_position z_x && takes_position z_y) (is_measurement_noise r) (updated_position z_x z_y r s)
asks_position r lock_position s = bare (is_measurement_noise r) (done, locked_position s)
asks_position r skip_prediction s = bare (is_measurement_noise r) (done, skipped_position s)
asks_position r reset_nis_stats s = bare (is_measurement_noise r) (done, reset_nis s)
asks_position r position s = bare (is_measurement_noise r) (pair s.x.x s.y.x, s)
asks_position r position_gate_stats s = bare (is_measurement_noise r) (counts s.tallies.accepted s.tallies.rejected, s)
asks_position r get_nis_position_avg s = bare (is_measurement_noise r) (value (nis_average s.nis), s)
asks_position r get_gps_discrepancy s = bare (is_measurement_noise r) (value (discrepancy_of s), s)
asks_position r get_effective_pos_sigma s = bare (is_measurement_noise r) (value (effective_sigma s), s)

abbrev pub position_port : Float → Port PositionCall Position
position_port r = record { sound = position_sound; asks = asks_position r }

abbrev pub on_position : Float → PositionCall → Position → Said × Position
on_position r c s = settled_by (position_port r) c s
