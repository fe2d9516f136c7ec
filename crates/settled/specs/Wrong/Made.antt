-- The five wrong filters that document 01 names in "Closing the gaps in the statements", and one for the gate value, each made; and what a demand or a settled case says of a filter that is not ours. Definitions only.
use Rattle.std.specs.Prelude.{ℕ, ◌≡◌, Bool, true, ◌&&◌, cond, eqb, Float}
use Rattle.std.specs.Float.Ieee.Scale.{finite}
use Rattle.float.specs.Value.{f32, ◌⊕◌}
use Rattle.call.specs.Said.{Kind, is_done, is_accepted, is_rejected, is_shown, is_nothing, Reply, Said, answer, accepted, rejected, nothing, refused, value, value_in, number}
use Rattle.call.specs.Port.{changes, inside}
use Rattle.channel.specs.Ranges.{is_measurement_noise, takes_position}
use Rattle.position.specs.Position as position
use Rattle.position.specs.Position.{PositionCall, on_position, update_position, position_sound, position_taken, position_gate_value}
use Rattle.position.specs.declared.Position.{Position}
use Rattle.ekf.specs.Machines.{one, two, three, four}
use Rattle.ekf.specs.Calls.{Call, on_channel}
use Rattle.ekf.specs.Filter.{with_position}
use Rattle.ekf.specs.declared.Ekf.{Ekf}
use Rattle.gps.specs.Gps.{GpsCall, update, on_gps, fresh}
use Rattle.gps.specs.declared.GpsAcceleration.{GpsAcceleration}
use Rattle.settled.specs.Cases.Expected.{whole, after_k2}
use Rattle.settled.specs.Cases.Table.{hundred}
use Rattle.settled.specs.Demands.Stated.{Refuses, Equals, FilterMeets}

-- what answers the calls of the four channels
abbrev pub Filter : Type 0
Filter = Call → Ekf → Said × Ekf

abbrev pub MeetsOne : Filter → Type 0
MeetsOne on = FilterMeets (λ C S p on. Refuses p on) on

abbrev pub MeetsTwo : Filter → Type 0
MeetsTwo on = FilterMeets (λ C S p on. Equals p on) on

-- ---- K1, K2 and K11, as what a filter or a learner makes of them
-- fix (80, 0): "accepted"
abbrev pub first : PositionCall
first = update_position (whole 80) (whole 0)

-- fix (80, 1): "rejected, one tally, else unchanged"
abbrev pub second : PositionCall
second = update_position (whole 80) (whole 1)

pub record MeetsK2 (on : Filter) : Type 0 where
  pub k2 : on (one second) hundred ≡ (answer (rejected (f32 0x4200_051f)), after_k2)

-- "10 at 1.0, 12 at 1.5: nothing; then 13 at 1.75: 4.0", in milliseconds
abbrev three_fixes : (GpsCall → GpsAcceleration → Said × GpsAcceleration) → Said × Said
three_fixes on =
    let a = on (update (whole 10) 1000) fresh in
    let b = on (update (whole 12) 1500) a.1 in
    let c = on (update (whole 13) 1750) b.1 in
    (b.0, c.0)

pub record MeetsK11 (on : GpsCall → GpsAcceleration → Said × GpsAcceleration) : Type 0 where
  pub k11 : three_fixes on ≡ (answer nothing, answer (value (whole 4)))

-- ---- one that refuses all, with whatever numbers
abbrev pub refuses_all : (Call → Ekf → ℕ) → Filter
refuses_all n c f = (refused (n c f), f)

-- ---- one that never moves its state
abbrev pub never_moves : Filter
never_moves c f = ((on_channel c f).0, f)

-- ---- one that works on the first call only; a position tally that is not 0 shows that a fix came before
abbrev is_fresh : Ekf → Bool
is_fresh f = eqb f.position.tallies.accepted 0 && eqb f.position.tallies.rejected 0

abbrev pub first_only : Filter
first_only c f = cond (is_fresh f) (on_channel c f) ((on_channel c f).0, f)

-- such a learner; its flag shows that a fix came before
abbrev pub first_fix_only : GpsCall → GpsAcceleration → Said × GpsAcceleration
first_fix_only c s = cond s.has_prev_fix (answer nothing, s) (on_gps c s)

-- ---- one that always accepts, whatever its gate says
abbrev accepts_position : Float → PositionCall → Position → Said × Position
accepts_position r (position.update_position z_x z_y) s =
    changes position_sound (finite z_x && finite z_y) (takes_position z_x && takes_position z_y) (is_measurement_noise r) true s (let m = position_gate_value s z_x z_y r in (answer (accepted m), position_taken s z_x z_y r m))
accepts_position r position.lock_position s = on_position r position.lock_position s
accepts_position r position.skip_prediction s = on_position r position.skip_prediction s
accepts_position r position.reset_nis_stats s = on_position r position.reset_nis_stats s
accepts_position r position.position s = on_position r position.position s
accepts_position r position.position_gate_stats s = on_position r position.position_gate_stats s
accepts_position r position.get_nis_position_avg s = on_position r position.get_nis_position_avg s
accepts_position r position.get_gps_discrepancy s = on_position r position.get_gps_discrepancy s
accepts_position r position.get_effective_pos_sigma s = on_position r position.get_effective_pos_sigma s

abbrev pub always_accepts : Filter
always_accepts (one c) f = inside (with_position f) (accepts_position f.config.r_pos c f.position)
always_accepts (two c) f = on_channel (two c) f
always_accepts (three c) f = on_channel (three c) f
always_accepts (four c) f = on_channel (four c) f

-- ---- one with invented tallies, in answered calls
-- the position tallies set, else unchanged
abbrev with_position_tallies : ℕ → ℕ → Ekf → Ekf
with_position_tallies m n f = with_position f (position.with_tallies (record { accepted = m; rejected = n }) f.position)

abbrev invented : Said × Ekf → Said × Ekf
invented out = (out.0, cond (eqb (number out.0) 0) (with_position_tallies 7 7 out.1) out.1)

abbrev pub invents_tallies : Filter
invents_tallies (one c) f = invented (on_channel (one c) f)
invents_tallies (two c) f = on_channel (two c) f
invents_tallies (three c) f = on_channel (three c) f
invents_tallies (four c) f = on_channel (four c) f

-- ---- one whose gate value looks at another channel: a fix shows its value and the stored moving yaw together
abbrev aside_kind : Kind → Float → Reply → Reply
aside_kind is_done y r = r
aside_kind is_accepted y r = accepted (value_in r ⊕ y)
aside_kind is_rejected y r = rejected (value_in r ⊕ y)
aside_kind is_shown y r = r
aside_kind is_nothing y r = r

abbrev aside : Float → Said → Said
aside y (answer r) = answer (aside_kind r.kind y r)
aside y (refused n) = refused n

abbrev pub looks_aside : Filter
looks_aside (one c) f = let out = on_channel (one c) f in (aside f.yaw.moving.angle out.0, out.1)
looks_aside (two c) f = on_channel (two c) f
looks_aside (three c) f = on_channel (three c) f
looks_aside (four c) f = on_channel (four c) f
