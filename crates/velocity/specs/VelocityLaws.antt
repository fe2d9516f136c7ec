-- Neither `zupt` nor a reader of the velocity channel is refused with 6, the two updates can be, and the root inside is never asked below zero or beyond the finite. Assumes nothing.
use Rattle.std.specs.Prelude.{◌≡◌, refl, true, T, Float}
use Rattle.std.specs.Float.Ieee.{of_bits, to_bits, add, sub, mul, div, neg, lt, eq, le}
use Rattle.std.specs.Float.Ieee.Fits.{and_l, and_r}
use Rattle.std.specs.Float.Ieee.Scale.{finite}
use Rattle.std.specs.Float.Ieee.Positive.{positive}
use Rattle.float.specs.Value.{f32, zero32, ◌⊕◌, ◌⊗◌}
use Rattle.float.specs.Root.{root, root_bits, digits, normal, seek}
use Rattle.call.specs.Said.{refused}
use Rattle.call.specs.PortLaws.{NotSix, not_six}
use Rattle.float.specs.Intervals.{Rootable, rootable, from_within, square_in, sum_in}
use Rattle.channel.specs.Ranges.{is_velocity, is_variance, velocity_limit as most}
use Rattle.channel.specs.Kalman.{axis_sound}
use Rattle.channel.specs.Gate.{no_tallies}
use Rattle.velocity.specs.Velocity.{update_velocity, update_speed, zupt, velocity, speed, velocity_gate_stats, on_velocity, velocity_port, velocity_sound, stopped}
use Rattle.velocity.specs.declared.Velocity.{Velocity}

stopped_sound : (s : Velocity) → T (velocity_sound (stopped s))
unfolding of_bits neg le
stopped_sound s = tt

pub zupt_not_six : (r : Float) (s : Velocity) → NotSix (on_velocity r zupt s)
zupt_not_six r s = not_six (velocity_port r) zupt s (λ f u n h. stopped_sound s)

-- the readers store nothing
pub velocity_not_six : (r : Float) (s : Velocity) → NotSix (on_velocity r velocity s)
velocity_not_six r s = not_six (velocity_port r) velocity s (λ f u n h. h)

pub speed_not_six : (r : Float) (s : Velocity) → NotSix (on_velocity r speed s)
speed_not_six r s = not_six (velocity_port r) speed s (λ f u n h. h)

pub stats_not_six : (r : Float) (s : Velocity) → NotSix (on_velocity r velocity_gate_stats s)
stats_not_six r s = not_six (velocity_port r) velocity_gate_stats s (λ f u n h. h)

-- ---- what the root is asked in `speed`, `update_speed` and `predict`
facts : T (positive most) × T (finite (most ⊗ most)) × T (finite (most ⊗ most ⊕ most ⊗ most))
unfolding of_bits mul add
facts = (tt, tt, tt)

pub speed_rootable : (s : Velocity) → T (velocity_sound s) → Rootable (s.x.x ⊗ s.x.x ⊕ s.y.x ⊗ s.y.x)
speed_rootable s h =
    let x = and_l (is_velocity s.x.x) (is_variance s.x.p) (and_l (axis_sound is_velocity s.x) (axis_sound is_velocity s.y) h) in
    let y = and_l (is_velocity s.y.x) (is_variance s.y.p) (and_r (axis_sound is_velocity s.x) (axis_sound is_velocity s.y) h) in
    rootable (most ⊗ most ⊕ most ⊗ most) (s.x.x ⊗ s.x.x ⊕ s.y.x ⊗ s.y.x) facts.2
    (sum_in (most ⊗ most) (most ⊗ most) (s.x.x ⊗ s.x.x) (s.y.x ⊗ s.y.x) facts.1 facts.1
    (square_in most s.x.x facts.0 (from_within s.x.x most x)) (square_in most s.y.x facts.0 (from_within s.y.x most y)))

-- ---- `update_velocity` and `update_speed` can be refused with 6 from a sound state
-- rounding carries a velocity of -9999.999 with a variance of 1e9, corrected by 1e4, beyond its range
abbrev pub edge : Velocity
edge = record { x = record { x = f32 0xc61c_3fff; p = f32 0x4e6e_6b28 }; y = record { x = zero32; p = zero32 }; tallies = no_tallies }

pub edge_sound : velocity_sound edge ≡ true
unfolding of_bits neg le
edge_sound = refl

pub velocity_six : on_velocity (f32 0x3e4c_cccd) (update_velocity (f32 0x461c_4000) zero32) edge ≡ (refused 6, edge)
unfolding of_bits add sub mul div neg lt eq le
velocity_six = refl

-- rounding makes a variance negative
abbrev pub thin : Velocity
thin = record { x = record { x = f32 0xc5fd_1800; p = f32 0x4d07_7af0 }; y = record { x = f32 0xc3a2_4924; p = f32 0x4562_48f0 }; tallies = no_tallies }

pub thin_sound : velocity_sound thin ≡ true
unfolding of_bits neg le
thin_sound = refl

pub speed_six : on_velocity (f32 0x3e4c_cccd) (update_speed (f32 0x3ed5_7a78)) thin ≡ (refused 6, thin)
unfolding of_bits to_bits add sub mul div neg lt eq le root root_bits digits normal seek
speed_six = refl
