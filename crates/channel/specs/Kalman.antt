-- One number of the state with its variance: when it is sound, and the Kalman update that position, velocity and bias share. Definitions only.
use Rattle.std.specs.Prelude.{Bool, ◌&&◌, cond, Float}
use Rattle.std.specs.Float.Ieee.{lt}
use Rattle.float.specs.Value.{f32, ◌⊕◌, ◌⊖◌, ◌⊗◌, ◌⊘◌, zero32}
use Rattle.channel.specs.Ranges.{is_variance}
use Rattle.channel.specs.declared.Axis.{Axis}

abbrev pub one32 : Float
one32 = f32 0x3f80_0000

-- the number is in its range and the variance is one
abbrev pub axis_sound : (Float → Bool) → Axis → Bool
axis_sound in_range a = in_range a.x && is_variance a.p

-- a number that is 0, with its variance
abbrev pub origin : Float → Axis
origin p = record { x = zero32; p = p }

-- s = p + r; k = p / s; x += k * (z - x); p *= 1.0 - k
abbrev pub corrected : Axis → Float → Float → Axis
corrected a z r =
    let s = a.p ⊕ r in
    let k = a.p ⊘ s in
    record { x = a.x ⊕ k ⊗ (z ⊖ a.x); p = a.p ⊗ (one32 ⊖ k) }

-- the Rust's `v.max(low)` for a `low` that is no NaN and no zero: a NaN is dropped
abbrev pub at_least : Float → Float → Float
at_least low v = cond (lt low v) v low
