-- What `reset_to` stores is sound, so that it never gives 6; and a sample that does. Assumes nothing.
use Rattle.std.specs.Prelude.{◌≡◌, refl, Bool, ◌&&◌, T, Float}
use Rattle.std.specs.Float.Ieee.{of_bits, add, sub, mul, le, neg}
use Rattle.std.specs.Float.Ieee.Fits.{and_i, and_l}
use Rattle.float.specs.Value.{f32, zero32}
use Rattle.float.specs.Size.{within_more}
use Rattle.call.specs.Said.{refused}
use Rattle.learner.specs.Ranges.{is_stored, takes_acceleration}
use Rattle.lowpass.specs.Ranges.{is_coefficient}
use Rattle.lowpass.specs.Lowpass.{process, sound, resetted, on_lowpass}
use Rattle.lowpass.specs.declared.BiquadFilter.{BiquadFilter}

-- ---- a reset value is a sound sample
wider : T (le (f32 0x4974_2400) (f32 0x4e6e_6b28))
unfolding of_bits le
wider = tt

pub resetted_sound : (v : Float) (f : BiquadFilter) → T (takes_acceleration v) → T (sound f) → T (sound (resetted v f))
resetted_sound v f i t =
    let w : T (is_stored v) = within_more v (f32 0x4974_2400) (f32 0x4e6e_6b28) wider i in
    let both : T (is_stored v && is_stored v) = and_i (is_stored v) (is_stored v) w w in
    and_i coefficients ((is_stored v && is_stored v) && (is_stored v && is_stored v)) (and_l coefficients ((is_stored f.x1 && is_stored f.x2) && (is_stored f.y1 && is_stored f.y2)) t)
    (and_i (is_stored v && is_stored v) (is_stored v && is_stored v) both both)
  where
    coefficients : Bool
    coefficients = ((is_coefficient f.b0 && is_coefficient f.b1) && is_coefficient f.b2) && (is_coefficient f.a1 && is_coefficient f.a2)

-- ---- `process` gives 6: a stored output of 1e9, taken four times
abbrev loud : BiquadFilter
loud = record { b0 = zero32; b1 = zero32; b2 = zero32; a1 = f32 0xc080_0000; a2 = zero32; x1 = zero32; x2 = zero32; y1 = f32 0x4e6e_6b28; y2 = zero32 }

pub too_loud : on_lowpass (process zero32) loud ≡ (refused 6, loud)
unfolding of_bits add sub mul neg le
too_loud = refl
