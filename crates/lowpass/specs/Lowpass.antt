-- The low-pass of `filter.rs`: when it is sound, the low-pass that a cutoff and a rate make, and its calls. Definitions only.
use Rattle.std.specs.Prelude.{Bool, true, ◌&&◌, Float}
use Rattle.std.specs.Float.Ieee.{neg}
use Rattle.std.specs.Float.Ieee.Scale.{finite}
use Rattle.float.specs.Value.{f32, ◌⊕◌, ◌⊖◌, ◌⊗◌, ◌⊘◌, zero32}
use Rattle.float.specs.Wrap.{turn}
use Rattle.call.specs.Said.{Said, done, value}
use Rattle.call.specs.Port.{Asked, Port, given, settled_by, Making, made_by}
use Rattle.trig.specs.Angle.{sine, cosine}
use Rattle.learner.specs.Ranges.{is_stored, takes_acceleration}
use Rattle.lowpass.specs.Ranges.{is_coefficient, takes_design}
use Rattle.lowpass.specs.declared.BiquadFilter.{BiquadFilter}

pub data LowpassCall : Type 0 where
  process : Float → LowpassCall
  reset_to : Float → LowpassCall

abbrev pub sound : BiquadFilter → Bool
sound f =
    (((is_coefficient f.b0 && is_coefficient f.b1) && is_coefficient f.b2) && (is_coefficient f.a1 && is_coefficient f.a2)) &&
    ((is_stored f.x1 && is_stored f.x2) && (is_stored f.y1 && is_stored f.y2))

-- ---- the making
-- omega = 2.0 * PI * cutoff_hz / sample_rate_hz
abbrev pub angle : Float → Float → Float
angle cutoff rate = turn ⊗ cutoff ⊘ rate

-- alpha = sin_omega / (2.0 * q)
abbrev pub designed : Float → Float → BiquadFilter
designed cutoff rate =
    let sin_omega = sine (angle cutoff rate) in
    let cos_omega = cosine (angle cutoff rate) in
    let one = f32 0x3f80_0000 in
    let two = f32 0x4000_0000 in
    let alpha = sin_omega ⊘ f32 0x3fb5_04f3 in
    let b0 = (one ⊖ cos_omega) ⊘ two in
    let b1 = one ⊖ cos_omega in
    let b2 = (one ⊖ cos_omega) ⊘ two in
    let a0 = one ⊕ alpha in
    let a1 = neg two ⊗ cos_omega in
    let a2 = one ⊖ alpha in
    record { b0 = b0 ⊘ a0; b1 = b1 ⊘ a0; b2 = b2 ⊘ a0; a1 = a1 ⊘ a0; a2 = a2 ⊘ a0; x1 = zero32; x2 = zero32; y1 = zero32; y2 = zero32 }

abbrev pub zeros : BiquadFilter
zeros = record { b0 = zero32; b1 = zero32; b2 = zero32; a1 = zero32; a2 = zero32; x1 = zero32; x2 = zero32; y1 = zero32; y2 = zero32 }

-- by a cutoff and a rate; a refused making hands back the number with a low-pass of zeros
abbrev pub lowpass_making : Making (Float × Float) BiquadFilter
lowpass_making = record { config = λ p. takes_design p.0 p.1; fits = λ p. sound (designed p.0 p.1); rust = λ p. designed p.0 p.1; blank = zeros }

abbrev pub made : Float → Float → Said × BiquadFilter
made cutoff rate = made_by lowpass_making (cutoff, rate)

-- ---- the calls
-- output = b0 * input + b1 * x1 + b2 * x2 - a1 * y1 - a2 * y2
abbrev pub output : Float → BiquadFilter → Float
output input f = f.b0 ⊗ input ⊕ f.b1 ⊗ f.x1 ⊕ f.b2 ⊗ f.x2 ⊖ f.a1 ⊗ f.y1 ⊖ f.a2 ⊗ f.y2

-- x2 = x1; x1 = input; y2 = y1; y1 = output
abbrev pub with_samples : Float → Float → Float → Float → BiquadFilter → BiquadFilter
with_samples x1 x2 y1 y2 f = record { b0 = f.b0; b1 = f.b1; b2 = f.b2; a1 = f.a1; a2 = f.a2; x1 = x1; x2 = x2; y1 = y1; y2 = y2 }

abbrev pub processed : Float → BiquadFilter → BiquadFilter
processed input f = with_samples input f.x1 (output input f) f.y1 f

abbrev pub resetted : Float → BiquadFilter → BiquadFilter
resetted v f = with_samples v v v v f

-- a call looks at no parameter and raises no sample count
abbrev pub asks_lowpass : LowpassCall → BiquadFilter → Asked BiquadFilter
asks_lowpass (process input) f = given (finite input) (takes_acceleration input) true (value (output input f), processed input f)
asks_lowpass (reset_to v) f = given (finite v) (takes_acceleration v) true (done, resetted v f)

abbrev pub lowpass_port : Port LowpassCall BiquadFilter
lowpass_port = record { sound = sound; asks = asks_lowpass }

abbrev pub on_lowpass : LowpassCall → BiquadFilter → Said × BiquadFilter
on_lowpass c f = settled_by lowpass_port c f
