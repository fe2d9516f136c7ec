-- Request C-18: readings of the two tables, worked out on paper by exact fractions; and ten equal headings, which are stable by the tables and not by the steps. Assumes nothing.
use Rattle.std.specs.Prelude.{ℕ, ◌≡◌, refl, List, [], ◌∷◌, true, false, replicate, Float}
use Rattle.std.specs.Float.Ieee as Ieee
use Rattle.std.specs.Float.{nan}
use Rattle.float.specs.Value.{f32, zero32}
use Rattle.float.specs.Loop as Loop
use Rattle.float.specs.Wrap.{wrapped}
use Rattle.call.specs.Said.{Said, answer, refused, value}
use Rattle.trig.specs.Series.{scale, coef}
use Rattle.trig.specs.Steps as Steps
use Rattle.trig.specs.Angle as Angle
use Rattle.trig.specs.Angle.{sine, cosine}
use Rattle.trig.specs.Guess as Guess
use Rattle.trig.specs.Tangent as Tangent
use Rattle.trig.specs.Tangent.{arc_tangent}
use Rattle.trig.specs.Row.{sum_to}
use Rattle.trig.specs.Table as Table
use Rattle.trig.specs.Table.{table_sin, table_cos}
use Rattle.yawrate.specs.Ring.{all_to, near_to, stable}

-- ---- what the two tables say of an angle
abbrev readings : Float → Said × Said
readings a = (table_sin a, table_cos a)

abbrev both : Float → Float → Said × Said
both s c = (answer (value s), answer (value c))

abbrev neither : ℕ → Said × Said
neither n = (refused n, refused n)

pub settled_readings :
    -- zeros of either sign, and the least subnormals
    (readings (f32 0x0000_0000) ∷ readings (f32 0x8000_0000) ∷ readings (f32 0x0000_0001) ∷ readings (f32 0x8000_0001)
    -- 2 ^ -28, the float before 2 ^ -24, and those before 1 / 256, at it and after it
    ∷ readings (f32 0x3180_0000) ∷ readings (f32 0x337f_ffff) ∷ readings (f32 0x3b7f_ffff) ∷ readings (f32 0x3b80_0000) ∷ readings (f32 0x3b80_0001)
    -- within a stretch: 0.7 and -0.7, -2.3, and the middles 403.5 / 256 and 896.5 / 256, where what is below zero is cut downward
    ∷ readings (f32 0x3f33_3333) ∷ readings (f32 0xbf33_3333) ∷ readings (f32 0xc013_3333) ∷ readings (f32 0x3fc9_c000) ∷ readings (f32 0x4060_2000) ∷ readings (f32 0xc060_2000)
    -- the float before 1, and 1
    ∷ readings (f32 0x3f7f_ffff) ∷ readings (f32 0x3f80_0000)
    -- the float before 4, 4 and -4
    ∷ readings (f32 0x407f_ffff) ∷ readings (f32 0x4080_0000) ∷ readings (f32 0xc080_0000)
    -- one float beyond 4, either way, infinities, and no number
    ∷ readings (f32 0x4080_0001) ∷ readings (f32 0xc080_0001) ∷ readings (f32 0x7f80_0000) ∷ readings (f32 0xff80_0000) ∷ readings nan
    ∷ [])
    ≡
    (both (f32 0x0000_0000) (f32 0x3f80_0000) ∷ both (f32 0x8000_0000) (f32 0x3f80_0000) ∷ both (f32 0x0000_0000) (f32 0x3f80_0000) ∷ both (f32 0x8000_0000) (f32 0x3f80_0000)
    ∷ both (f32 0x0000_0000) (f32 0x3f7f_ffff) ∷ both (f32 0x0000_0000) (f32 0x3f7f_ffff) ∷ both (f32 0x3b7f_ff00) (f32 0x3f7f_ff80) ∷ both (f32 0x3b80_0000) (f32 0x3f7f_ff80) ∷ both (f32 0x3b80_0000) (f32 0x3f7f_ff80)
    ∷ both (f32 0x3f24_eb65) (f32 0x3f43_cca3) ∷ both (f32 0xbf24_eb65) (f32 0x3f43_cca3) ∷ both (f32 0xbf3e_e67a) (f32 0xbf2a_9103) ∷ both (f32 0x3f7f_feed) (f32 0xbbb0_2580) ∷ both (f32 0xbeb4_896c) (f32 0xbf6f_8e7e) ∷ both (f32 0x3eb4_896c) (f32 0xbf6f_8e7e)
    ∷ both (f32 0x3f57_6aa3) (f32 0x3f0a_5140) ∷ both (f32 0x3f57_6aa4) (f32 0x3f0a_5140)
    ∷ both (f32 0xbf41_bdcd) (f32 0xbf27_5534) ∷ both (f32 0xbf41_bdcf) (f32 0xbf27_5530) ∷ both (f32 0x3f41_bdcf) (f32 0xbf27_5530)
    ∷ neither 2 ∷ neither 2 ∷ neither 1 ∷ neither 1 ∷ neither 1
    ∷ [])
unfolding Ieee.of_bits Ieee.of_int Ieee.mul Ieee.neg Ieee.le Ieee.lt Ieee.eq Table.read Table.line Table.sine_entry Table.cosine_entry scale coef Angle.units Angle.lowered Angle.small
settled_readings = refl

-- ---- ten headings of 1.2 and no tolerance
abbrev ten : List Float
ten = replicate 20 (f32 0x3f99_999a)

pub verdict_changed : (stable ten 10 zero32 ≡ true) × (near_to (arc_tangent (sum_to sine zero32 ten 10) (sum_to cosine zero32 ten 10)) zero32 ten 10 ≡ false)
unfolding Ieee.of_bits Ieee.of_int Ieee.add Ieee.sub Ieee.mul Ieee.neg Ieee.le Ieee.lt Ieee.eq Table.read Table.line Table.sine_entry Table.cosine_entry scale coef Angle.units Angle.lowered Angle.small sine cosine Steps.square Steps.fourth Steps.nest Steps.sin_up Steps.sin_down Steps.cos_up Steps.cos_down Steps.raised_sine Steps.raised_cosine arc_tangent Tangent.usable Tangent.short Tangent.past Tangent.inside Tangent.search Tangent.places Tangent.eighth Tangent.bearing Tangent.radians Guess.bend Guess.slant sum_to stable all_to wrapped Loop.run
verdict_changed = (refl, refl)
