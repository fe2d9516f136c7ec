-- At the angle +0 the sine is +0 and the cosine 1, by the steps and by the tables; and every sine is an f32. Assumes nothing.
use Rattle.std.specs.Prelude.{◌≡◌, refl, T, Float}
use Rattle.std.specs.Float.{nan, binary32}
use Rattle.std.specs.Float.Ieee.{of_bits, of_int, mul, neg, le, lt, eq, fits}
use Rattle.std.specs.Float.Ieee.Fits.{cond-fits, nan-fits, neg-fits}
use Rattle.float.specs.Value.{f32, zero32, within}
use Rattle.trig.specs.Series.{scale, coef}
use Rattle.trig.specs.Steps.{square, fourth, nest, sin_up, sin_down, cos_up, cos_down, raised_sine, raised_cosine}
use Rattle.trig.specs.Angle.{units, n, negative, four, small, lowered, turned, sine, cosine}
use Rattle.trig.specs.Table.{sine_entry, cosine_entry, line, read, table_sine, table_cosine}
use Rattle.trig.proofs.Laws.Pattern.{lowered_fits}

pub sine_zero : sine zero32 ≡ zero32
unfolding sine units lowered small raised_sine sin_up sin_down square fourth nest of_bits of_int mul neg le lt eq
sine_zero = refl

pub cosine_zero : cosine zero32 ≡ f32 0x3f80_0000
unfolding cosine units lowered small raised_cosine cos_up cos_down square fourth nest of_bits of_int mul neg le lt eq
cosine_zero = refl

pub table_sine_zero : table_sine zero32 ≡ zero32
unfolding read line sine_entry scale coef units lowered small of_bits of_int mul neg le lt eq
table_sine_zero = refl

pub table_cosine_zero : table_cosine zero32 ≡ f32 0x3f80_0000
unfolding read line cosine_entry scale coef units lowered small of_bits of_int mul neg le lt eq
table_cosine_zero = refl

pub sine_fits : (a : Float) → T (fits binary32 (sine a))
unfolding sine
sine_fits a =
    let x = lowered (raised_sine (n a)) in
    let held = lowered_fits (raised_sine (n a)) in
    cond-fits binary32 (within a four) (turned (negative a) x) nan (cond-fits binary32 (negative a) (neg x) x (neg-fits binary32 x held) held) (nan-fits binary32)
