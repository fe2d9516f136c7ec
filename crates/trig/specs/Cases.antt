-- The sine and the cosine by cases: their steps within 4 in size, a NaN beyond. Assumes nothing.
use Rattle.std.specs.Prelude.{◌≡◌, true, false, Float}
use Rattle.std.specs.Float.{nan}
use Rattle.float.specs.Value.{within}
use Rattle.trig.specs.Steps.{raised_sine, raised_cosine}
use Rattle.trig.specs.Angle.{four, n, negative, turned, lowered, sine, cosine}

pub sine_inside : (a : Float) → within a four ≡ true → sine a ≡ turned (negative a) (lowered (raised_sine (n a)))
unfolding sine
sine_inside a e = rw e

pub sine_beyond : (a : Float) → within a four ≡ false → sine a ≡ nan
unfolding sine
sine_beyond a e = rw e

pub cosine_inside : (a : Float) → within a four ≡ true → cosine a ≡ lowered (raised_cosine (n a))
unfolding cosine
cosine_inside a e = rw e

pub cosine_beyond : (a : Float) → within a four ≡ false → cosine a ≡ nan
unfolding cosine
cosine_beyond a e = rw e
