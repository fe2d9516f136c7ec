-- The law of the gain, with rounding: for a variance p and a measurement noise r above 0 with p + r finite, the gain p / (p + r) is from 0 to 1, and the new variance p * (1 - gain) is from 0 to p. Assumes nothing.
use Rattle.std.specs.Prelude.{T, Float}
use Rattle.std.specs.Float.{binary32}
use Rattle.std.specs.Float.Ieee.{fits, le}
use Rattle.std.specs.Float.Ieee.Scale.{finite}
use Rattle.std.specs.Float.Ieee.Positive.{positive, positive-finite}
use Rattle.float.specs.Value.{◌⊕◌, ◌⊖◌, ◌⊗◌, ◌⊘◌}
use Rattle.float.specs.Order.{between_finite}
use Rattle.float.specs.Bounds.{nought, one, add_up, add_up_right, positive_by, positive_least, div_from_zero, div_to_one, complement, mul_from_zero, mul_shrinks}

abbrev pub gain : Float → Float → Float
gain p r = p ⊘ (p ⊕ r)

abbrev pub shrunk : Float → Float → Float
shrunk p r = p ⊗ (one ⊖ gain p r)

pub record Shrinks (p r : Float) : Type 0 where
  pub gain_low : T (le nought (gain p r))
  pub gain_high : T (le (gain p r) one)
  pub low : T (le nought (shrunk p r))
  pub high : T (le (shrunk p r) p)

pub shrinks : (p r : Float) → T (fits binary32 p) → T (finite p) → T (le nought p) → T (fits binary32 r) → T (positive r) → T (finite (p ⊕ r)) → Shrinks p r
shrinks p r t fp h u q fs =
    let s = p ⊕ r in
    let k = gain p r in
    let w = one ⊖ k in
    let fr = positive-finite r q in
    let ps : T (positive s) = positive_by r s q fs (add_up_right binary32 p r u fp fr h) in
    let up = add_up binary32 p r t fp fr (positive_least r q) in
    let k0 = div_from_zero binary32 p s fp ps h in
    let k1 = div_to_one binary32 p s fp ps up in
    let ww = complement binary32 k k0 k1 in
    let fw = between_finite nought w one tt tt ww.0 ww.1 in
    record { gain_low = k0; gain_high = k1; low = mul_from_zero binary32 p w fp fw h ww.0; high = mul_shrinks binary32 p w t fp fw h ww.0 ww.1 }
