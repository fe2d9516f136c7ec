-- The Kalman update of a sound variance by a noise of the filter: its gain is from 0 to 1, and the variance stays sound and does not grow. Assumes nothing.
use Rattle.std.proofs.Common.{sym, subst}
use Rattle.std.specs.Prelude.{T, Float}
use Rattle.std.specs.Float.{binary32}
use Rattle.std.specs.Float.Ieee.{of_bits, fits, add, mul, le}
use Rattle.std.specs.Float.Ieee.Scale.{finite}
use Rattle.std.specs.Float.Ieee.Positive.{positive, mul_mono}
use Rattle.float.specs.Value.{zero32, ◌⊕◌, ◌⊖◌, ◌⊗◌, ◌⊘◌}
use Rattle.float.specs.Order.{le_trans_float, between_finite}
use Rattle.float.specs.Bounds.{nought, positive_by}
use Rattle.float.specs.Gain.{shrunk, Shrinks, shrinks}
use Rattle.float.specs.Interval.{In, add_in}
use Rattle.float.specs.Intervals.{zero_is, one_is, from_between, to_between}
use Rattle.channel.specs.Ranges.{is_variance, is_measurement_noise, takes_factor, least_noise as low, noise_limit as high, least_factor as low_factor, variance_limit as variance}
use Rattle.channel.specs.Kalman.{one32}

-- ---- the noises of the filter: `r_pos`, `r_vel`, `r_yaw`, `r_yaw` times a factor, and that of the biases
abbrev pub Noise : Float → Type 0
Noise r = In (low ⊗ low_factor) (high ⊗ high) r

facts : T (positive low) × T (positive low_factor) × T (positive high) × T (positive (low ⊗ low_factor)) × T (finite (high ⊗ high)) × T (finite variance) × T (finite low) × T (finite high) × T (finite low_factor)
unfolding of_bits mul
facts = (tt, tt, tt, tt, tt, tt, tt, tt, tt)

wider : T (le (low ⊗ low_factor) low) × T (le high (high ⊗ high)) × T (finite (variance ⊕ high ⊗ high)) × T (finite (nought ⊕ low ⊗ low_factor)) × T (finite (low ⊗ low_factor))
unfolding of_bits mul le add
wider = (tt, tt, tt, tt, tt)

pub noise : (r : Float) → T (is_measurement_noise r) → Noise r
noise r t =
    let i = from_between low r high t in
    record { from = le_trans_float (low ⊗ low_factor) low r wider.0 i.from; to = le_trans_float r high (high ⊗ high) i.to wider.1 }

pub soft_noise : (r factor : Float) → T (is_measurement_noise r) → T (takes_factor factor) → Noise (r ⊗ factor)
soft_noise r factor t u =
    let i = from_between low r high t in
    let j = from_between low_factor factor high u in
    let fr = between_finite low r high facts.6 facts.7 i.from i.to in
    let ff = between_finite low_factor factor high facts.8 facts.7 j.from j.to in
    let pr = positive_by low r facts.0 fr i.from in
    let pf = positive_by low_factor factor facts.1 ff j.from in
    record {
      from = mul_mono binary32 low r low_factor factor facts.0 pr facts.1 pf i.from j.from;
      to = mul_mono binary32 r high factor high pr facts.2 pf facts.2 i.to j.to;
    }

-- ---- the variance of an innovation, p + r
abbrev pub least_spread : Float
least_spread = nought ⊕ low ⊗ low_factor

pub least_positive : T (positive least_spread)
unfolding of_bits mul add
least_positive = tt

module _ (p r : Float) (v : T (is_variance p)) (n : Noise r) where
  from_nought : In nought variance p
  from_nought = subst (λ (z : Float). In z variance p) zero_is (from_between zero32 p variance v)

  noise_finite : T (finite r)
  noise_finite = between_finite (low ⊗ low_factor) r (high ⊗ high) wider.4 facts.4 n.from n.to

  pub spread_in : In least_spread (variance ⊕ high ⊗ high) (p ⊕ r)
  spread_in = add_in binary32 nought variance (low ⊗ low_factor) (high ⊗ high) p r tt facts.5 wider.4 facts.4 from_nought n

  spread_finite : T (finite (p ⊕ r))
  spread_finite = between_finite least_spread (p ⊕ r) (variance ⊕ high ⊗ high) wider.3 wider.2 spread_in.from spread_in.to

  pub spread_positive : T (positive (p ⊕ r))
  spread_positive = positive_by least_spread (p ⊕ r) least_positive spread_finite spread_in.from

-- ---- the update
module _ (p r : Float) (v : T (is_variance p)) (tp : T (fits binary32 p)) (tr : T (fits binary32 r)) (n : Noise r) where
  pub gain_shrinks : Shrinks p r
  gain_shrinks =
      let i = from_nought p r v n in
      shrinks p r tp (between_finite nought p variance tt facts.5 i.from i.to) i.from tr (positive_by (low ⊗ low_factor) r facts.3 (noise_finite p r v n) n.from) (spread_finite p r v n)

  -- the variance that is left is sound, and not above what it was
  pub variance_not_above : T (le (p ⊗ (one32 ⊖ p ⊘ (p ⊕ r))) p)
  variance_not_above = subst (λ (o : Float). T (le (p ⊗ (o ⊖ p ⊘ (p ⊕ r))) p)) (sym one_is) gain_shrinks.high

  pub variance_sound : T (is_variance (p ⊗ (one32 ⊖ p ⊘ (p ⊕ r))))
  variance_sound =
      let g = gain_shrinks in
      let s : In nought variance (shrunk p r) = record { from = g.low; to = le_trans_float (shrunk p r) p variance g.high (from_nought p r v n).to } in
      subst (λ (o : Float). T (is_variance (p ⊗ (o ⊖ p ⊘ (p ⊕ r))))) (sym one_is)
      (to_between zero32 (shrunk p r) variance (subst (λ (z : Float). In z variance (shrunk p r)) (sym zero_is) s))
