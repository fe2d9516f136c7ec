-- `update_position` is never refused with 6: an accepted fix leaves a sound channel. What it answers: the gate value, and the verdict, which is the Rust's. Assumes nothing.
-- Of the numbers looked at it takes for granted that they are f32 values (`fits`).
use Rattle.std.specs.Prelude.{◌+◌, ◌<◌, ◌≡◌, Bool, true, false, ◌&&◌, cond, T, ltb, Float}
use Rattle.std.proofs.Common.{arith, sym, subst, ltb→lt, le→leb}
use Rattle.std.specs.Float.{binary32}
use Rattle.std.specs.Float.Ieee.{of_bits, fits, add, mul, div, neg, lt, le}
use Rattle.std.specs.Float.Ieee.Fits.{and_i, and_l, and_r, div-fits}
use Rattle.std.specs.Float.Ieee.Scale.{finite}
use Rattle.std.specs.Float.Ieee.Positive.{positive, positive-finite}
use Rattle.float.specs.Value.{f32, zero32, ◌⊕◌, ◌⊖◌, ◌⊗◌, ◌⊘◌}
use Rattle.float.specs.Order.{neg_finite, le_trans_float, between_finite, not_lt→le}
use Rattle.float.specs.Bounds.{nought, add_up, add_up_right}
use Rattle.float.specs.Interval.{In, add_in}
use Rattle.float.specs.Intervals.{zero_is, from_between, to_between, sum_in}
use Rattle.channel.specs.Ranges.{is_position, is_variance, is_nis_sum, is_nis_count, is_measurement_noise, takes_position, least_noise as low, noise_limit as high, variance_limit as variance}
use Rattle.channel.specs.Kalman.{axis_sound, corrected}
use Rattle.channel.specs.KalmanLaws.{noise, least_spread, spread_positive, gain_shrinks, variance_sound}
use Rattle.call.specs.Said.{Reply, answer, plain, settled, answered}
use Rattle.call.specs.Port.{refusal_in}
use Rattle.call.specs.PortLaws.{NotSix, not_six, passes}
use Rattle.channel.specs.Gate.{verdict}
use Rattle.channel.specs.GateLaws.{gated_sound, unvalued, verdict_alone, square_finite, part_in, Gauged, gauges}
use Rattle.channel.specs.declared.Axis.{Axis}
use Rattle.position.specs.Position.{update_position, on_position, position_port, position_sound, nis_sound, chi2_gate_position, position_gate_value, noted, position_away, position_taken}
use Rattle.position.specs.Position.{chi2_gate_position as gate}
use Rattle.position.specs.PositionLaws.{x_sound, y_sound, x_spread, y_spread, nis_is_sound, parts_sound, from_nought, apart}
use Rattle.position.specs.Fix.{innovation_small, stays}
use Rattle.position.specs.RunLaws.{away_sound}
use Rattle.position.specs.declared.Nis.{Nis}
use Rattle.position.specs.declared.Position.{Position}

-- ---- facts that antt computes, of the limits, of 2e7 and of the gate
abbrev twice : Float
twice = f32 0x4b98_9680

ends : T (finite low) × T (finite high) × T (finite variance) × T (positive twice) × T (finite (twice ⊗ twice)) × T (finite gate)
unfolding of_bits mul
ends = (tt, tt, tt, tt, tt, tt)

-- the largest part of a gate value
abbrev most : Float
most = twice ⊗ twice ⊘ least_spread

values : T (finite most) × T (finite (most ⊕ most)) × T (le (variance ⊕ gate) variance)
unfolding of_bits add mul div le
values = (tt, tt, tt)

-- ---- one axis: its part of the gate value is from zero, and where that is at most the gate the axis stays sound
-- y * y / s
abbrev part : Axis → Float → Float → Float
part a z r = (z ⊖ a.x) ⊗ (z ⊖ a.x) ⊘ (a.p ⊕ r)

module _ (a : Axis) (z r : Float) (hx : T (is_position a.x)) (hz : T (is_position z)) (v : T (is_variance a.p)) (n : T (is_measurement_noise r)) where
  s_in : In (nought ⊕ low) (variance ⊕ high) (a.p ⊕ r)
  s_in = add_in binary32 nought variance low high a.p r tt ends.2 ends.0 ends.1 (from_nought a.p v) (from_between low r high n)

  y_in : In (neg twice) twice (z ⊖ a.x)
  y_in = apart z a.x hz hx

  y_finite : T (finite (z ⊖ a.x))
  y_finite = between_finite (neg twice) (z ⊖ a.x) twice (neg_finite twice (positive-finite twice ends.3)) (positive-finite twice ends.3) y_in.from y_in.to

  axis_in : In nought most (part a z r)
  axis_in = part_in twice (z ⊖ a.x) a.p r ends.3 ends.4 y_in v (noise r n)

  axis_finite : T (finite (part a z r))
  axis_finite = between_finite nought (part a z r) most tt values.0 axis_in.from axis_in.to

  corrected_sound : T (fits binary32 a.x) → T (fits binary32 a.p) → T (fits binary32 r) → T (le (part a z r) gate) → T (axis_sound is_position (corrected a z r))
  corrected_sound tx tp tr h =
      let g = gain_shrinks a.p r v tp tr (noise r n) in
      and_i (is_position (corrected a z r).x) (is_variance (corrected a z r).p)
      (stays (a.p ⊘ (a.p ⊕ r)) g.gain_low g.gain_high a.x z tx hx hz (innovation_small (z ⊖ a.x) (a.p ⊕ r) y_finite (spread_positive a.p r v (noise r n)) s_in.to (square_finite twice (z ⊖ a.x) a.p r ends.3 ends.4 y_in v (noise r n)) h))
      (variance_sound a.p r v tp tr (noise r n))

-- ---- the NIS sum and count
noted_sound : (n : Nis) (m : Float) → T (nis_sound n) → In nought gate m → T (nis_sound (noted n m))
noted_sound n m h i = go (ltb n.count 16777216) (λ t. ltb→lt n.count 16777216 t)
  where
    sum : In nought (variance ⊕ gate) (n.sum ⊕ m)
    sum = sum_in variance gate n.sum m ends.2 ends.5 (from_nought n.sum (and_l (is_nis_sum n.sum) (is_nis_count n.count) h)) i

    sum_sound : T (is_nis_sum (n.sum ⊕ m))
    sum_sound =
        to_between zero32 (n.sum ⊕ m) variance
        (subst (λ (o : Float). In o variance (n.sum ⊕ m)) (sym zero_is) (record { from = sum.from; to = le_trans_float (n.sum ⊕ m) (variance ⊕ gate) variance sum.to values.2 }))

    go : (b : Bool) → (T b → n.count < 16777216) → T (nis_sound (cond b (record { sum = n.sum ⊕ m; count = n.count + 1 }) n))
    go true f = let l = f tt in and_i (is_nis_sum (n.sum ⊕ m)) (is_nis_count (n.count + 1)) sum_sound (le→leb (n.count + 1) 16777216 (omega arith))
    go false f = h

-- the numbers of an update are f32 values
pub record Fits (r : Float) (s : Position) : Type 0 where
  pub noise_fits : T (fits binary32 r)
  pub x_fits : T (fits binary32 s.x.x) × T (fits binary32 s.x.p)
  pub y_fits : T (fits binary32 s.y.x) × T (fits binary32 s.y.p)

-- ---- the call
module _ (z_x z_y r : Float) (s : Position) (u : T (takes_position z_x && takes_position z_y)) (n : T (is_measurement_noise r)) (h : T (position_sound s)) where
  ux : T (is_position z_x)
  ux = and_l (takes_position z_x) (takes_position z_y) u

  uy : T (is_position z_y)
  uy = and_r (takes_position z_x) (takes_position z_y) u

  hx : T (is_position s.x.x)
  hx = x_sound s h

  hy : T (is_position s.y.x)
  hy = y_sound s h

  x_part : In nought most (part s.x z_x r)
  x_part = axis_in s.x z_x r hx ux (x_spread s h) n

  y_part : In nought most (part s.y z_y r)
  y_part = axis_in s.y z_y r hy uy (y_spread s h) n

  fx : T (finite (part s.x z_x r))
  fx = axis_finite s.x z_x r hx ux (x_spread s h) n

  fy : T (finite (part s.y z_y r))
  fy = axis_finite s.y z_y r hy uy (y_spread s h) n

  m_in : In nought (most ⊕ most) (position_gate_value s z_x z_y r)
  m_in = sum_in most most (part s.x z_x r) (part s.y z_y r) values.0 values.0 x_part y_part

  taken_sound : Fits r s → lt chi2_gate_position (position_gate_value s z_x z_y r) ≡ false → T (position_sound (position_taken s z_x z_y r (position_gate_value s z_x z_y r)))
  taken_sound t e =
      let m = position_gate_value s z_x z_y r in
      let next = position_taken s z_x z_y r m in
      let fm = between_finite nought m (most ⊕ most) tt values.1 m_in.from m_in.to in
      let under_gate = not_lt→le gate m ends.5 fm e in
      let dx = (z_x ⊖ s.x.x) ⊗ (z_x ⊖ s.x.x) in
      let dy = (z_y ⊖ s.y.x) ⊗ (z_y ⊖ s.y.x) in
      let gx = le_trans_float (part s.x z_x r) m gate (add_up binary32 (part s.x z_x r) (part s.y z_y r) (div-fits binary32 dx (s.x.p ⊕ r)) fx fy y_part.from) under_gate in
      let gy = le_trans_float (part s.y z_y r) m gate (add_up_right binary32 (part s.x z_x r) (part s.y z_y r) (div-fits binary32 dy (s.y.p ⊕ r)) fx fy x_part.from) under_gate in
      let cx = corrected_sound s.x z_x r hx ux (x_spread s h) n t.x_fits.0 t.x_fits.1 t.noise_fits gx in
      let cy = corrected_sound s.y z_y r hy uy (y_spread s h) n t.y_fits.0 t.y_fits.1 t.noise_fits gy in
      parts_sound next cx cy (noted_sound s.nis m (nis_is_sound s h) (record { from = m_in.from; to = under_gate })) (and_i (is_position z_x) (is_position z_y) ux uy) tt

pub update_not_six : (z_x z_y r : Float) (s : Position) → Fits r s → NotSix (on_position r (update_position z_x z_y) s)
update_not_six z_x z_y r s t =
    let m = position_gate_value s z_x z_y r in
    not_six (position_port r) (update_position z_x z_y) s
    (λ f u n h. gated_sound position_sound chi2_gate_position m (position_away s) (position_taken s z_x z_y r m) (away_sound s h) (taken_sound z_x z_y r s u n h t))

-- ---- what it answers
-- an answered fix: its gate value is finite and not negative, and it was accepted exactly when that is at most 32.0
pub update_gauged : (z_x z_y r : Float) (s : Position) (a : Reply) → (on_position r (update_position z_x z_y) s).0 ≡ answer a → Gauged chi2_gate_position (position_gate_value s z_x z_y r) a
update_gauged z_x z_y r s a e =
    let m = position_gate_value s z_x z_y r in
    let h = passes (position_port r) (update_position z_x z_y) s a e in
    let t = h.tests in
    rw h.answers (gauges chi2_gate_position m (most ⊕ most) (position_away s) (position_taken s z_x z_y r m) ends.5 values.1 (m_in z_x z_y r s t.1 t.2 t.3))

-- without the value, the verdict is the Rust's, and the channel is but for the run and what its eighth raises (`away_early` in RunLaws)
pub update_verdict :
    (z_x z_y r : Float) (s : Position) →
    let m = position_gate_value s z_x z_y r in
    let v = verdict chi2_gate_position m (position_away s) (position_taken s z_x z_y r m) in
    unvalued (on_position r (update_position z_x z_y) s) ≡ settled (refusal_in (position_port r) (update_position z_x z_y) s) s (answered (plain v.0, v.1))
update_verdict z_x z_y r s =
    let m = position_gate_value s z_x z_y r in
    verdict_alone (refusal_in (position_port r) (update_position z_x z_y) s) s chi2_gate_position m (position_away s) (position_taken s z_x z_y r m)
