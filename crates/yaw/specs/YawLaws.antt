-- No call of the yaw channel is refused with 6, and the wrap inside is never asked beyond 64. What its two updates answer: the gate value, and the verdict, which is the Rust's. Assumes nothing.
-- Of the numbers looked at it takes for granted that they are f32 values (`fits`).
use Rattle.std.specs.Prelude.{ℕ, ◌≡◌, false, T, Float}
use Rattle.std.specs.Float.{binary32}
use Rattle.std.specs.Float.Ieee.{of_bits, fits, add, sub, mul, div, neg, lt, le}
use Rattle.std.specs.Float.Ieee.Fits.{and_i, and_l, and_r, mul-fits}
use Rattle.std.specs.Float.Ieee.Scale.{finite}
use Rattle.std.specs.Float.Ieee.Positive.{positive}
use Rattle.float.specs.Value.{f32, within, pi, ◌⊕◌, ◌⊖◌, ◌⊗◌, ◌⊘◌}
use Rattle.float.specs.Order.{le_trans_float}
use Rattle.float.specs.Bounds.{nought, one}
use Rattle.float.specs.Gain.{gain}
use Rattle.float.specs.Interval.{In, add_in, sub_in}
use Rattle.call.specs.Said.{Reply, answer, plain, settled, answered}
use Rattle.call.specs.Port.{refusal_in}
use Rattle.call.specs.PortLaws.{NotSix, not_six, passes}
use Rattle.float.specs.Wrap.{inside, limit}
use Rattle.float.specs.WrapLaws.{wrapped_between}
use Rattle.float.specs.Intervals.{from_within, to_within, widen, mul_in}
use Rattle.channel.specs.Ranges.{is_yaw, is_moving_yaw, is_variance, takes_yaw, takes_factor, yaw_limit}
use Rattle.channel.specs.Kalman.{axis_sound}
use Rattle.channel.specs.KalmanLaws.{Noise, noise, soft_noise, least_spread, gain_shrinks, variance_sound}
use Rattle.channel.specs.Gate.{verdict}
use Rattle.channel.specs.GateLaws.{gated_sound, unvalued, verdict_alone, part_in, Gauged, gauges}
use Rattle.yaw.specs.Yaw.{YawCall, update_yaw, update_yaw_soft, lock_yaw, store_moving_yaw, get_last_moving_yaw, yaw, yaw_gate_stats, on_yaw, yaw_port, yaw_sound, chi2_gate_yaw, yaw_innovation, yaw_gate_value, turned, yaw_away, yaw_taken, updated_yaw, locked_yaw, stored_yaw}
use Rattle.channel.specs.declared.Axis.{Axis}
use Rattle.yaw.specs.declared.Yaw.{Yaw}

-- ---- facts that antt computes
facts : T (finite yaw_limit) × T (finite (neg yaw_limit)) × T (finite pi) × T (finite (neg pi)) × T (positive pi) × T (finite (one ⊗ pi)) × T (finite (neg (one ⊗ pi))) × T (le (neg one) nought)
unfolding of_bits neg mul le
facts = (tt, tt, tt, tt, tt, tt, tt, tt)

ends : T (le (neg limit) (neg yaw_limit ⊖ pi)) × T (le (yaw_limit ⊖ neg pi) limit) × T (le (neg limit) (neg pi ⊕ neg (one ⊗ pi))) × T (le (pi ⊕ one ⊗ pi) limit) × T (is_variance (f32 0x3a83_126f))
unfolding of_bits neg sub add mul le
ends = (tt, tt, tt, tt, tt)

-- ---- what the wrap is asked
pub innovation_inside : (a : Axis) (z_yaw : Float) → T (is_yaw a.x) → T (takes_yaw z_yaw) → T (inside (z_yaw ⊖ a.x))
innovation_inside a z_yaw t u =
    to_within (z_yaw ⊖ a.x) limit
    (widen (neg yaw_limit ⊖ pi) (yaw_limit ⊖ neg pi) (neg limit) limit (z_yaw ⊖ a.x) ends.0 ends.1
    (sub_in binary32 (neg yaw_limit) yaw_limit (neg pi) pi z_yaw a.x facts.1 facts.0 facts.3 facts.2 (from_within z_yaw yaw_limit u) (from_within a.x pi t)))

module _ (a : Axis) (dy r : Float) (t : T (is_yaw a.x)) (v : T (is_variance a.p)) (w : T (within dy pi)) (tp : T (fits binary32 a.p)) (tr : T (fits binary32 r)) (n : Noise r) where
  pub turned_inside : T (inside (a.x ⊕ a.p ⊘ (a.p ⊕ r) ⊗ dy))
  turned_inside =
      let k = gain a.p r in
      let g = gain_shrinks a.p r v tp tr n in
      let i : In (neg one) one k = record { from = le_trans_float (neg one) nought k facts.7 g.gain_low; to = g.gain_high } in
      let m = mul_in binary32 one pi k dy tt facts.4 i (from_within dy pi w) in
      to_within (a.x ⊕ k ⊗ dy) limit
      (widen (neg pi ⊕ neg (one ⊗ pi)) (pi ⊕ one ⊗ pi) (neg limit) limit (a.x ⊕ k ⊗ dy) ends.2 ends.3
      (add_in binary32 (neg pi) pi (neg (one ⊗ pi)) (one ⊗ pi) a.x (k ⊗ dy) facts.3 facts.2 facts.6 facts.5 (from_within a.x pi t) m))

  turned_sound : T (axis_sound is_yaw (turned a dy r))
  turned_sound =
      and_i (is_yaw (turned a dy r).x) (is_variance (turned a dy r).p) (wrapped_between (a.x ⊕ a.p ⊘ (a.p ⊕ r) ⊗ dy) turned_inside) (variance_sound a.p r v tp tr n)

gates : T (finite chi2_gate_yaw) × T (finite (pi ⊗ pi ⊘ least_spread)) × T (finite (pi ⊗ pi))
unfolding of_bits add mul div
gates = (tt, tt, tt)

-- the gate value of a measured yaw by a noise of r
abbrev pub yaw_value : Float → Float → Yaw → Float
yaw_value z_yaw r s = yaw_gate_value s.angle (yaw_innovation s.angle z_yaw) r

-- ---- what a call would store, and what the gate answers
module _ (s : Yaw) (h : T (yaw_sound s)) where
  axis : T (axis_sound is_yaw s.angle)
  axis = and_l (axis_sound is_yaw s.angle) (is_moving_yaw s.moving.angle) h

  angle : T (is_yaw s.angle.x)
  angle = and_l (is_yaw s.angle.x) (is_variance s.angle.p) axis

  spread : T (is_variance s.angle.p)
  spread = and_r (is_yaw s.angle.x) (is_variance s.angle.p) axis

  moving : T (is_moving_yaw s.moving.angle)
  moving = and_r (axis_sound is_yaw s.angle) (is_moving_yaw s.moving.angle) h

  innovation_within : (z_yaw : Float) → T (takes_yaw z_yaw) → T (within (yaw_innovation s.angle z_yaw) pi)
  innovation_within z_yaw u = wrapped_between (z_yaw ⊖ s.angle.x) (innovation_inside s.angle z_yaw angle u)

  updated_sound : (z_yaw r : Float) → T (takes_yaw z_yaw) → T (fits binary32 s.angle.p) → T (fits binary32 r) → Noise r → T (yaw_sound (updated_yaw z_yaw r s).1)
  updated_sound z_yaw r u tp tr n =
      let dy = yaw_innovation s.angle z_yaw in
      let next = turned s.angle dy r in
      gated_sound yaw_sound chi2_gate_yaw (yaw_gate_value s.angle dy r) (yaw_away s) (yaw_taken s next) h
      (λ (e : lt chi2_gate_yaw (yaw_gate_value s.angle dy r) ≡ false). and_i (axis_sound is_yaw next) (is_moving_yaw s.moving.angle) (turned_sound s.angle dy r angle spread (innovation_within z_yaw u) tp tr n) moving)

  updated_gauged : (z_yaw r : Float) → T (takes_yaw z_yaw) → Noise r → Gauged chi2_gate_yaw (yaw_value z_yaw r s) (updated_yaw z_yaw r s).0
  updated_gauged z_yaw r u n =
      let dy = yaw_innovation s.angle z_yaw in
      gauges chi2_gate_yaw (yaw_value z_yaw r s) (pi ⊗ pi ⊘ least_spread) (yaw_away s) (yaw_taken s (turned s.angle dy r)) gates.0 gates.1
      (part_in pi dy s.angle.p r facts.4 gates.2 (from_within dy pi (innovation_within z_yaw u)) spread n)

  locked_sound : T (yaw_sound (locked_yaw s))
  locked_sound =
      and_i (axis_sound is_yaw (locked_yaw s).angle) (is_moving_yaw s.moving.angle) (and_i (is_yaw s.angle.x) (is_variance (f32 0x3a83_126f)) angle ends.4) moving

  stored_sound : (v : Float) → T (takes_yaw v) → T (yaw_sound (stored_yaw v s))
  stored_sound v u = and_i (axis_sound is_yaw s.angle) (is_moving_yaw v) axis u

-- ---- from any state
pub yaw_not_six : (r : Float) (c : YawCall) (s : Yaw) → T (fits binary32 r) → T (fits binary32 s.angle.p) → NotSix (on_yaw r c s)
yaw_not_six r (update_yaw z_yaw) s tr tp = not_six (yaw_port r) (update_yaw z_yaw) s (λ f u n h. updated_sound s h z_yaw r u tp tr (noise r n))
yaw_not_six r (update_yaw_soft z_yaw factor) s tr tp =
    not_six (yaw_port r) (update_yaw_soft z_yaw factor) s
    (λ f u n h. updated_sound s h z_yaw (r ⊗ factor) (and_l (takes_yaw z_yaw) (takes_factor factor) u) tp (mul-fits binary32 r factor) (soft_noise r factor n (and_r (takes_yaw z_yaw) (takes_factor factor) u)))
yaw_not_six r lock_yaw s tr tp = not_six (yaw_port r) lock_yaw s (λ f u n h. locked_sound s h)
yaw_not_six r (store_moving_yaw v) s tr tp = not_six (yaw_port r) (store_moving_yaw v) s (λ f u n h. stored_sound s h v u)
yaw_not_six r get_last_moving_yaw s tr tp = not_six (yaw_port r) get_last_moving_yaw s (λ f u n h. h)
yaw_not_six r yaw s tr tp = not_six (yaw_port r) yaw s (λ f u n h. h)
yaw_not_six r yaw_gate_stats s tr tp = not_six (yaw_port r) yaw_gate_stats s (λ f u n h. h)

-- ---- what the updates answer
-- an answered yaw: its gate value is finite and not negative, and it was accepted exactly when that is at most 12.0
pub update_gauged : (z_yaw r : Float) (s : Yaw) (a : Reply) → (on_yaw r (update_yaw z_yaw) s).0 ≡ answer a → Gauged chi2_gate_yaw (yaw_value z_yaw r s) a
update_gauged z_yaw r s a e =
    let h = passes (yaw_port r) (update_yaw z_yaw) s a e in
    let t = h.tests in
    rw h.answers (updated_gauged s t.3 z_yaw r t.1 (noise r t.2))

-- and a soft one, by a noise of r times the factor
pub soft_gauged : (z_yaw factor r : Float) (s : Yaw) (a : Reply) → (on_yaw r (update_yaw_soft z_yaw factor) s).0 ≡ answer a → Gauged chi2_gate_yaw (yaw_value z_yaw (r ⊗ factor) s) a
soft_gauged z_yaw factor r s a e =
    let h = passes (yaw_port r) (update_yaw_soft z_yaw factor) s a e in
    let t = h.tests in
    rw h.answers (updated_gauged s t.3 z_yaw (r ⊗ factor) (and_l (takes_yaw z_yaw) (takes_factor factor) t.1) (soft_noise r factor t.2 (and_r (takes_yaw z_yaw) (takes_factor factor) t.1)))

-- without the value, the answer and the channel are the Rust's
abbrev pub rust_verdict : Float → Float → Yaw → Reply × Yaw
rust_verdict z_yaw r s =
    let v = verdict chi2_gate_yaw (yaw_value z_yaw r s) (yaw_away s) (yaw_taken s (turned s.angle (yaw_innovation s.angle z_yaw) r)) in
    (plain v.0, v.1)

alone : (n : ℕ) (z_yaw r : Float) (s : Yaw) → unvalued (settled n s (answered (updated_yaw z_yaw r s))) ≡ settled n s (answered (rust_verdict z_yaw r s))
alone n z_yaw r s = verdict_alone n s chi2_gate_yaw (yaw_value z_yaw r s) (yaw_away s) (yaw_taken s (turned s.angle (yaw_innovation s.angle z_yaw) r))

pub update_verdict : (z_yaw r : Float) (s : Yaw) → unvalued (on_yaw r (update_yaw z_yaw) s) ≡ settled (refusal_in (yaw_port r) (update_yaw z_yaw) s) s (answered (rust_verdict z_yaw r s))
update_verdict z_yaw r s = alone (refusal_in (yaw_port r) (update_yaw z_yaw) s) z_yaw r s

pub soft_verdict : (z_yaw factor r : Float) (s : Yaw) → unvalued (on_yaw r (update_yaw_soft z_yaw factor) s) ≡ settled (refusal_in (yaw_port r) (update_yaw_soft z_yaw factor) s) s (answered (rust_verdict z_yaw (r ⊗ factor) s))
soft_verdict z_yaw factor r s = alone (refusal_in (yaw_port r) (update_yaw_soft z_yaw factor) s) z_yaw (r ⊗ factor) s
