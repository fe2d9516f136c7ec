-- `lock_position`, `skip_prediction`, `reset_nis_stats` and the readers of the position channel are never refused with 6, and the roots inside are never asked below zero or beyond the finite. Assumes nothing.
use Rattle.std.specs.Prelude.{ℕ, ◌<◌, min, ◌≡◌, refl, Bool, true, false, ◌&&◌, cond, T, ltb, Float}
use Rattle.std.proofs.Common.{arith, sym, subst, ltb→lt}
use Rattle.std.specs.Float.{binary32}
use Rattle.std.specs.Float.Ieee.{of_bits, of_int, round, add, sub, mul, div, neg, le}
use Rattle.std.specs.Float.Ieee.Fits.{and_i, and_l, and_r}
use Rattle.std.specs.Float.Ieee.Order.{round_mono}
use Rattle.std.specs.Float.Ieee.Scale.{finite}
use Rattle.std.specs.Float.Ieee.Positive.{positive}
use Rattle.float.specs.Value.{f32, zero32, ◌⊕◌, ◌⊖◌, ◌⊗◌, ◌⊘◌}
use Rattle.float.specs.Order.{le_trans_float, between_finite}
use Rattle.float.specs.Bounds.{nought, one, positive_by, div_from_zero}
use Rattle.float.specs.Interval.{In, sub_in, div_scale, div_anti}
use Rattle.float.specs.Count.{count_float}
use Rattle.float.specs.Intervals.{zero_is, Rootable, rootable, from_within, from_between, to_between, widen, square_in, sum_in}
use Rattle.channel.specs.Ranges.{is_position, is_variance, is_nis_sum, is_nis_count, position_limit as most, variance_limit as variance}
use Rattle.channel.specs.Kalman.{axis_sound, one32}
use Rattle.call.specs.PortLaws.{NotSix, not_six}
use Rattle.position.specs.Position.{lock_position, skip_prediction, reset_nis_stats, position, position_gate_stats, get_nis_position_avg, get_gps_discrepancy, get_effective_pos_sigma, on_position, position_port, position_sound, nis_sound, last_fix_sound, run_sound, with_variances, with_run, rejected_once, reset_nis, nis_average}
use Rattle.position.specs.declared.Position.{Position}

-- ---- facts that antt computes
abbrev twice : Float
twice = f32 0x4b98_9680

abbrev little : Float
little = f32 0x3586_37bd

locks : T (is_variance one32) × T (is_nis_sum zero32)
unfolding of_bits le
locks = (tt, tt)

steps : T (finite variance) × T (finite little) × T (le nought little) × T (le (variance ⊕ little) variance) × T (finite (variance ⊕ variance))
unfolding of_bits add le
steps = (tt, tt, tt, tt, tt)

spans : T (finite most) × T (finite (neg most)) × T (le (neg twice) (neg most ⊖ most)) × T (le (most ⊖ neg most) twice) × T (positive twice) × T (finite (twice ⊗ twice)) × T (finite (twice ⊗ twice ⊕ twice ⊗ twice))
unfolding of_bits neg sub mul add le
spans = (tt, tt, tt, tt, tt, tt, tt)

-- ---- the parts of a sound channel
module _ (s : Position) (h : T (position_sound s)) where
  axes : T (axis_sound is_position s.x && axis_sound is_position s.y)
  axes = and_l (axis_sound is_position s.x && axis_sound is_position s.y) ((nis_sound s.nis && last_fix_sound s.last_fix) && run_sound s.run) h

  left : T ((nis_sound s.nis && last_fix_sound s.last_fix) && run_sound s.run)
  left = and_r (axis_sound is_position s.x && axis_sound is_position s.y) ((nis_sound s.nis && last_fix_sound s.last_fix) && run_sound s.run) h

  rest : T (nis_sound s.nis && last_fix_sound s.last_fix)
  rest = and_l (nis_sound s.nis && last_fix_sound s.last_fix) (run_sound s.run) left

  x_axis : T (axis_sound is_position s.x)
  x_axis = and_l (axis_sound is_position s.x) (axis_sound is_position s.y) axes

  y_axis : T (axis_sound is_position s.y)
  y_axis = and_r (axis_sound is_position s.x) (axis_sound is_position s.y) axes

  pub x_sound : T (is_position s.x.x)
  x_sound = and_l (is_position s.x.x) (is_variance s.x.p) x_axis

  pub y_sound : T (is_position s.y.x)
  y_sound = and_l (is_position s.y.x) (is_variance s.y.p) y_axis

  pub x_spread : T (is_variance s.x.p)
  x_spread = and_r (is_position s.x.x) (is_variance s.x.p) x_axis

  pub y_spread : T (is_variance s.y.p)
  y_spread = and_r (is_position s.y.x) (is_variance s.y.p) y_axis

  pub nis_is_sound : T (nis_sound s.nis)
  nis_is_sound = and_l (nis_sound s.nis) (last_fix_sound s.last_fix) rest

  pub fix_sound : T (last_fix_sound s.last_fix)
  fix_sound = and_r (nis_sound s.nis) (last_fix_sound s.last_fix) rest

  pub run_is_sound : T (run_sound s.run)
  run_is_sound = and_r (nis_sound s.nis && last_fix_sound s.last_fix) (run_sound s.run) left

-- and a sound channel of its parts
pub parts_sound : (s : Position) → T (axis_sound is_position s.x) → T (axis_sound is_position s.y) → T (nis_sound s.nis) → T (last_fix_sound s.last_fix) → T (run_sound s.run) → T (position_sound s)
parts_sound s x y n l k =
    and_i (axis_sound is_position s.x && axis_sound is_position s.y) ((nis_sound s.nis && last_fix_sound s.last_fix) && run_sound s.run)
    (and_i (axis_sound is_position s.x) (axis_sound is_position s.y) x y)
    (and_i (nis_sound s.nis && last_fix_sound s.last_fix) (run_sound s.run) (and_i (nis_sound s.nis) (last_fix_sound s.last_fix) n l) k)

-- ---- what a call would store
module _ (s : Position) (h : T (position_sound s)) where
  pub variances_sound : (v w : Float) → T (is_variance v) → T (is_variance w) → T (position_sound (with_variances v w s))
  variances_sound v w i j =
      parts_sound (with_variances v w s) (and_i (is_position s.x.x) (is_variance v) (x_sound s h) i) (and_i (is_position s.y.x) (is_variance w) (y_sound s h) j) (nis_is_sound s h) (fix_sound s h) (run_is_sound s h)

  reset_sound : T (position_sound (reset_nis s))
  reset_sound = parts_sound (reset_nis s) (x_axis s h) (y_axis s h) (and_i (is_nis_sum zero32) (is_nis_count 0) locks.1 tt) (fix_sound s h) (run_is_sound s h)

  -- one tally more, and another run
  pub counted_sound : (k : ℕ) → T (run_sound k) → T (position_sound (with_run k (rejected_once s)))
  counted_sound k t = parts_sound (with_run k (rejected_once s)) (x_axis s h) (y_axis s h) (nis_is_sound s h) (fix_sound s h) t

-- a sound variance from nought
pub from_nought : (p : Float) → T (is_variance p) → In nought variance p
from_nought p v = subst (λ (z : Float). In z variance p) zero_is (from_between zero32 p variance v)

self : T (le little little)
unfolding of_bits le
self = tt

-- 1e9 + 1e-6 rounds to 1e9
little_more : (p : Float) → T (is_variance p) → T (is_variance (p ⊕ little))
little_more p v =
    let i : In nought little little = record { from = steps.2; to = self } in
    let k = sum_in variance little p little steps.0 steps.1 (from_nought p v) i in
    to_between zero32 (p ⊕ little) variance
    (subst (λ (z : Float). In z variance (p ⊕ little)) (sym zero_is) (record { from = k.from; to = le_trans_float (p ⊕ little) (variance ⊕ little) variance k.to steps.3 }))

-- ---- the calls without an argument
pub lock_not_six : (r : Float) (s : Position) → NotSix (on_position r lock_position s)
lock_not_six r s = not_six (position_port r) lock_position s (λ f u n h. variances_sound s h one32 one32 locks.0 locks.0)

pub skip_not_six : (r : Float) (s : Position) → NotSix (on_position r skip_prediction s)
skip_not_six r s =
    not_six (position_port r) skip_prediction s
    (λ f u n h. variances_sound s h (s.x.p ⊕ little) (s.y.p ⊕ little) (little_more s.x.p (x_spread s h)) (little_more s.y.p (y_spread s h)))

pub reset_not_six : (r : Float) (s : Position) → NotSix (on_position r reset_nis_stats s)
reset_not_six r s = not_six (position_port r) reset_nis_stats s (λ f u n h. reset_sound s h)

-- ---- the readers store nothing
pub position_not_six : (r : Float) (s : Position) → NotSix (on_position r position s)
position_not_six r s = not_six (position_port r) position s (λ f u n h. h)

pub stats_not_six : (r : Float) (s : Position) → NotSix (on_position r position_gate_stats s)
stats_not_six r s = not_six (position_port r) position_gate_stats s (λ f u n h. h)

pub average_not_six : (r : Float) (s : Position) → NotSix (on_position r get_nis_position_avg s)
average_not_six r s = not_six (position_port r) get_nis_position_avg s (λ f u n h. h)

pub discrepancy_not_six : (r : Float) (s : Position) → NotSix (on_position r get_gps_discrepancy s)
discrepancy_not_six r s = not_six (position_port r) get_gps_discrepancy s (λ f u n h. h)

pub sigma_not_six : (r : Float) (s : Position) → NotSix (on_position r get_effective_pos_sigma s)
sigma_not_six r s = not_six (position_port r) get_effective_pos_sigma s (λ f u n h. h)

-- ---- what the roots are asked
-- p[0] + p[1]
pub sigma_rootable : (s : Position) → T (position_sound s) → Rootable (s.x.p ⊕ s.y.p)
sigma_rootable s h =
    rootable (variance ⊕ variance) (s.x.p ⊕ s.y.p) steps.4 (sum_in variance variance s.x.p s.y.p steps.0 steps.0 (from_nought s.x.p (x_spread s h)) (from_nought s.y.p (y_spread s h)))

-- a difference of two positions
pub apart : (a b : Float) → T (is_position a) → T (is_position b) → In (neg twice) twice (a ⊖ b)
apart a b t u =
    widen (neg most ⊖ most) (most ⊖ neg most) (neg twice) twice (a ⊖ b) spans.2 spans.3
    (sub_in binary32 (neg most) most (neg most) most a b spans.1 spans.0 spans.1 spans.0 (from_within a most t) (from_within b most u))

-- dx * dx + dy * dy
pub discrepancy_rootable : (s : Position) → T (position_sound s) →
    let dx = s.x.x ⊖ s.last_fix.x in let dy = s.y.x ⊖ s.last_fix.y in Rootable (dx ⊗ dx ⊕ dy ⊗ dy)
discrepancy_rootable s h =
    let l = s.last_fix in
    let dx = s.x.x ⊖ l.x in
    let dy = s.y.x ⊖ l.y in
    let f = fix_sound s h in
    rootable (twice ⊗ twice ⊕ twice ⊗ twice) (dx ⊗ dx ⊕ dy ⊗ dy) spans.6
    (sum_in (twice ⊗ twice) (twice ⊗ twice) (dx ⊗ dx) (dy ⊗ dy) spans.5 spans.5
    (square_in twice dx spans.4 (apart s.x.x l.x (x_sound s h) (and_l (is_position l.x) (is_position l.y) f)))
    (square_in twice dy spans.4 (apart s.y.x l.y (y_sound s h) (and_r (is_position l.x) (is_position l.y) f))))

-- the NIS average by 2: the count as a float is from 1 to 16,777,216
two_by : T (finite (variance ⊘ one)) × T (positive (f32 0x4000_0000)) × T (finite (variance ⊘ one ⊘ f32 0x4000_0000)) × T (le nought (f32 0x4000_0000)) × T (le (f32 0x4000_0000) (variance ⊘ one)) × T (le nought variance)
unfolding of_bits div le
two_by = (tt, tt, tt, tt, tt, tt)

ones : round binary32 false 1 1 ≡ one
unfolding round
ones = refl

most_count : T (finite (round binary32 false 16777216 1))
unfolding round
most_count = tt

count_is_in : (n : ℕ) → 0 < n → T (le one (count_float n)) × T (finite (count_float n))
unfolding of_int
count_is_in n p =
    let k = min n 16777216 in
    let lo = subst (λ (o : Float). T (le o (round binary32 false k 1))) ones (round_mono binary32 1 1 k 1 (omega arith) (omega arith) (omega arith)) in
    let hi = round_mono binary32 k 1 16777216 1 (omega arith) (omega arith) (omega arith) in
    (lo, between_finite one (round binary32 false k 1) (round binary32 false 16777216 1) tt most_count lo hi)

average_in : (s : Position) → T (position_sound s) → In nought (variance ⊘ one) (nis_average s.nis)
average_in s h = go (ltb 0 s.nis.count) (λ e. ltb→lt 0 s.nis.count e)
  where
    sum : In nought variance s.nis.sum
    sum = from_nought s.nis.sum (and_l (is_nis_sum s.nis.sum) (is_nis_count s.nis.count) (nis_is_sound s h))

    sum_finite : T (finite s.nis.sum)
    sum_finite = between_finite nought s.nis.sum variance tt steps.0 sum.from sum.to

    some : 0 < s.nis.count → In nought (variance ⊘ one) (s.nis.sum ⊘ count_float s.nis.count)
    some p =
        let k = count_is_in s.nis.count p in
        let c = count_float s.nis.count in
        let q = positive_by one c tt k.1 k.0 in
        record {
          from = div_from_zero binary32 s.nis.sum c sum_finite q sum.from;
          to = le_trans_float (s.nis.sum ⊘ c) (variance ⊘ c) (variance ⊘ one) (div_scale binary32 s.nis.sum variance c sum_finite steps.0 q sum.to) (div_anti binary32 variance one c steps.0 two_by.5 tt q k.0);
        }

    go : (b : Bool) → (T b → 0 < s.nis.count) → In nought (variance ⊘ one) (cond b (s.nis.sum ⊘ count_float s.nis.count) (f32 0x4000_0000))
    go true f = some (f tt)
    go false f = record { from = two_by.3; to = two_by.4 }

-- nis_avg / 2.0
pub average_rootable : (s : Position) → T (position_sound s) → Rootable (nis_average s.nis ⊘ f32 0x4000_0000)
average_rootable s h =
    let i = average_in s h in
    let a = nis_average s.nis in
    let f = between_finite nought a (variance ⊘ one) tt two_by.0 i.from i.to in
    rootable (variance ⊘ one ⊘ f32 0x4000_0000) (a ⊘ f32 0x4000_0000) two_by.2
    (record { from = div_from_zero binary32 a (f32 0x4000_0000) f two_by.1 i.from; to = div_scale binary32 a (variance ⊘ one) (f32 0x4000_0000) f two_by.0 two_by.1 i.to })
