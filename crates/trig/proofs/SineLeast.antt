-- From 0 to 51 / 16, a little above PI, the sine is at least -1 / 2. Assumes nothing.
use Rattle.std.specs.Prelude.{ℕ, ◌+◌, ◌*◌, ◌^◌, ◌≤◌, ◌<◌, ◌≡◌, Bool, true, false, negsuc, T, Float}
use Rattle.std.proofs.Common.{sym, subst, le_of_mul-le-mul_right, mul-le-mul_right, arith, lit≤}
use Rattle.std.specs.Float.{nan, inf, fin}
use Rattle.std.specs.Float.Ieee.{up, down, of_bits, neg, le}
use Rattle.std.specs.Float.Ieee.Exact.{HasValue}
use Rattle.std.specs.Float.Ieee.Scale.{finite}
use Rattle.float.specs.Value.{within}
use Rattle.float.specs.Order.{le→below, below→le, le_trans_float, between_finite}
use Rattle.float.specs.Bounds.{nought, no_less}
use Rattle.float.specs.Size.{within_of}
use Rattle.trig.specs.Difference.{◌minus◌, ◌⊟◌, ◌·◌, SizeAtMost}
use Rattle.trig.specs.Series.{scale, coef, sin⁺, sin⁻, sin⁺_degrees, sin⁻_degrees}
use Rattle.trig.specs.Angle.{n, four, signed, sine, Near}
use Rattle.trig.proofs.Distance.{sine_near}
use Rattle.trig.proofs.Laws.Near.{scale_pos}
use Rattle.trig.proofs.Laws.Signs.{spread, falls_sin}
use Rattle.trig.proofs.Laws.Units.{units_most}

abbrev pub half : Float
half = fin false 1 (negsuc 0)

-- 51 / 16
abbrev pub past_pi : Float
past_pi = fin false 51 (negsuc 3)

wide : T (le (neg four) nought) × T (le past_pi four)
unfolding of_bits le neg
wide = (tt, tt)

pub within_four : (a : Float) → T (le nought a) → T (le a past_pi) → T (within a four)
within_four a l u = within_of a four (le_trans_float (neg four) nought a wide.0 l) (le_trans_float a past_pi four u wide.1)

-- ---- S is at least -1 / 4, by the points at steps of 1 / 16
abbrev Least : ℕ → ℕ → Type 0
Least P M = 8 * M ≤ 8 * P + 2 * scale

plain : (P M D : ℕ) → 8 * M + 0 * D ≤ 8 * P + (1 + 1) * D → 8 * M ≤ 8 * P + 2 * D
plain P M D h = omega (arith, h)

series_least : (k : ℕ) → k < 872415232 → Least (sin⁺ k) (sin⁻ k)
unfolding scale coef
series_least k h = plain (sin⁺ k) (sin⁻ k) scale (spread 0 1 sin⁺_degrees sin⁻_degrees 0 52 k falls_sin tt (omega arith) (omega (arith, h)) (omega (arith, h)))

zero_least : Least (sin⁻ 0) (sin⁺ 0)
unfolding scale coef
zero_least = lit≤ tt

-- ---- so the sine, which lies within 2 ^ -23 of it, is at least -1 / 2
near_least : (P M : ℕ) (r : Float) → Least P M → Near (P minus M) r → T (le (neg half) r)
unfolding neg
near_least P M r h w = go r w.below_zero w.multiple w.near
  where
    few : (k D : ℕ) → 0 < D → 8 * M ≤ 8 * P + 2 * D → k * D + 16777216 * P ≤ 0 + 16777216 * M + 2 * D → k ≤ 8388608
    few k D o h v = le_of_mul-le-mul_right {k = D} (omega (arith, h, v)) o

    go : (r : Float) (b : Bool) → HasValue r b w.k (2 ^ 24) → SizeAtMost (signed b (w.k * scale) ⊟ 2 ^ 24 · (P minus M)) (2 * scale) → T (le (fin true 1 (negsuc 0)) r)
    go nan b v g = absurd v
    go (inf s) b v g = absurd v
    go (fin false m e) b v g = below→le (fin true 1 (negsuc 0)) (fin false m e) tt tt (omega arith)
    go (fin true m e) false v g = absurd (subst T v.0 tt)
    go (fin true m e) true v g = below→le (fin true 1 (negsuc 0)) (fin true m e) tt tt (small w.k (m * up e) (down e) (few w.k scale scale_pos h g.1) v.1)
      where
        small : (k n d : ℕ) → k ≤ 8388608 → n * 16777216 ≡ k * d → 0 * d + n * 2 ≤ 0 * 2 + 1 * 1 * d
        small k n d h e = omega (arith, e, mul-le-mul_right d h)

pub sine_least : (a : Float) → T (le nought a) → T (le a past_pi) → T (le (neg half) (sine a))
sine_least a l u = go a (between_finite nought a past_pi tt tt l u) l u (within_four a l u)
  where
    go : (a : Float) → T (finite a) → T (le nought a) → T (le a past_pi) → T (within a four) → T (le (neg half) (sine a))
    go nan f l u t = absurd f
    go (inf s) f l u t = absurd f
    go (fin false m e) f l u t =
        near_least (sin⁺ (n (fin false m e))) (sin⁻ (n (fin false m e))) (sine (fin false m e))
        (series_least (n (fin false m e)) (most (n (fin false m e)) (units_most 28 (fin false m e) 855638016 (omega (arith, le→below (fin false m e) past_pi tt tt u))))) (sine_near (fin false m e) t)
      where
        most : (k : ℕ) → k ≤ 855638016 → k < 872415232
        most k h = omega (arith, h)
    go (fin true m e) f l u t =
        near_least (sin⁻ (n (fin true m e))) (sin⁺ (n (fin true m e))) (sine (fin true m e)) (subst (λ (k : ℕ). Least (sin⁻ k) (sin⁺ k)) (sym (none (n (fin true m e)) (units_most 28 (fin true m e) 0 (omega (arith, no_less (fin true m e) tt l))))) zero_least)
        (sine_near (fin true m e) t)
      where
        none : (k : ℕ) → k ≤ 0 → k ≡ 0
        none k h = omega (arith, h)
