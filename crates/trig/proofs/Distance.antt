-- Document 01's sentences on the sine and the cosine, proved of their steps for every angle of at most 4 in size: each is a multiple of 2 ^ -24, at most 1
-- in size, and lies within 2 ^ -23 of S(n / 2 ^ 28) or C(n / 2 ^ 28). Assumes nothing.
use Rattle.std.specs.Prelude.{ℕ, ◌+◌, ◌-◌, ◌*◌, ◌^◌, ◌≤◌, ◌<◌, ◌≡◌, refl, Bool, true, false, not, cond, pos, T, ltb, Float}
use Rattle.std.proofs.Common.{sym, ap, subst, arith, lit<, ltb-true, ltb-false}
use Rattle.std.specs.Float.{fin}
use Rattle.std.specs.Float.Ieee.{of_bits, neg}
use Rattle.std.specs.Float.Ieee.Bits.{is_true}
use Rattle.std.specs.Float.Ieee.Scale.{finite}
use Rattle.float.specs.Value.{f32, within}
use Rattle.float.specs.Bounds.{one}
use Rattle.trig.specs.Difference.{Difference, ◌minus◌, ◌⊟◌, ◌·◌, Within, SizeAtMost}
use Rattle.trig.specs.Series.{scale, sin⁺, sin⁻, cos⁺, cos⁻, S, C}
use Rattle.trig.specs.Steps.{raised_sine, raised_cosine}
use Rattle.trig.specs.Angle.{n, negative, four, small, lowered, turned, signed, sine, cosine, Near}
use Rattle.trig.proofs.Laws.Near.{Raised, sine_raised, cosine_raised}
use Rattle.float.specs.Fraction.{neg_value, within_size, size_within, value_within}
use Rattle.trig.proofs.Laws.Results.{small_value}
use Rattle.trig.proofs.Laws.Units.{units_most}

-- ---- the answer, brought down again
-- |-k - (P - M)| and |k - (P - M)|, in units of 2 ^ -24 / D, from t, which is k lowered or raised by 2
under : (k t P M D : ℕ) → k + t ≡ 33554432 → Within (t * D + 16777216 * M) (16777216 * P + 33554432 * D) (2 * D) → Within (0 + 16777216 * M) (k * D + 16777216 * P) (2 * D)
under k t P M D e w =
    let g : k * D + t * D ≡ 33554432 * D = omega (arith, ap (λ (z : ℕ). z * D) e) in
    (omega (arith, g, w.0), omega (arith, g, w.1))

over : (k t P M D : ℕ) → k + 33554432 ≡ t → Within (t * D + 16777216 * M) (16777216 * P + 33554432 * D) (2 * D) → Within (k * D + 16777216 * M) (0 + 16777216 * P) (2 * D)
over k t P M D e w =
    let g : k * D + 33554432 * D ≡ t * D = omega (arith, ap (λ (z : ℕ). z * D) e) in
    (omega (arith, g, w.0), omega (arith, g, w.1))

lowered_near : (P M t : ℕ) → Raised P M t → Near (P minus M) (lowered t)
unfolding lowered
lowered_near P M t w = go (ltb t 33554432) refl
  where
    go : (b : Bool) → ltb t 33554432 ≡ b → Near (P minus M) (cond b (neg (small (33554432 - t))) (small (t - 33554432)))
    go true e =
        let h : t < 33554432 = ltb-true _ _ e in
        let k = 33554432 - t in
        let m : k ≤ 16777216 = omega (arith, w.above) in
        record { below_zero = true; k = k; multiple = neg_value (small k) false k (2 ^ 24) (small_value k m); at_most_one = m; near = under k t P M scale (omega arith) w.near }
    go false e =
        let h : 33554432 ≤ t = ltb-false _ _ e in
        let k = t - 33554432 in
        let m : k ≤ 16777216 = omega (arith, w.below) in
        record { below_zero = false; k = k; multiple = small_value k m; at_most_one = m; near = over k t P M scale (omega arith) w.near }

-- the other sign
turn : (b : Bool) (k P M D : ℕ) → SizeAtMost (signed b (k * D) ⊟ 2 ^ 24 · (P minus M)) (2 * D) → SizeAtMost (signed (not b) (k * D) ⊟ 2 ^ 24 · (M minus P)) (2 * D)
turn true k P M D w = omega (arith, w)
turn false k P M D w = omega (arith, w)

neg_near : (P M : ℕ) (r : Float) → Near (P minus M) r → Near (M minus P) (neg r)
neg_near P M r w =
    record { below_zero = not w.below_zero; k = w.k; multiple = neg_value r w.below_zero w.k (2 ^ 24) w.multiple; at_most_one = w.at_most_one; near = turn w.below_zero w.k P M scale w.near }

-- ---- n is at most 2 ^ 30
four_is : four ≡ fin false 1 (pos 2)
unfolding of_bits
four_is = refl

pub n_most : (a : Float) → T (within a four) → n a ≤ 2 ^ 30
n_most a t =
    let h = (within_size a 1 (pos 2) (subst (λ (l : Float). T (within a l)) four_is t)).1 in
    units_most 28 a (2 ^ 30) (omega (arith, h))

-- for the code: what an angle that passed the test has
pub record SmallAngle (a : Float) : Type 0 where
  pub is_finite : T (finite a)
  pub at_most_four : T (within a four)
  pub at_most_large : T (within a (f32 0x42000000))
  pub n_small : n a ≤ 1073741824

pub small_angle : (a : Float) → within a four ≡ true → SmallAngle a
unfolding of_bits
small_angle a e =
    let t : T (within a four) = subst T (sym e) tt in
    let w = within_size a 1 (pos 2) t in
    record { is_finite = w.0; at_most_four = t; at_most_large = size_within a 1 (pos 5) w.0 (omega (arith, w.1)); n_small = n_most a t }

-- ---- the theorems
pub sine_near : (a : Float) → T (within a four) → Near (S (negative a) (n a)) (sine a)
unfolding sine
sine_near a t = rw (is_true (within a four) t) (go (negative a))
  where
    go : (s : Bool) → Near (S s (n a)) (turned s (lowered (raised_sine (n a))))
    go false = lowered_near (sin⁺ (n a)) (sin⁻ (n a)) (raised_sine (n a)) (sine_raised (n a) (n_most a t))
    go true = neg_near (sin⁺ (n a)) (sin⁻ (n a)) (lowered (raised_sine (n a))) (lowered_near (sin⁺ (n a)) (sin⁻ (n a)) (raised_sine (n a)) (sine_raised (n a) (n_most a t)))

pub cosine_near : (a : Float) → T (within a four) → Near (C (negative a) (n a)) (cosine a)
unfolding cosine
cosine_near a t = rw (is_true (within a four) t) (lowered_near (cos⁺ (n a)) (cos⁻ (n a)) (raised_cosine (n a)) (cosine_raised (n a) (n_most a t)))

-- ---- for callers: neither is above 1 in size
near_within : (P : Difference) (r : Float) → Near P r → T (within r one)
near_within P r w = value_within r w.below_zero w.k (2 ^ 24) 1 (pos 0) (lit< tt) w.multiple (omega (arith, w.at_most_one))

pub sine_within : (a : Float) → T (within a four) → T (within (sine a) one)
sine_within a t = near_within (S (negative a) (n a)) (sine a) (sine_near a t)

pub cosine_within : (a : Float) → T (within a four) → T (within (cosine a) one)
cosine_within a t = near_within (C (negative a) (n a)) (cosine a) (cosine_near a t)
