-- The low-pass's angle, for every cutoff and rate that the making takes, lies from 0 to 51 / 16: a little above PI, and within the sine's domain. Assumes nothing.
use Rattle.std.specs.Prelude.{ℕ, ◌+◌, ◌*◌, ◌^◌, ◌≤◌, ◌<◌, ◌≡◌, refl, Bool, true, false, ◌&&◌, ℤ, pos, negsuc, T, Float}
use Rattle.std.proofs.Common.{sym, ap, ◌∙◌, subst, le_of_mul-le-mul_right, mul-le-mul_right, mul-pos, le_of_lt, lt_of_not-le, arith, lit<, pow_pos}
use Rattle.std.specs.Float.{nan, inf, fin, binary32}
use Rattle.std.specs.Float.Ieee.{up, down, round, of_bits, fits, div, le, lt}
use Rattle.std.specs.Float.Ieee.Bits.{is_true}
use Rattle.std.specs.Float.Ieee.Exact.{HasValue}
use Rattle.std.specs.Float.Ieee.Fits.{and_l, and_r, down_pos}
use Rattle.std.specs.Float.Ieee.Positive.{den, den_pos, positive}
use Rattle.std.specs.Float.Ieee.Scale.{finite}
use Rattle.float.specs.Value.{◌⊗◌, ◌⊘◌, within}
use Rattle.float.specs.Order.{plus, less, le→below, le→not_lt, lt→le, rounded_mono, over, le_trans_float, between_finite}
use Rattle.float.specs.Exact.{on_grid}
use Rattle.float.specs.Bounds.{nought, one, self_rounded, mul_rounded, div_rounded, mul_from_zero, div_from_zero, positive_by, plus_pos, no_less}
use Rattle.float.specs.Interval.{In, div_scale}
use Rattle.trig.specs.Angle.{four}
use Rattle.trig.proofs.SineLeast.{past_pi, within_four}
use Rattle.lowpass.specs.Ranges.{takes_design}
use Rattle.lowpass.specs.Lowpass.{angle}
use Rattle.lowpass.specs.AngleLimit.{Between, scaled}

-- ---- facts that antt computes
abbrev turn : Float
turn = fin false 13176795 (negsuc 20)

abbrev two : Float
two = fin false 1 (pos 1)

-- 0.01 and 1e5
abbrev least : Float
least = fin false 5368709 (negsuc 28)

abbrev most : Float
most = fin false 3125 (pos 5)

known : T (le nought (least)) × T (le nought turn) × T (fits binary32 past_pi) × T (finite (most ⊘ two))
unfolding le fits div
known = (tt, tt, tt, tt)

-- ---- a cutoff below the rounded half of the rate is below half the rate
halved : (c r : Float) → T (fits binary32 c) → T (finite c) → T (finite r) → lt c (r ⊘ two) ≡ true → 2 * plus c * den r + less r * den c ≤ plus r * den c + 2 * less c * den r
halved c r f p q h = le_of_lt (lt_of_not-le (λ g. differ (sym h ∙ le→not_lt (r ⊘ two) c (under g))))
  where
    differ : true ≡ false → ⊥
    differ e = subst T e tt

    at : (a b d u v w : ℕ) → a * w + 2 * v * d ≤ 2 * u * d + b * w → a * 1 * w + v * (2 * d) ≤ u * (2 * d) + b * 1 * w
    at a b d u v w g = omega (arith, g)

    under : plus r * den c + 2 * less c * den r ≤ 2 * plus c * den r + less r * den c → T (le (r ⊘ two) c)
    under g =
        rounded_mono binary32 (plus r * 1) (less r * 1) (2 * den r) (plus c) (less c) (den c) (r ⊘ two) c (mul-pos (lit< tt) (den_pos r)) (den_pos c) (div_rounded binary32 r two q tt) (self_rounded binary32 c f p)
        (at (plus r) (less r) (den r) (plus c) (less c) (den c) g)

-- ---- the angle
bounded : (c : Float) (m : ℕ) (e : ℤ) → T (fits binary32 c) → T (fits binary32 (fin false m e)) → T (finite c) → T (le nought c) → T (positive (fin false m e))
    → down e ≤ m * up e → m * up e ≤ 100000 * down e → lt c (fin false m e ⊘ two) ≡ true → In nought past_pi (turn ⊗ c ⊘ fin false m e)
bounded c m e fc fr pc lc pr l u h = go (round binary32 false b.y (2 ^ 149)) b.exact product
  where
    r : Float
    r = fin false m e

    X : Float
    X = turn ⊗ c

    w : (q : ℕ) × (j : ℕ) × (q < 2 ^ 24) × (m * up e * 2 ^ 149 ≡ q * 2 ^ j * down e)
    w = on_grid binary32 false m e fr

    g : ℕ
    g = w.0 * 2 ^ w.1

    from : (n d g p : ℕ) → n * p ≡ g * d → d ≤ n → 0 < d → p ≤ g
    from n d g p q h o = le_of_mul-le-mul_right {k = d} (rw (← q) (omega (arith, mul-le-mul_right p h))) o

    to : (n d g p : ℕ) → n * p ≡ g * d → n ≤ 100000 * d → 0 < d → g ≤ 100000 * p
    to n d g p q h o = le_of_mul-le-mul_right {k = d} (rw (← q) (omega (arith, mul-le-mul_right p h))) o

    b : Between g
    b = scaled w.0 w.1 w.2 (from (m * up e) (down e) g (2 ^ 149) w.3 l (down_pos e)) (to (m * up e) (down e) g (2 ^ 149) w.3 u (down_pos e))

    product : T (le X (round binary32 false b.y (2 ^ 149)))
    product =
        rounded_mono binary32 (plus turn * plus c + less turn * less c) (plus turn * less c + less turn * plus c) (den turn * den c) b.y 0 (2 ^ 149) X (round binary32 false b.y (2 ^ 149))
        (mul-pos (den_pos turn) (den_pos c)) (pow_pos 149) (mul_rounded binary32 turn c tt pc) (over b.y (omega arith) refl)
        (at (plus c) (less c) (den c) (m * up e) (down e) g b.y (2 ^ 149) (no_less c pc lc) (halved c r fc pc tt h) w.3 b.above (down_pos e))
      where
        -- a / w is c, n / d is r, g / p is r too, and y / p is above PI * r
        at0 : (a w n d g y p : ℕ) → 2 * (a * d) ≤ n * w → n * p ≡ g * d → 13176795 * g ≤ 4194304 * y → 0 < d → 13176795 * (a * p) ≤ 2097152 * (y * w)
        at0 a w n d g y p h q k o =
            le_of_mul-le-mul_right {k = d} (omega (arith, mul-le-mul_right p h, ap (λ (z : ℕ). z * w) q, mul-le-mul_right (d * w) k)) o

        at : (a b w n d g y p : ℕ) → b ≡ 0 → 2 * a * d + 0 * w ≤ n * w + 2 * b * d → n * p ≡ g * d → 13176795 * g ≤ 4194304 * y → 0 < d
            → (13176795 * 1 * a + 0 * b) * p + 0 * (2097152 * w) ≤ y * (2097152 * w) + (13176795 * 1 * b + 0 * a) * p
        at a b w n d g y p z h q k o = rw z (let f = at0 a w n d g y p (omega (arith, rw z at h)) q k o in omega (arith, f))

    go : (z : Float) → HasValue z false b.y (2 ^ 149) → T (le X z) → In nought past_pi (X ⊘ r)
    go nan v k = absurd v
    go (inf s) v k = absurd v
    go (fin true n f) v k = absurd (subst T v.0 tt)
    go (fin false n f) v k =
        let l_x = mul_from_zero binary32 turn c tt pc known.1 lc in
        let f_x = between_finite nought X (fin false n f) tt tt l_x k in
        record {
          from = div_from_zero binary32 X r f_x pr l_x;
          to =
              rounded_mono binary32 (plus X * den r) (less X * den r) (plus r * den X) 51 0 16 (X ⊘ r) past_pi (mul-pos (plus_pos r pr) (den_pos X)) (lit< tt) (div_rounded binary32 X r f_x pr) (self_rounded binary32 past_pi known.2 tt)
              (at (plus X) (less X) (den X) (n * up f) (down f) (m * up e) (down e) g b.y (2 ^ 149) (no_less X f_x l_x) (le→below X (fin false n f) f_x tt k) v.1 w.3 b.below (down_pos f) (pow_pos 149));
        }
      where
        -- a / w is X, n / f is y / p, r / d is the rate and g / p
        at0 : (a w n f r d g y p : ℕ) → a * f ≤ n * w → n * p ≡ y * f → r * p ≡ g * d → 16 * y ≤ 51 * g → 0 < f → 0 < p → 16 * (a * d) ≤ 51 * (r * w)
        at0 a w n f r d g y p h q s k of op =
            le_of_mul-le-mul_right {k = f * p} (omega (arith, mul-le-mul_right (d * p) h, ap (λ (z : ℕ). z * (w * d)) q, mul-le-mul_right (f * (w * d)) k, ap (λ (z : ℕ). z * (f * w)) s)) (mul-pos of op)

        at : (a b w n f r d g y p : ℕ) → b ≡ 0 → a * f + 0 * w ≤ n * w + b * f → n * p ≡ y * f → r * p ≡ g * d → 16 * y ≤ 51 * g → 0 < f → 0 < p
            → a * d * 16 + 0 * (r * w) ≤ 51 * (r * w) + b * d * 16
        at a b w n f r d g y p z h q s k of op = rw z (let t = at0 a w n f r d g y p (omega (arith, rw z at h)) q s k of op in omega (arith, t))

-- the range of cutoff and rate, opened
opened : (cutoff rate : Float) → T (fits binary32 cutoff) → T (fits binary32 rate) → T (le least cutoff) → T (le one rate) → T (le rate most) → T (lt cutoff (rate ⊘ two)) → In nought past_pi (turn ⊗ cutoff ⊘ rate)
opened cutoff rate fc fr l from to h = go rate fr from to (positive_by one rate tt finite_rate from) (is_true (lt cutoff (rate ⊘ two)) h)
  where
    finite_rate : T (finite rate)
    finite_rate = between_finite one rate most tt tt from to

    finite_cutoff : T (finite cutoff)
    finite_cutoff =
        between_finite least cutoff (most ⊘ two) tt known.3 l
        (le_trans_float cutoff (rate ⊘ two) (most ⊘ two) (lt→le cutoff (rate ⊘ two) h) (div_scale binary32 rate most two finite_rate tt tt to))

    go : (rate : Float) → T (fits binary32 rate) → T (le one rate) → T (le rate most) → T (positive rate) → lt cutoff (rate ⊘ two) ≡ true → In nought past_pi (turn ⊗ cutoff ⊘ rate)
    go nan f a u p h = absurd p
    go (inf s) f a u p h = absurd p
    go (fin true m e) f a u p h = absurd p
    go (fin false m e) f a u p h =
        bounded cutoff m e fc f finite_cutoff (le_trans_float nought least cutoff known.0 l) p (omega (arith, le→below one (fin false m e) tt tt a)) (omega (arith, le→below (fin false m e) most tt tt u)) h

-- every angle that the making uses is from 0 to 51 / 16
pub angle_in : (cutoff rate : Float) → T (fits binary32 cutoff) → T (fits binary32 rate) → T (takes_design cutoff rate) → In nought past_pi (angle cutoff rate)
unfolding of_bits
angle_in cutoff rate fc fr t = opened cutoff rate fc fr (and_l (le least cutoff) to first) (and_l from _ (and_r (le least cutoff) to first)) (and_r from (le rate most) (and_r (le least cutoff) to first)) (and_r (le least cutoff && to) (lt cutoff (rate ⊘ two)) t)
  where
    from : Bool
    from = le one rate

    to : Bool
    to = from && le rate most

    first : T (le least cutoff && to)
    first = and_l (le least cutoff && to) (lt cutoff (rate ⊘ two)) t

-- so it is within 4
pub angle_within : (cutoff rate : Float) → T (fits binary32 cutoff) → T (fits binary32 rate) → T (takes_design cutoff rate) → T (within (angle cutoff rate) four)
angle_within cutoff rate fc fr t =
    let a = angle_in cutoff rate fc fr t in
    within_four (angle cutoff rate) a.from a.to
