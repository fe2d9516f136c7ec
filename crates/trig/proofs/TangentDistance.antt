-- Document 01's sentences on the arc tangent, proved of its steps for every pair of f32 in its domain. Assumes nothing.
-- The bound, the half plane and the size hold of the settled cases (0, 0) and y zero as well, so that no pair is left out.
use Rattle.std.specs.Prelude.{ℕ, ◌*◌, ◌^◌, ◌≡◌, refl, Bool, true, false, not, ◌&&◌, cond, negsuc, T, Float}
use Rattle.std.proofs.Common.{sym, ap, ◌∙◌, subst, arith, lit<}
use Rattle.std.specs.Float.{nan, binary32}
use Rattle.std.specs.Float.Ieee.{eq, lt, fits}
use Rattle.std.specs.Float.Ieee.Bits.{is_true}
use Rattle.std.specs.Float.Ieee.Positive.{num, den}
use Rattle.float.specs.Value.{within, pi, zero32}
use Rattle.trig.specs.Angle.{units, negative, turned}
use Rattle.trig.specs.Tangent.{usable, bearing, radians, level, direction, arc_tangent, Bearing}
use Rattle.float.specs.Fraction.{value_within}
use Rattle.trig.proofs.Laws.Results.{radians_value, turned_value}
use Rattle.trig.proofs.Laws.Units.{value_sign, value_units}
use Rattle.trig.proofs.Laws.Usable.{argument}
use Rattle.trig.proofs.Laws.Bearing.{bearing_angle}
use Rattle.trig.proofs.Laws.Turned.{small_unit, front_unit}
use Rattle.trig.proofs.Laws.Answered.{pi_is, answered}
use Rattle.trig.proofs.Laws.Level.{zero_size, left_of_zero, not_left, level_pi, level_zero}

-- ---- y not zero
found : (y x : Float) → T (fits binary32 y) → T (fits binary32 x) → T (usable y) → T (usable x) → Bearing y x (direction y x)
found y x fy fx uy ux =
    let Y = argument y fy uy in
    let X = argument x fx ux in
    let k = bearing (negative x) (units 47 y) (units 47 x) in
    let w = bearing_angle (negative x) (units 47 y) (units 47 x) Y.units_most X.units_most in
    let v = turned_value (negative y) (radians k) false k (2 ^ 22) (radians_value k (omega (arith, w.at_most_pi))) in
    let u = value_units 28 (turned (negative y) (radians k)) _ k (2 ^ 22) (64 * k) (lit< tt) v (omega arith) in
    let g = value_sign (turned (negative y) (radians k)) _ k (2 ^ 22) v in
    let ey : num y * den x * 2 ^ 47 ≡ units 47 y * (den y * den x) = swap (num y) (den x) (2 ^ 47) (units 47 y) (den y) Y.exact in
    let ex : num x * den y * 2 ^ 47 ≡ units 47 x * (den y * den x) = swap' (num x) (den y) (2 ^ 47) (units 47 x) (den x) X.exact in
    answered y x (turned (negative y) (radians k)) (negative y) k (g ∙ same (negative y)) u
    (subst (λ (l : Float). T (within (turned (negative y) (radians k)) l)) (sym pi_is) (value_within _ _ k (2 ^ 22) 13176795 (negsuc 21) (lit< tt) v (omega (arith, w.at_most_pi))))
    refl
    (small_unit (units 47 y) (units 47 x) (num y * den x) (num x * den y) (den y * den x) (2 ^ 47) ey ex (lit< tt) (negative x) (64 * k) w.small)
    (front_unit (units 47 y) (units 47 x) (num y * den x) (num x * den y) (den y * den x) (2 ^ 47) ey ex (lit< tt) (negative x) (64 * k) w.front)
  where
    swap : (a d t u e : ℕ) → a * t ≡ u * e → a * d * t ≡ u * (e * d)
    swap a d t u e h = omega (arith, ap (λ (z : ℕ). z * d) h)

    swap' : (a d t u e : ℕ) → a * t ≡ u * e → a * d * t ≡ u * (d * e)
    swap' a d t u e h = omega (arith, ap (λ (z : ℕ). z * d) h)

    same : (b : Bool) → cond b (not false) false ≡ b
    same true = refl
    same false = refl

-- ---- the theorems
-- y zero: PI where x is negative, and 0 where it is not, so at (0, 0) too
pub level_is : (y x : Float) → T (usable y) → T (usable x) → eq y zero32 ≡ true → arc_tangent y x ≡ level x
unfolding arc_tangent
level_is y x uy ux e = rw (is_true (usable y) uy, is_true (usable x) ux, e)

-- y not zero
pub direction_is : (y x : Float) → T (usable y) → T (usable x) → eq y zero32 ≡ false → arc_tangent y x ≡ direction y x
unfolding arc_tangent
direction_is y x uy ux e = rw (is_true (usable y) uy, is_true (usable x) ux, e)

-- out of the domain
pub beyond_is : (y x : Float) → usable y && usable x ≡ false → arc_tangent y x ≡ nan
unfolding arc_tangent
beyond_is y x e = rw e

-- every pair of f32 in the domain
pub arc_tangent_near : (y x : Float) → T (fits binary32 y) → T (fits binary32 x) → T (usable y) → T (usable x) → Bearing y x (arc_tangent y x)
unfolding arc_tangent
arc_tangent_near y x fy fx uy ux = rw (is_true (usable y) uy, is_true (usable x) ux) (go (eq y zero32) refl)
  where
    go : (b : Bool) → eq y zero32 ≡ b → Bearing y x (cond b (level x) (direction y x))
    go false e = found y x fy fx uy ux
    go true e = side (lt x zero32) refl
      where
        side : (b : Bool) → lt x zero32 ≡ b → Bearing y x (cond b pi zero32)
        side true f = level_pi y x (zero_size y e) (left_of_zero x (argument x fx ux).is_finite f)
        side false f = level_zero y x (zero_size y e) (not_left x (den y) (argument x fx ux).is_finite f)

-- for callers: the answer is at most PI in size
pub arc_tangent_within : (y x : Float) → T (fits binary32 y) → T (fits binary32 x) → T (usable y) → T (usable x) → T (within (arc_tangent y x) pi)
arc_tangent_within y x fy fx uy ux = (arc_tangent_near y x fy fx uy ux).within_pi
