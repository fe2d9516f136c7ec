-- The arc tangent where y is zero: the answers 0 and PI meet what document 01 asks of every answer. Assumes nothing.
use Rattle.std.specs.Prelude.{ℕ, ◌+◌, ◌*◌, ◌^◌, ◌≤◌, ◌≡◌, refl, ◌⊎◌, Bool, true, false, ◌||◌, negsuc, T, eqb, Float}
use Rattle.std.proofs.Common.{sym, subst, inl, inr, mul-le-mul_left, zero-mul, arith, ltb-true, ltb-false, eqb→eq, lit≤, lit<}
use Rattle.std.specs.Bool.{beq}
use Rattle.std.specs.Float.{nan, inf, fin}
use Rattle.std.specs.Float.Ieee.{up, down, of_bits, eq, lt}
use Rattle.std.specs.Float.Ieee.Fits.{and_l}
use Rattle.std.specs.Float.Ieee.Positive.{num, den}
use Rattle.std.specs.Float.Ieee.Scale.{finite}
use Rattle.float.specs.Value.{pi, zero32}
use Rattle.trig.specs.Difference.{Within}
use Rattle.trig.specs.Series.{scale, coef, sin⁺, sin⁻, cos⁺, cos⁻}
use Rattle.trig.specs.Angle.{units, negative, signed}
use Rattle.trig.specs.Tangent.{over, Bearing}
use Rattle.trig.proofs.Laws.Across.{Small, Front}
use Rattle.float.specs.Fraction.{value_within}
use Rattle.trig.proofs.Laws.Answered.{answered}

pub zero_size : (v : Float) → eq v zero32 ≡ true → num v ≡ 0
unfolding eq of_bits
zero_size nan e = refl
zero_size (inf s) e = refl
zero_size (fin s m d) e = omega (arith, eqb→eq (m * up d * 1) (0 * 1 * down d) (and_l (eqb (m * up d * 1) (0 * 1 * down d)) (beq s false || eqb (m * up d * 1) 0) (subst T (sym e) tt)))

level : (x p m q r D : ℕ) → 1048576 * r ≤ 1048576 * q + D → 1048576 * q ≤ 1048576 * r + D → Within (1048576 * (0 * p + x * r)) (1048576 * (0 * m + x * q)) ((x + 0) * D)
level x p m q r D a b = (omega (arith, mul-le-mul_left x a), omega (arith, mul-le-mul_left x b))

facing : (x p m q r : ℕ) → (m ≤ p) ⊎ (x ≡ 0) → x * m + 0 * r ≤ x * p + 0 * q
facing x p m q r (inl h) = omega (arith, mul-le-mul_left x h)
facing x p m q r (inr h) = rw h (omega arith)

at_pi : (x : ℕ) → Small true 0 x (64 * 13176795) × Front true 0 x (64 * 13176795)
unfolding coef scale
at_pi x =
    let N = 64 * 13176795 in
    (level x (cos⁺ N) (cos⁻ N) (sin⁻ N) (sin⁺ N) scale (lit≤ tt) (lit≤ tt), facing x (cos⁻ N) (cos⁺ N) (sin⁺ N) (sin⁻ N) (inl (lit≤ tt)))

at_zero : (x : ℕ) (left : Bool) → (left ≡ false) ⊎ (x ≡ 0) → Small left 0 x (64 * 0) × Front left 0 x (64 * 0)
unfolding coef
at_zero x false h = (level x (cos⁺ 0) (cos⁻ 0) (sin⁺ 0) (sin⁻ 0) scale (omega arith) (omega arith), facing x (cos⁺ 0) (cos⁻ 0) (sin⁺ 0) (sin⁻ 0) (inl (lit≤ tt)))
at_zero x true (inl h) = absurd (subst T h tt)
at_zero x true (inr h) = (level x (cos⁺ 0) (cos⁻ 0) (sin⁻ 0) (sin⁺ 0) scale (omega arith) (omega arith), facing x (cos⁻ 0) (cos⁺ 0) (sin⁺ 0) (sin⁻ 0) (inr h))

-- a zero y has no sign
unsigned : (y x : Float) → num y ≡ 0 → over y x ≡ signed false (num y * den x)
unsigned y x z = go (negative y)
  where
    go : (s : Bool) → signed s (num y * den x) ≡ signed false (num y * den x)
    go false = refl
    go true = rw (z, zero-mul (den x))

-- x below zero is negative, and x that is not is not, or is zero
pub left_of_zero : (x : Float) → T (finite x) → lt x zero32 ≡ true → negative x ≡ true
unfolding lt of_bits
left_of_zero nan f e = absurd f
left_of_zero (inf s) f e = absurd f
left_of_zero (fin true m d) f e = refl
left_of_zero (fin false m d) f e = absurd (omega (arith, ltb-true (m * up d * 1) (0 * 1 * down d) e))

pub not_left : (x : Float) (k : ℕ) → T (finite x) → lt x zero32 ≡ false → (negative x ≡ false) ⊎ (num x * k ≡ 0)
unfolding lt of_bits
not_left nan k f e = absurd f
not_left (inf s) k f e = absurd f
not_left (fin true m d) k f e = inr (rw (omega' (m * up d) (down d) (ltb-false 0 (m * up d * 1 + 0 * 1 * down d) e)) (zero-mul k))
  where
    omega' : (a d : ℕ) → a * 1 + 0 * 1 * d ≤ 0 → a ≡ 0
    omega' a d h = omega arith
not_left (fin false m d) k f e = inl refl

pub level_pi : (y x : Float) → num y ≡ 0 → negative x ≡ true → Bearing y x pi
unfolding of_bits units
level_pi y x z e =
    let w = at_pi (num x * den y) in
    answered y x pi false 13176795 refl refl (value_within pi false 13176795 (2 ^ 22) 13176795 (negsuc 21) (lit< tt) (refl, refl) (lit≤ tt)) (unsigned y x z)
    (rw (e, z, zero-mul (den x)) w.0) (rw (e, z, zero-mul (den x)) w.1)

pub level_zero : (y x : Float) → num y ≡ 0 → (negative x ≡ false) ⊎ (num x * den y ≡ 0) → Bearing y x zero32
unfolding of_bits units
level_zero y x z e =
    let w = at_zero (num x * den y) (negative x) e in
    answered y x zero32 false 0 refl refl (value_within zero32 false 0 (2 ^ 22) 13176795 (negsuc 21) (lit< tt) (refl, refl) (lit≤ tt)) (unsigned y x z)
    (rw (z, zero-mul (den x)) w.0) (rw (z, zero-mul (den x)) w.1)
