-- The ends of the arc tangent's brackets: y * C - x * S is not below about zero at the low end, and not above about zero at the high end. Assumes nothing.
use Rattle.std.specs.Prelude.{ℕ, ◌+◌, ◌*◌, ◌≤◌, true, false}
use Rattle.std.proofs.Common.{mul-le-mul_left, arith, lit≤}
use Rattle.std.proofs.Math.Nat.{le_dest}
use Rattle.trig.specs.Series.{scale, coef, sin⁺, sin⁻, cos⁺, cos⁻}
use Rattle.trig.proofs.Laws.Across.{Low, High}

both : (a b p m q r e : ℕ) → m ≤ p → r ≤ q → 8388608 * (a * m + b * r) ≤ 8388608 * (a * p + b * q) + e
both a b p m q r e h k = omega (arith, mul-le-mul_left a h, mul-le-mul_left b k)

most : (a b p m q r e : ℕ) → b ≤ a → m ≤ p → m + r ≤ p + q → 8388608 * (a * m + b * r) ≤ 8388608 * (a * p + b * q) + e
most a b p m q r e o h k = let d = le_dest o in rw (← d.1) (omega (arith, mul-le-mul_left d.0 h, mul-le-mul_left b k))

flip : (a b c d e : ℕ) → 8388608 * (b + a) ≤ 8388608 * (d + c) + e → 8388608 * (a + b) ≤ 8388608 * (c + d) + e
flip a b c d e h = omega arith

-- ---- the four brackets, their ends in units of 2 ^ -28
module _ (y x : ℕ) where
  pub low_1 : Low false y x 0
  unfolding coef
  low_1 = both y x (cos⁺ 0) (cos⁻ 0) (sin⁻ 0) (sin⁺ 0) ((x + y) * scale) (lit≤ tt) (lit≤ tt)

  pub high_1 : y ≤ x → High false y x 210829248
  unfolding coef
  high_1 h = flip _ _ _ _ _ (most x y (sin⁺ 210829248) (sin⁻ 210829248) (cos⁻ 210829248) (cos⁺ 210829248) ((x + y) * scale) h (lit≤ tt) (lit≤ tt))

  pub low_2 : x ≤ y → Low false y x 210828160
  unfolding coef
  low_2 h = most y x (cos⁺ 210828160) (cos⁻ 210828160) (sin⁻ 210828160) (sin⁺ 210828160) ((x + y) * scale) h (lit≤ tt) (lit≤ tt)

  pub high_2 : High false y x 421657920
  unfolding coef
  high_2 = both y x (cos⁻ 421657920) (cos⁺ 421657920) (sin⁺ 421657920) (sin⁻ 421657920) ((x + y) * scale) (lit≤ tt) (lit≤ tt)

  pub low_3 : Low true y x 421656896
  unfolding coef
  low_3 = both y x (cos⁺ 421656896) (cos⁻ 421656896) (sin⁺ 421656896) (sin⁻ 421656896) ((x + y) * scale) (lit≤ tt) (lit≤ tt)

  pub high_3 : x ≤ y → High true y x 632486656
  unfolding coef
  high_3 h = most y x (cos⁻ 632486656) (cos⁺ 632486656) (sin⁻ 632486656) (sin⁺ 632486656) ((x + y) * scale) h (lit≤ tt) (lit≤ tt)

  pub low_4 : y ≤ x → Low true y x 632485568
  unfolding coef
  low_4 h = flip _ _ _ _ _ (most x y (sin⁺ 632485568) (sin⁻ 632485568) (cos⁺ 632485568) (cos⁻ 632485568) ((x + y) * scale) h (lit≤ tt) (lit≤ tt))

  pub high_4 : High true y x 843314880
  unfolding coef
  high_4 = both y x (cos⁻ 843314880) (cos⁺ 843314880) (sin⁻ 843314880) (sin⁺ 843314880) ((x + y) * scale) (lit≤ tt) (lit≤ tt)
