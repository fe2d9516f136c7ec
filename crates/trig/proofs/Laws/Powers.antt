-- The powers that the steps start from lie a little below what they stand for, n the angle in units of 2 ^ -28. Assumes nothing.
use Rattle.std.specs.Prelude.{ℕ, ◌+◌, ◌*◌, ◌/◌, ◌^◌, ◌≤◌, ◌≡◌, refl}
use Rattle.std.proofs.Math.Nat.{mul-le-mul, mul-le-mul_left, div-mul-le_self, lt-div-mul-add, pow-zero}
use Rattle.std.proofs.Common.{pow-suc, arith, lit<}
use Rattle.trig.specs.Steps.{square, fourth, Powered}

-- ---- z and v
fourth_power : (n : ℕ) → n ^ 4 ≡ n * n * (n * n)
fourth_power n = rw (pow-suc n 3, pow-suc n 2, pow-suc n 1, pow-suc n 0, pow-zero n) (omega arith)

pub power_1 : (n : ℕ) → n ^ 1 ≡ n
power_1 n = rw (pow-suc n 0, pow-zero n) (omega arith)

pub power_2 : (n : ℕ) → n ^ 2 ≡ 1 * (n * n)
power_2 n = rw (pow-suc n 1, pow-suc n 0, pow-zero n) (omega arith)

pub power_3 : (n : ℕ) → n ^ 3 ≡ n * (n * n)
power_3 n = rw (pow-suc n 2, pow-suc n 1, pow-suc n 0, pow-zero n) (omega arith)

module _ (n : ℕ) (h : n ≤ 1073741824) where
  pub square_low : square n * 268435456 ≤ n * n
  unfolding square
  square_low = div-mul-le_self (n * n) 268435456

  pub square_high : n * n ≤ (square n + 1) * 268435456
  unfolding square
  square_high = omega (arith, lt-div-mul-add {a = n * n} {b = 268435456} (lit< tt))

  pub square_most : square n ≤ 4294967296
  square_most = omega (arith, square_low, mul-le-mul h h)

  pub fourth_low : fourth (square n) * 2 ^ 112 ≤ n ^ 4 * 8388608
  unfolding fourth
  fourth_low =
      let z = square n in
      let a = div-mul-le_self (z * (z / 2)) 4294967296 in
      let b : z * (z / 2 * 2) ≤ z * z = mul-le-mul_left z (div-mul-le_self z 2) in
      rw (fourth_power n) (omega (arith, a, b, mul-le-mul square_low square_low))

  pub fourth_high : n ^ 4 * 8388608 ≤ (fourth (square n) + 3) * 2 ^ 112
  unfolding fourth
  fourth_high =
      let z = square n in
      let a = lt-div-mul-add {a = z * (z / 2)} {b = 4294967296} (lit< tt) in
      let b : z * z ≤ z * (z / 2 * 2 + 1) = mul-le-mul_left z (omega (arith, lt-div-mul-add {a = z} {b = 2} (lit< tt))) in
      rw (fourth_power n) (omega (arith, a, b, square_most, mul-le-mul square_high square_high))

  pub fourth_most : fourth (square n) ≤ 2147483648
  unfolding fourth
  fourth_most =
      let z = square n in
      let a = div-mul-le_self (z * (z / 2)) 4294967296 in
      let b : z / 2 ≤ 2147483648 = omega (arith, div-mul-le_self z 2, square_most) in
      omega (arith, a, mul-le-mul square_most b)

pub half_square : (z : ℕ) → z ≤ 4294967296 → z * (z / 2) ≤ 4294967296 * 2147483648
half_square z h = let k : z / 2 ≤ 2147483648 = omega (arith, div-mul-le_self z 2) in mul-le-mul h k

pub powered : (n : ℕ) → n ≤ 1073741824 → Powered n (square n) (fourth (square n))
powered n h = record { n_most = h; z_is = refl; z_most = square_most n h; v_is = refl; v_most = fourth_most n h }
