-- The sine's and the cosine's steps on whole numbers: no loop, no sign, and every division cuts. Definitions only.
-- The angle is x = n / 2 ^ 28. Each series is split into the terms that are added and those that are subtracted, and each half is nested in x ^ 4.
use Rattle.std.specs.Prelude.{ℕ, ◌+◌, ◌-◌, ◌*◌, ◌/◌, ◌≤◌, ◌≡◌, List, [], ◌∷◌}

-- ---- the powers, which the sine and the cosine share

-- x ^ 2 in units of 2 ^ -28
unfoldable pub square : ℕ → ℕ
square n = n * n / 268435456

-- x ^ 4 / 128 in units of 2 ^ -30, from x ^ 2
unfoldable pub fourth : ℕ → ℕ
fourth z = z * (z / 2) / 4294967296

-- z and v are these powers of n, and fit their steps
pub record Powered (n z v : ℕ) : Type 0 where
  pub n_most : n ≤ 1073741824
  pub z_is : z ≡ square n
  pub z_most : z ≤ 4294967296
  pub v_is : v ≡ fourth z
  pub v_most : v ≤ 2147483648

-- ---- the nested sums

-- 1 + x ^ 4 / d₁ * (1 + x ^ 4 / d₂ * (.. 1)) in units of 2 ^ -30
unfoldable pub nest : ℕ → List ℕ → ℕ
nest v [] = 1073741824
nest v (d ∷ ds) = 1073741824 + v * nest v ds / (8388608 * d)

-- each divisor is the product of the four degrees that lie between its term and the next
abbrev pub sin⁺_divisors : List ℕ
sin⁺_divisors = 120 ∷ 3024 ∷ 17160 ∷ 57120 ∷ 143640 ∷ []

abbrev pub sin⁻_divisors : List ℕ
sin⁻_divisors = 840 ∷ 7920 ∷ 32760 ∷ 93024 ∷ 212520 ∷ []

abbrev pub cos⁺_divisors : List ℕ
cos⁺_divisors = 24 ∷ 1680 ∷ 11880 ∷ 43680 ∷ 116280 ∷ 255024 ∷ []

abbrev pub cos⁻_divisors : List ℕ
cos⁻_divisors = 360 ∷ 5040 ∷ 24024 ∷ 73440 ∷ 175560 ∷ []

-- the sine over x is sin-up - sin-down, in units of 2 ^ -30; the terms of sin-down begin with x ^ 2 / 6
unfoldable pub sin_up : ℕ → ℕ
sin_up n = nest (fourth (square n)) sin⁺_divisors

unfoldable pub sin_down : ℕ → ℕ
sin_down n = square n * nest (fourth (square n)) sin⁻_divisors / 1610612736

-- the cosine is cos-up - cos-down, in units of 2 ^ -30; the terms of cos-down begin with x ^ 2 / 2
unfoldable pub cos_up : ℕ → ℕ
cos_up n = nest (fourth (square n)) cos⁺_divisors

unfoldable pub cos_down : ℕ → ℕ
cos_down n = square n * nest (fourth (square n)) cos⁻_divisors / 536870912

-- a result's part above zero and its part below, neither above 1 in units of 2 ^ -24
pub record Balanced (over under : ℕ) : Type 0 where
  pub over_most : over ≤ 16777216
  pub under_most : under ≤ 16777216

-- ---- the results, in units of 2 ^ -24, cut toward zero, and raised by 2, so that they have no sign
unfoldable pub raised_sine : ℕ → ℕ
raised_sine n = 33554432 + n * (sin_up n - sin_down n) / 17179869184 - n * (sin_down n - sin_up n) / 17179869184

unfoldable pub raised_cosine : ℕ → ℕ
raised_cosine n = 33554432 + (cos_up n - cos_down n) / 64 - (cos_down n - cos_up n) / 64
