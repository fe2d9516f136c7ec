-- A quotient as the upper half of a product, and that half from halves. Assumes nothing.
use Rattle.std.specs.Prelude.{ℕ, ◌+◌, ◌-◌, ◌*◌, ◌/◌, ◌%◌, ◌≤◌, ◌<◌, ◌≡◌}
use Rattle.std.proofs.Common.{sym, ap, ◌∙◌, mul-le-mul_left, mul-le-mul_right, le_of_mul-le-mul_right, lt_of_mul-lt-mul_right, div-mul-le_self, div-add-mod', mod-lt, arith, lit<}
use Rattle.std.proofs.Math.Nat.{lt-div-mul-add}
use Rattle.std.proofs.Math.Arith.{digits_div}

pub div_is : (a b q : ℕ) → q * b ≤ a → a < q * b + b → a / b ≡ q
div_is a b q l h = let e : q * b + (a - q * b) ≡ a = omega arith in ap (λ (x : ℕ). x / b) (sym e) ∙ digits_div q (omega arith)

-- ---- the upper half, by numbers in base 2 ^ 32: t, a and b are sums that carry
carried : (x₁ x₀ y₁ y₀ t₁ t₀ a₁ a₀ b₁ b₀ : ℕ) → t₁ * 4294967296 + t₀ ≡ x₀ * y₀ → a₁ * 4294967296 + a₀ ≡ x₁ * y₀ + t₁ → b₁ * 4294967296 + b₀ ≡ x₀ * y₁ + a₀ → t₀ < 4294967296 → b₀ < 4294967296
    → (x₁ * 4294967296 + x₀) * (y₁ * 4294967296 + y₀) / 18446744073709551616 ≡ x₁ * y₁ + a₁ + b₁
carried x₁ x₀ y₁ y₀ t₁ t₀ a₁ a₀ b₁ b₀ t a b s r =
    div_is ((x₁ * 4294967296 + x₀) * (y₁ * 4294967296 + y₀)) 18446744073709551616 (x₁ * y₁ + a₁ + b₁) (omega (arith, t, a, b)) (omega (arith, t, a, b, s, r))

-- what the code works out, of x and y by their halves
pub upper_half : (x y a b : ℕ) → a ≡ x / 4294967296 * (y % 4294967296) + x % 4294967296 * (y % 4294967296) / 4294967296 → b ≡ x % 4294967296 * (y / 4294967296) + a % 4294967296
    → x / 4294967296 * (y / 4294967296) + a / 4294967296 + b / 4294967296 ≡ x * y / 18446744073709551616
upper_half x y a b ea eb =
    let whole : (n : ℕ) → n / 4294967296 * 4294967296 + n % 4294967296 ≡ n = λ n. div-add-mod' n 4294967296 in
    let t = x % 4294967296 * (y % 4294967296) in
    sym (carried (x / 4294967296) (x % 4294967296) (y / 4294967296) (y % 4294967296) (t / 4294967296) (t % 4294967296) (a / 4294967296) (a % 4294967296) (b / 4294967296) (b % 4294967296)
    (whole t) (whole a ∙ ea) (whole b ∙ eb) (mod-lt t (lit< tt)) (mod-lt b (lit< tt)))
    ∙ ap (λ (z : ℕ). z * (y / 4294967296 * 4294967296 + y % 4294967296) / 18446744073709551616) (whole x) ∙ ap (λ (z : ℕ). x * z / 18446744073709551616) (whole y)

-- ---- x / d, by m / w for 1 / d, where m is too large by less than x notices
reciprocal : (w x d m : ℕ) → 0 < d → w ≤ m * d → m * d < w + d → x * d < w → x * m / w ≡ x / d
reciprocal w x d m o from to fits =
    let q = x / d in
    let next : x + 1 ≤ q * d + d = omega (arith, lt-div-mul-add {a = x} {b = d} o) in
    let l : q * w * d ≤ x * m * d = omega (arith, mul-le-mul_left x from, mul-le-mul_right w (div-mul-le_self x d)) in
    let h : x * m * d < (q * w + w) * d = omega (arith, mul-le-mul_left x to, mul-le-mul_right w next, fits) in
    div_is (x * m) w q (le_of_mul-le-mul_right l o) (lt_of_mul-lt-mul_right d h)

-- the next whole number above 2 ^ 64 / d is such an m
pub by_reciprocal : (x d : ℕ) → 0 < d → x * d ≤ 18446744073709551615 → x * (18446744073709551615 / d + 1) / 18446744073709551616 ≡ x / d
by_reciprocal x d o fits =
    reciprocal 18446744073709551616 x d (18446744073709551615 / d + 1) o
    (omega (arith, lt-div-mul-add {a = 18446744073709551615} {b = d} o)) (omega (arith, div-mul-le_self 18446744073709551615 d)) (omega (arith, fits))
