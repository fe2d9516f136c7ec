-- The four nested sums of the steps lie a little below the four halves of S and C. Assumes nothing.
use Rattle.std.specs.Prelude.{ℕ, ◌+◌, ◌*◌, ◌/◌, ◌^◌, ◌≤◌, ◌<◌, ◌≡◌, List, [], ◌∷◌, T}
use Rattle.std.proofs.Math.Path.{refl}
use Rattle.std.proofs.Common.{sym, ap, ◌∙◌, mul-le-mul, mul-le-mul_left, mul-le-mul_right, div-mul-le_self, arith, lit≤, lit<}
use Rattle.std.proofs.Math.Nat.{lt-div-mul-add, pow-zero}
use Rattle.trig.specs.Series.{scale, coef, series, sin⁺, sin⁻, cos⁺, cos⁻, sin⁺_degrees, sin⁻_degrees, cos⁺_degrees, cos⁻_degrees}
use Rattle.trig.specs.Steps.{square, fourth, nest, sin_up, sin_down, cos_up, cos_down, sin⁺_divisors, sin⁻_divisors, cos⁺_divisors, cos⁻_divisors}
use Rattle.trig.proofs.Laws.Poly.{at, ◌+ₚ◌, times, shift, at_add, at_times, at_shift}
use Rattle.trig.proofs.Laws.Nest.{top, bottom, slack, most, positive, nest_up, nest_lo, nest_most}
use Rattle.trig.proofs.Laws.Circle.{poly, series_at}
use Rattle.trig.proofs.Laws.Powers.{square_low, square_high, square_most, fourth_low, fourth_high, fourth_most, power_1, power_2, power_3}

-- ---- the exact sum as a polynomial, and as a series
abbrev nested : ℕ → List ℕ → List ℕ
nested E [] = 1 ∷ []
nested E (d ∷ ds) = (E * d * bottom E ds ∷ []) +ₚ shift 4 (nested E ds)

nested_at : (n E : ℕ) (ds : List ℕ) → at n (nested E ds) ≡ top E (n ^ 4) ds
nested_at n E [] = omega arith
nested_at n E (d ∷ ds) = rw (at_add n (E * d * bottom E ds ∷ []) (shift 4 (nested E ds)), at_shift n 4 (nested E ds), nested_at n E ds) (omega arith)

lead : (n c k f : ℕ) (ds ks : List ℕ) → n ^ k ≡ f → times c (shift k (nested (2 ^ 112) ds)) ≡ poly ks → series n ks ≡ c * (f * top (2 ^ 112) (n ^ 4) ds)
lead n c k f ds ks nk e = sym (series_at n ks) ∙ ap (at n) (sym e) ∙ at_times n c (shift k (nested (2 ^ 112) ds)) ∙ rw (at_shift n k (nested (2 ^ 112) ds), nested_at n (2 ^ 112) ds, nk)

-- ---- the two parts, each a little below what it stands for. O = 2 ^ 30
plus : (f g a e B H c D P : ℕ) → a * B ≤ H * 1073741824 → H * 1073741824 ≤ (a + e) * B → P ≡ c * (f * H) → D ≡ c * B * g → (f * a * D ≤ P * (1073741824 * g)) × (P * (1073741824 * g) ≤ f * (a + e) * D)
plus f g a e B H c D P lo hi p d = rw (p, d) (omega (arith, mul-le-mul_left (c * f * g) lo), omega (arith, mul-le-mul_left (c * f * g) hi))

down : (f g m n z r e s b B H c D M : ℕ) → z * 268435456 ≤ n * n → n * n ≤ (z + 1) * 268435456 → r * B ≤ H * 1073741824 → H * 1073741824 ≤ (r + e) * B
    → b * (268435456 * m) ≤ z * r → z * r ≤ (b + 1) * (268435456 * m) → z * e + r + e ≤ s * (268435456 * m) → M ≡ c * (f * (n * n) * H) → D ≡ c * B * (g * 72057594037927936 * m)
    → (f * b * D ≤ M * (1073741824 * g)) × (M * (1073741824 * g) ≤ f * (b + (s + 1)) * D)
down f g m n z r e s b B H c D M zl zh lo hi bl bh se p d = rw (p, d) (under, over)
  where
    under : f * b * (c * B * (g * 72057594037927936 * m)) ≤ c * (f * (n * n) * H) * (1073741824 * g)
    under = omega (arith, mul-le-mul_left (c * f * g) (mul-le-mul zl lo), mul-le-mul_left (c * f * g * B) bl)

    over : c * (f * (n * n) * H) * (1073741824 * g) ≤ f * (b + (s + 1)) * (c * B * (g * 72057594037927936 * m))
    over =
        let t : n * n * (H * 1073741824) ≤ (b + (s + 1)) * (72057594037927936 * m) * B = omega (arith, mul-le-mul zh hi, mul-le-mul_right B bh, mul-le-mul_right B se) in
        omega (arith, mul-le-mul_left (c * f * g) t)

-- P / scale lies between f * a and f * (a + e), in units of 1 / (u * 2 ^ 24)
abbrev pub Part : ℕ → ℕ → ℕ → ℕ → ℕ → Type 0
Part f u a e P = (f * a * scale ≤ P * (u * 16777216)) × (P * (u * 16777216) ≤ f * (a + e) * scale)

-- ---- the four parts
module _ (n : ℕ) (h : n ≤ 1073741824) where
  above : (f g c : ℕ) (ds : List ℕ) (P : ℕ) → P ≡ c * (f * top (2 ^ 112) (n ^ 4) ds) → scale ≡ c * bottom (2 ^ 112) ds * g → T (positive ds)
      → (f * nest (fourth (square n)) ds * scale ≤ P * (1073741824 * g)) × (P * (1073741824 * g) ≤ f * (nest (fourth (square n)) ds + slack ds) * scale)
  above f g c ds P p d t =
      let v = fourth (square n) in
      plus f g (nest v ds) (slack ds) (bottom (2 ^ 112) ds) (top (2 ^ 112) (n ^ 4) ds) c scale P
      (nest_up (2 ^ 112) (n ^ 4) v (fourth_low n h) (fourth_high n h) (fourth_most n h) ds)
      (nest_lo (2 ^ 112) (n ^ 4) v (fourth_low n h) (fourth_high n h) (fourth_most n h) ds t) p d

  below : (f g m c b s : ℕ) (ds : List ℕ) (M : ℕ) → M ≡ c * (f * (n * n) * top (2 ^ 112) (n ^ 4) ds) → scale ≡ c * bottom (2 ^ 112) ds * (g * 72057594037927936 * m) → T (positive ds)
      → b ≡ square n * nest (fourth (square n)) ds / (268435456 * m) → 0 < 268435456 * m → 4294967296 * slack ds + most ds + slack ds ≤ s * (268435456 * m)
      → (f * b * scale ≤ M * (1073741824 * g)) × (M * (1073741824 * g) ≤ f * (b + (s + 1)) * scale)
  below f g m c b s ds M p d t q mp sl =
      let v = fourth (square n) in
      let z = square n in
      let r = nest v ds in
      down f g m n z r (slack ds) s b (bottom (2 ^ 112) ds) (top (2 ^ 112) (n ^ 4) ds) c scale M (square_low n h) (square_high n h)
      (nest_up (2 ^ 112) (n ^ 4) v (fourth_low n h) (fourth_high n h) (fourth_most n h) ds)
      (nest_lo (2 ^ 112) (n ^ 4) v (fourth_low n h) (fourth_high n h) (fourth_most n h) ds t)
      (rw q (div-mul-le_self (z * r) (268435456 * m)))
      (rw q (omega (arith, lt-div-mul-add {a = z * r} mp)))
      (omega (arith, sl, mul-le-mul_right (slack ds) (square_most n h), nest_most v (fourth_most n h) ds t))
      p d

  pub sin_plus : Part n 17179869184 (sin_up n) 9 (sin⁺ n)
  unfolding sin_up scale coef
  sin_plus = above n 268435456 (12144 * 2 ^ 84) sin⁺_divisors (sin⁺ n) (lead n (12144 * 2 ^ 84) 1 n sin⁺_divisors sin⁺_degrees (power_1 n) refl) refl tt

  pub sin_minus : Part n 17179869184 (sin_down n) 10 (sin⁻ n)
  unfolding sin_down scale coef
  sin_minus =
      below n 268435456 6 (24 * 2 ^ 28) (sin_down n) 9 sin⁻_divisors (sin⁻ n) (lead n (24 * 2 ^ 28) 3 (n * (n * n)) sin⁻_divisors sin⁻_degrees (power_3 n) refl) refl tt refl (lit< tt) (lit≤ tt)

  pub cos_plus : Part 1 64 (cos_up n) 41 (cos⁺ n)
  unfolding cos_up scale coef
  cos_plus = above 1 1 1 cos⁺_divisors (cos⁺ n) (lead n 1 0 1 cos⁺_divisors cos⁺_degrees (pow-zero n) refl) refl tt

  pub cos_minus : Part 1 64 (cos_down n) 37 (cos⁻ n)
  unfolding cos_down scale coef
  cos_minus =
      below 1 1 2 (552 * 2 ^ 56) (cos_down n) 36 cos⁻_divisors (cos⁻ n) (lead n (552 * 2 ^ 56) 2 (1 * (n * n)) cos⁻_divisors cos⁻_degrees (power_2 n) refl) refl tt refl (lit< tt) (lit≤ tt)
