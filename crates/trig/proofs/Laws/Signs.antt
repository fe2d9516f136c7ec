-- Which of S and C is large, and of what sign, in each eighth of the circle: tested at steps of 1 / 16, and carried on by the slope. Assumes nothing.
use Rattle.std.specs.Prelude.{ℕ, zero, suc, ◌+◌, ◌*◌, ◌/◌, ◌%◌, ◌≤◌, ◌<◌, ◌≡◌, Bool, true, false, ◌&&◌, List, T, leb}
use Rattle.std.proofs.Common.{subst, inl, inr, mul-le-mul_left, mul-le-mul_right, div-add-mod', mod-lt, le_of_lt, le_antisymm, arith, leb→le, lit<}
use Rattle.std.proofs.Math.Nat.{add_comm}
use Rattle.std.specs.Float.Ieee.Fits.{and_l, and_r}
use Rattle.trig.specs.Series.{scale, coef, series, sin⁺, sin⁻, cos⁺, cos⁻, sin⁺_degrees, sin⁻_degrees, cos⁺_degrees, cos⁻_degrees}
use Rattle.trig.proofs.Laws.Across.{Front}
use Rattle.trig.proofs.Laws.Poly.{at}
use Rattle.trig.proofs.Laws.Circle.{poly, series_at, split}
use Rattle.trig.proofs.Laws.Slope.{sin_moves, cos_moves}

-- at the c points from i on, p - m is at least (a - b) / 8
abbrev points : ℕ → ℕ → List ℕ → List ℕ → ℕ → ℕ → Bool
points a b p m i zero = true
points a b p m i (suc c) = leb (8 * at (i * 16777216) m + a * scale) (8 * at (i * 16777216) p + b * scale) && points a b p m (suc i) c

point : (a b : ℕ) (p m : List ℕ) (i c j : ℕ) → T (points a b p m i c) → i ≤ j → j < i + c → 8 * at (j * 16777216) m + a * scale ≤ 8 * at (j * 16777216) p + b * scale
point a b p m i zero j t l u = absurd (omega arith)
point a b p m i (suc c) j t l u =
    let x = leb (8 * at (i * 16777216) m + a * scale) (8 * at (i * 16777216) p + b * scale) in
    elim (split j i) [
      | inl h ↦ subst (λ (k : ℕ). 8 * at (k * 16777216) m + a * scale ≤ 8 * at (k * 16777216) p + b * scale) (le_antisymm l h) (leb→le _ _ (and_l x (points a b p m (suc i) c) t))
      | inr h ↦ point a b p m (suc i) c j (and_r x (points a b p m (suc i) c) t) h (omega arith)
    ]

-- p - m does not fall faster than the slope allows
abbrev pub Falls : List ℕ → List ℕ → Type 0
Falls p m = (n d : ℕ) → n + d ≤ 1073741824 → d ≤ 16777216 → 134217728 * (series n p + series (n + d) m) ≤ 134217728 * (series (n + d) p + series n m) + d * scale

near : (a b p m p₁ m₁ d D : ℕ) → 8 * m + a * D ≤ 8 * p + b * D → 134217728 * (p + m₁) ≤ 134217728 * (p₁ + m) + d * D → d ≤ 16777216 → 8 * m₁ + a * D ≤ 8 * p₁ + (b + 1) * D
near a b p m p₁ m₁ d D h f dm = omega (arith, mul-le-mul_right D dm)

pub spread : (a b : ℕ) (p m : List ℕ) (i c n : ℕ) → Falls p m → T (points a b (poly p) (poly m) i c) → i * 16777216 ≤ n → n < (i + c) * 16777216 → n ≤ 1073741824 → 8 * series n m + a * scale ≤ 8 * series n p + (b + 1) * scale
spread a b p m i c n f t l u nm =
    let j = n / 16777216 in
    let d = n % 16777216 in
    let e : j * 16777216 + d ≡ n = div-add-mod' n 16777216 in
    let dm : d < 16777216 = mod-lt n (lit< tt) in
    let il : i ≤ j = omega arith in
    let iu : j < i + c = omega arith in
    let k : 8 * series (j * 16777216) m + a * scale ≤ 8 * series (j * 16777216) p + b * scale = rw (series_at (j * 16777216) p, series_at (j * 16777216) m) at (point a b (poly p) (poly m) i c j t il iu) in
    let g = f (j * 16777216) d (omega arith) (le_of_lt dm) in
    subst (λ (x : ℕ). 8 * series x m + a * scale ≤ 8 * series x p + (b + 1) * scale) e
    (near a b (series (j * 16777216) p) (series (j * 16777216) m) (series (j * 16777216 + d) p) (series (j * 16777216 + d) m) d scale k g (le_of_lt dm))

pub falls_sin : Falls sin⁺_degrees sin⁻_degrees
falls_sin n d h dm = (sin_moves n d h dm).1

falls_cos : Falls cos⁺_degrees cos⁻_degrees
falls_cos n d h dm = (cos_moves n d h dm).1

falls_neg : Falls cos⁻_degrees cos⁺_degrees
falls_neg n d h dm = rw (add_comm (cos⁻ n) (cos⁺ (n + d)), add_comm (cos⁻ (n + d)) (cos⁺ n)) (cos_moves n d h dm).0

-- ---- the larger of x and y times the larger of C and S outweighs the rest
outweigh : (a b p m q r D : ℕ) → b ≤ a → 8 * m + 5 * D ≤ 8 * p + 1 * D → 8 * r + 0 * D ≤ 8 * q + 2 * D → a * m + b * r ≤ a * p + b * q
outweigh a b p m q r D h s w = omega (arith, mul-le-mul_left a s, mul-le-mul_left b w, mul-le-mul_right D h)

-- ---- the four brackets, in units of 2 ^ -22
module _ (y x k : ℕ) where
  pub front_1 : y ≤ x → k ≤ 3294207 → Front false y x (64 * k)
  unfolding scale coef
  front_1 h u =
      outweigh x y (cos⁺ (64 * k)) (cos⁻ (64 * k)) (sin⁺ (64 * k)) (sin⁻ (64 * k)) scale h (spread 5 0 cos⁺_degrees cos⁻_degrees 0 13 (64 * k) falls_cos tt (omega arith) (omega arith) (omega arith))
      (spread 0 1 sin⁺_degrees sin⁻_degrees 0 13 (64 * k) falls_sin tt (omega arith) (omega arith) (omega arith))

  pub front_2 : x ≤ y → 3294190 ≤ k → k ≤ 6588405 → Front false y x (64 * k)
  unfolding scale coef
  front_2 h l u =
      rw (add_comm (x * cos⁻ (64 * k)) (y * sin⁻ (64 * k)), add_comm (x * cos⁺ (64 * k)) (y * sin⁺ (64 * k)))
      (outweigh y x (sin⁺ (64 * k)) (sin⁻ (64 * k)) (cos⁺ (64 * k)) (cos⁻ (64 * k)) scale h (spread 5 0 sin⁺_degrees sin⁻_degrees 12 14 (64 * k) falls_sin tt (omega arith) (omega arith) (omega arith))
      (spread 0 1 cos⁺_degrees cos⁻_degrees 12 14 (64 * k) falls_cos tt (omega arith) (omega arith) (omega arith)))

  pub front_3 : x ≤ y → 6588389 ≤ k → k ≤ 9882604 → Front true y x (64 * k)
  unfolding scale coef
  front_3 h l u =
      rw (add_comm (x * cos⁺ (64 * k)) (y * sin⁻ (64 * k)), add_comm (x * cos⁻ (64 * k)) (y * sin⁺ (64 * k)))
      (outweigh y x (sin⁺ (64 * k)) (sin⁻ (64 * k)) (cos⁻ (64 * k)) (cos⁺ (64 * k)) scale h (spread 5 0 sin⁺_degrees sin⁻_degrees 25 13 (64 * k) falls_sin tt (omega arith) (omega arith) (omega arith))
      (spread 0 1 cos⁻_degrees cos⁺_degrees 25 13 (64 * k) falls_neg tt (omega arith) (omega arith) (omega arith)))

  pub front_4 : y ≤ x → 9882587 ≤ k → k ≤ 13176795 → Front true y x (64 * k)
  unfolding scale coef
  front_4 h l u =
      outweigh x y (cos⁻ (64 * k)) (cos⁺ (64 * k)) (sin⁺ (64 * k)) (sin⁻ (64 * k)) scale h (spread 5 0 cos⁻_degrees cos⁺_degrees 37 14 (64 * k) falls_neg tt (omega arith) (omega arith) (omega arith))
      (spread 0 1 sin⁺_degrees sin⁻_degrees 37 14 (64 * k) falls_sin tt (omega arith) (omega arith) (omega arith))
