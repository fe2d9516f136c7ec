-- How fast S and C change: by at most d / 2 ^ 28 and a little, over d units of 2 ^ -28. Assumes nothing.
use Rattle.std.specs.Prelude.{ℕ, ◌+◌, ◌*◌, ◌≤◌, ◌≡◌, List, [], ◌∷◌, T}
use Rattle.std.proofs.Common.{ap, add-zero, le_antisymm, mul-le-mul_left, mul-le-mul_right, le-add_right, arith, lit≤}
use Rattle.std.proofs.Math.Nat.{le_trans}
use Rattle.trig.specs.Series.{scale, coef, series, sin⁺, sin⁻, cos⁺, cos⁻, sin⁺_degrees, sin⁻_degrees, cos⁺_degrees, cos⁻_degrees}
use Rattle.trig.proofs.Laws.Poly.{at, below, below_at, times, shift, at_add, at_times, at_mono}
use Rattle.trig.proofs.Laws.Circle.{poly, series_at, sin_top, sin_bottom, cos_top, cos_bottom}
use Rattle.trig.proofs.Laws.Rise.{deriv, bend, rise_low, rise_high}

-- p - m is p₁ - m₁ to within 2 * d / 2 ^ 28, in units of D
abbrev pub Moves : ℕ → ℕ → ℕ → ℕ → ℕ → ℕ → Type 0
Moves p m p₁ m₁ D d = (134217728 * (p₁ + m) ≤ 134217728 * (p + m₁) + d * D) × (134217728 * (p + m₁) ≤ 134217728 * (p₁ + m) + d * D)

-- ---- p - m moves by its slope, which (q - r) / 2 ^ 28 is, but for a small w
slope : (d p m p₁ m₁ p' m' q r w D k l : ℕ)
    → p + d * p' ≤ p₁ → p₁ ≤ p + d * p' + d * d * k → m + d * m' ≤ m₁ → m₁ ≤ m + d * m' + d * d * l
    → 268435456 * p' + w ≡ q → 268435456 * m' ≡ r → 67108864 * q ≤ 67108865 * D + 67108864 * r → 67108864 * r ≤ 67108865 * D + 67108864 * q → 67108864 * w ≤ D
    → d ≤ 16777216 → 72057594037927936 * k ≤ 8 * D → 72057594037927936 * l ≤ 8 * D → Moves p m p₁ m₁ D d
slope d p m p₁ m₁ p' m' q r w D k l pl ph ml mh eq er qt qb ws dm ks ls =
    let a : 536870912 * (d * d * k) ≤ d * D = omega (arith, mul-le-mul_right (d * k) dm, mul-le-mul_left d ks) in
    let b : 536870912 * (d * d * l) ≤ d * D = omega (arith, mul-le-mul_right (d * l) dm, mul-le-mul_left d ls) in
    let e : 268435456 * (d * p') + d * w ≡ d * q = omega (arith, ap (λ (t : ℕ). d * t) eq) in
    let f : 268435456 * (d * m') ≡ d * r = omega (arith, ap (λ (t : ℕ). d * t) er) in
    let t : 67108864 * (d * q) ≤ 67108865 * (d * D) + 67108864 * (d * r) = omega (arith, mul-le-mul_left d qt) in
    let u : 67108864 * (d * r) ≤ 67108865 * (d * D) + 67108864 * (d * q) = omega (arith, mul-le-mul_left d qb) in
    let v : 67108864 * (d * w) ≤ d * D = omega (arith, mul-le-mul_left d ws) in
    (omega arith, omega arith)

abbrev M : ℕ
M = 1073741824

-- the derivative of each series is 2 ^ -28 of the next, but for the term of degree 24
module _ (n : ℕ) where
  d_sin⁺ : 268435456 * at n (deriv (poly sin⁺_degrees)) + at n (shift 24 (coef 24 ∷ [])) ≡ cos⁺ n
  unfolding coef
  d_sin⁺ = rw (← at_times n 268435456 (deriv (poly sin⁺_degrees)), ← at_add n (times 268435456 (deriv (poly sin⁺_degrees))) (shift 24 (coef 24 ∷ []))) (series_at n cos⁺_degrees)

  -- two polynomials that differ only in zeros at the end
  same : (p q : List ℕ) → T (below p q) → T (below q p) → at n p ≡ at n q
  same p q a b = le_antisymm (below_at n p q a) (below_at n q p b)

  d_sin⁻ : 268435456 * at n (deriv (poly sin⁻_degrees)) ≡ cos⁻ n
  unfolding coef
  d_sin⁻ = rw (← at_times n 268435456 (deriv (poly sin⁻_degrees)), ← series_at n cos⁻_degrees) (same (times 268435456 (deriv (poly sin⁻_degrees))) (poly cos⁻_degrees) tt tt)

  d_cos⁺ : 268435456 * at n (deriv (poly cos⁺_degrees)) + 0 ≡ sin⁻ n
  unfolding coef
  d_cos⁺ = rw (add-zero (268435456 * at n (deriv (poly cos⁺_degrees))), ← at_times n 268435456 (deriv (poly cos⁺_degrees)), ← series_at n sin⁻_degrees) (same (times 268435456 (deriv (poly cos⁺_degrees))) (poly sin⁻_degrees) tt tt)

  d_cos⁻ : 268435456 * at n (deriv (poly cos⁻_degrees)) ≡ sin⁺ n
  unfolding coef
  d_cos⁻ = rw (← at_times n 268435456 (deriv (poly cos⁻_degrees)), ← series_at n sin⁺_degrees) (same (times 268435456 (deriv (poly cos⁻_degrees))) (poly sin⁺_degrees) tt tt)

  last_small : n ≤ M → 67108864 * at n (shift 24 (coef 24 ∷ [])) ≤ scale
  unfolding coef scale
  last_small h = le_trans (mul-le-mul_left 67108864 (at_mono n M (shift 24 (coef 24 ∷ [])) h)) (lit≤ tt)

bend_1 : 72057594037927936 * bend M (poly sin⁺_degrees) ≤ 8 * scale
unfolding coef scale
bend_1 = lit≤ tt

bend_3 : 72057594037927936 * bend M (poly sin⁻_degrees) ≤ 8 * scale
unfolding coef scale
bend_3 = lit≤ tt

bend_0 : 72057594037927936 * bend M (poly cos⁺_degrees) ≤ 8 * scale
unfolding coef scale
bend_0 = lit≤ tt

bend_2 : 72057594037927936 * bend M (poly cos⁻_degrees) ≤ 8 * scale
unfolding coef scale
bend_2 = lit≤ tt

module _ (n d : ℕ) (h : n + d ≤ M) (dm : d ≤ 16777216) where
  low : (ks : List ℕ) → series n ks + d * at n (deriv (poly ks)) ≤ series (n + d) ks
  low ks = rw (← series_at n ks, ← series_at (n + d) ks) (rise_low n d (poly ks))

  high : (ks : List ℕ) → series (n + d) ks ≤ series n ks + d * at n (deriv (poly ks)) + d * d * bend M (poly ks)
  high ks = rw (← series_at n ks, ← series_at (n + d) ks) (rise_high n d M h (poly ks))

  nm : n ≤ M
  nm = le_trans (le-add_right n d) h

  pub sin_moves : Moves (sin⁺ n) (sin⁻ n) (sin⁺ (n + d)) (sin⁻ (n + d)) scale d
  sin_moves =
      slope d (sin⁺ n) (sin⁻ n) (sin⁺ (n + d)) (sin⁻ (n + d)) (at n (deriv (poly sin⁺_degrees))) (at n (deriv (poly sin⁻_degrees))) (cos⁺ n) (cos⁻ n) (at n (shift 24 (coef 24 ∷ []))) scale (bend M (poly sin⁺_degrees)) (bend M (poly sin⁻_degrees))
      (low sin⁺_degrees) (high sin⁺_degrees) (low sin⁻_degrees) (high sin⁻_degrees) (d_sin⁺ n) (d_sin⁻ n) (cos_top n nm) (cos_bottom n nm) (last_small n nm) dm bend_1 bend_3

  pub cos_moves : Moves (cos⁺ n) (cos⁻ n) (cos⁺ (n + d)) (cos⁻ (n + d)) scale d
  cos_moves =
      slope d (cos⁺ n) (cos⁻ n) (cos⁺ (n + d)) (cos⁻ (n + d)) (at n (deriv (poly cos⁺_degrees))) (at n (deriv (poly cos⁻_degrees))) (sin⁻ n) (sin⁺ n) 0 scale (bend M (poly cos⁺_degrees)) (bend M (poly cos⁻_degrees))
      (low cos⁺_degrees) (high cos⁺_degrees) (low cos⁻_degrees) (high cos⁻_degrees) (d_cos⁺ n) (d_cos⁻ n) (sin_bottom n nm) (sin_top n nm) (omega arith) dm bend_0 bend_2
