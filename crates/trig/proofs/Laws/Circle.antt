-- S ^ 2 + C ^ 2 is at most a little above 1, so neither S nor C is above 1 + 2 ^ -26 in size. Assumes nothing.
use Rattle.std.specs.Prelude.{ℕ, zero, suc, ◌+◌, ◌*◌, ◌^◌, ◌≤◌, ◌<◌, ◌≡◌, refl, List, [], ◌∷◌, ◌⊎◌, T, leb}
use Rattle.std.proofs.Common.{subst, inl, inr, mul-le-mul, arith, leb→le}
use Rattle.std.proofs.Math.Nat.{le_dest}
use Rattle.trig.specs.Series.{scale, coef, series, sin⁺, sin⁻, cos⁺, cos⁻, sin⁺_degrees, sin⁻_degrees, cos⁺_degrees, cos⁻_degrees}
use Rattle.trig.proofs.Laws.Poly.{at, ◌+ₚ◌, ◌×ₚ◌, times, shift, minus, at_add, at_mul, at_times, at_shift, at_mono, minus_at}

-- ---- a series as a polynomial
abbrev pub poly : List ℕ → List ℕ
poly [] = []
poly (k ∷ ks) = shift k (coef k ∷ []) +ₚ poly ks

pub series_at : (n : ℕ) (ks : List ℕ) → at n (poly ks) ≡ series n ks
series_at n [] = refl
series_at n (k ∷ ks) = rw (at_add n (shift k (coef k ∷ [])) (poly ks), at_shift n k (coef k ∷ []), series_at n ks) (omega arith)

-- ---- squares
pub split : (a b : ℕ) → (a ≤ b) ⊎ (b < a)
split zero b = inl (omega arith)
split (suc a) zero = inr (omega arith)
split (suc a) (suc b) = elim (split a b) [ inl h ↦ inl (omega arith) | inr h ↦ inr (omega arith) ]

two_squares : (a b : ℕ) → 2 * (a * b) ≤ a * a + b * b
two_squares a b = elim (split a b) [ inl h ↦ up a b h | inr h ↦ omega (arith, up b a (omega arith)) ]
  where
    up : (a b : ℕ) → a ≤ b → 2 * (a * b) ≤ a * a + b * b
    up a b h = let d = le_dest h in subst (λ (c : ℕ). 2 * (a * c) ≤ a * a + c * c) d.1 (omega arith)

root : (a b : ℕ) → a * a ≤ b * b → a ≤ b
root a b h = elim (split a b) [ inl g ↦ g | inr g ↦ omega (arith, mul-le-mul g g) ]

-- (p - m) ^ 2 + (q - r) ^ 2 ≤ D ^ 2 + X, and X is small
bound : (p m q r D X : ℕ) → p * p + m * m + q * q + r * r ≤ D * D + 2 * (p * m) + 2 * (q * r) + X → 4503599627370496 * (D * D + X) ≤ D * D * 4503599761588225 → 67108864 * p ≤ 67108865 * D + 67108864 * m
bound p m q r D X h x =
    elim (split p m) [
      | inl g ↦ omega arith
      | inr g ↦ far (le_dest g)
    ]
  where
    far : (k : ℕ) × (suc m + k ≡ p) → 67108864 * p ≤ 67108865 * D + 67108864 * m
    far w =
        let d = suc w.0 in
        let e : p ≡ m + d = omega (arith, w.1) in
        let h' : (m + d) * (m + d) + m * m + q * q + r * r ≤ D * D + 2 * ((m + d) * m) + 2 * (q * r) + X = rw e at h in
        let s : d * d ≤ D * D + X = omega (arith, h', two_squares q r) in
        let t : (67108864 * d) * (67108864 * d) ≤ (67108865 * D) * (67108865 * D) = omega (arith, s, x) in
        omega (arith, e, root (67108864 * d) (67108865 * D) t)

-- ---- the identity, by coefficients
squares : List ℕ → List ℕ → List ℕ → List ℕ → List ℕ
squares p m q r = p ×ₚ p +ₚ m ×ₚ m +ₚ q ×ₚ q +ₚ r ×ₚ r

doubles : ℕ → List ℕ → List ℕ → List ℕ → List ℕ → List ℕ
doubles D p m q r = (D * D ∷ []) +ₚ times 2 (p ×ₚ m) +ₚ times 2 (q ×ₚ r)

at_squares : (n : ℕ) (p m q r : List ℕ) → at n (squares p m q r) ≡ at n p * at n p + at n m * at n m + at n q * at n q + at n r * at n r
unfolding squares
at_squares n p m q r = rw (at_add n (p ×ₚ p +ₚ m ×ₚ m +ₚ q ×ₚ q) (r ×ₚ r), at_add n (p ×ₚ p +ₚ m ×ₚ m) (q ×ₚ q), at_add n (p ×ₚ p) (m ×ₚ m), at_mul n p p, at_mul n m m, at_mul n q q, at_mul n r r)

at_doubles : (n D : ℕ) (p m q r : List ℕ) → at n (doubles D p m q r) ≡ D * D + 2 * (at n p * at n m) + 2 * (at n q * at n r)
unfolding doubles
at_doubles n D p m q r =
    rw (at_add n ((D * D ∷ []) +ₚ times 2 (p ×ₚ m)) (times 2 (q ×ₚ r)), at_add n (D * D ∷ []) (times 2 (p ×ₚ m)), at_times n 2 (p ×ₚ m), at_times n 2 (q ×ₚ r), at_mul n p m, at_mul n q r) (omega arith)

rest : List ℕ → List ℕ → List ℕ → List ℕ → ℕ
rest p m q r = at (2 ^ 30) (minus (squares p m q r) (doubles scale p m q r))

circle : (n : ℕ) (p m q r : List ℕ) → n ≤ 2 ^ 30
    → at n p * at n p + at n m * at n m + at n q * at n q + at n r * at n r ≤ scale * scale + 2 * (at n p * at n m) + 2 * (at n q * at n r) + rest p m q r
unfolding rest
circle n p m q r h =
    let a = minus_at n (squares p m q r) (doubles scale p m q r) in
    let b = at_mono n (2 ^ 30) (minus (squares p m q r) (doubles scale p m q r)) h in
    omega (arith, a, b, at_squares n p m q r, at_doubles n scale p m q r)

small : T (leb (4503599627370496 * (scale * scale + rest (poly sin⁺_degrees) (poly sin⁻_degrees) (poly cos⁺_degrees) (poly cos⁻_degrees))) (scale * scale * 4503599761588225))
unfolding scale coef squares doubles rest
small = tt

swap : (p m q r D X : ℕ) → p * p + m * m + q * q + r * r ≤ D + 2 * (p * m) + 2 * (q * r) + X → m * m + p * p + q * q + r * r ≤ D + 2 * (m * p) + 2 * (q * r) + X
swap p m q r D X h = omega arith

turn : (p m q r D X : ℕ) → p * p + m * m + q * q + r * r ≤ D + 2 * (p * m) + 2 * (q * r) + X → q * q + r * r + p * p + m * m ≤ D + 2 * (q * r) + 2 * (p * m) + X
turn p m q r D X h = omega arith

-- ---- neither S nor C is above 1 + 2 ^ -26 in size
module _ (n : ℕ) (h : n ≤ 2 ^ 30) where
  round : sin⁺ n * sin⁺ n + sin⁻ n * sin⁻ n + cos⁺ n * cos⁺ n + cos⁻ n * cos⁻ n ≤ scale * scale + 2 * (sin⁺ n * sin⁻ n) + 2 * (cos⁺ n * cos⁻ n) + rest (poly sin⁺_degrees) (poly sin⁻_degrees) (poly cos⁺_degrees) (poly cos⁻_degrees)
  round = rw (series_at n sin⁺_degrees, series_at n sin⁻_degrees, series_at n cos⁺_degrees, series_at n cos⁻_degrees) at (circle n (poly sin⁺_degrees) (poly sin⁻_degrees) (poly cos⁺_degrees) (poly cos⁻_degrees) h)

  pub sin_top : 67108864 * sin⁺ n ≤ 67108865 * scale + 67108864 * sin⁻ n
  sin_top = bound (sin⁺ n) (sin⁻ n) (cos⁺ n) (cos⁻ n) scale (rest (poly sin⁺_degrees) (poly sin⁻_degrees) (poly cos⁺_degrees) (poly cos⁻_degrees)) round (leb→le _ _ small)

  pub sin_bottom : 67108864 * sin⁻ n ≤ 67108865 * scale + 67108864 * sin⁺ n
  sin_bottom = bound (sin⁻ n) (sin⁺ n) (cos⁺ n) (cos⁻ n) scale (rest (poly sin⁺_degrees) (poly sin⁻_degrees) (poly cos⁺_degrees) (poly cos⁻_degrees)) (swap _ _ _ _ _ _ round) (leb→le _ _ small)

  pub cos_top : 67108864 * cos⁺ n ≤ 67108865 * scale + 67108864 * cos⁻ n
  cos_top = bound (cos⁺ n) (cos⁻ n) (sin⁺ n) (sin⁻ n) scale (rest (poly sin⁺_degrees) (poly sin⁻_degrees) (poly cos⁺_degrees) (poly cos⁻_degrees)) (turn _ _ _ _ _ _ round) (leb→le _ _ small)

  pub cos_bottom : 67108864 * cos⁻ n ≤ 67108865 * scale + 67108864 * cos⁺ n
  cos_bottom = bound (cos⁻ n) (cos⁺ n) (sin⁺ n) (sin⁻ n) scale (rest (poly sin⁺_degrees) (poly sin⁻_degrees) (poly cos⁺_degrees) (poly cos⁻_degrees)) (swap _ _ _ _ _ _ (turn _ _ _ _ _ _ round)) (leb→le _ _ small)
