-- Whole numbers q * 2 ^ j with few digits have gaps, and the nearest root of n lies well within one. Assumes nothing.
use Rattle.std.specs.Prelude.{◌≡◌, ◌⊎◌, ℕ, zero, suc, ◌+◌, ◌-◌, ◌*◌, ◌^◌, ◌<◌, ◌≤◌}
use Rattle.std.proofs.Common.{sym, ap, ◌∙◌, inl, inr, le_trans, le_of_eq, le_of_lt, lt_irrefl, lt_of_lt_of_le, lt_of_le_of_lt, eq-or-lt_of_le, not-le_of_lt, mul-one, one-mul, mul_assoc, add-mul, mul-pos, mul-le-mul, mul-le-mul_right, mul-le-mul_left, mul-lt-mul_of_pos_right, lt_of_mul-lt-mul_right, sub-add_cancel, arith, pow-add, pow_pos, pow_mono, shl_lt}
use Rattle.std.proofs.Math.Nat.{mul-mul-mul_comm}
use Rattle.std.proofs.Math.Decide.{dec_le}
use Rattle.float.specs.RootWhole.{NearRoot}
use Rattle.float.specs.Order.{ring}

-- ---- gaps
-- either a multiple of 2 ^ k, or below 2 ^ (23 + k)
split : (q j k : ℕ) → q < 2 ^ 24 → ((h : ℕ) × (q * 2 ^ j ≡ h * 2 ^ k)) ⊎ (q * 2 ^ j < 2 ^ 23 * 2 ^ k)
split q j k s = go (dec_le k j)
  where
    go : Dec (k ≤ j) → ((h : ℕ) × (q * 2 ^ j ≡ h * 2 ^ k)) ⊎ (q * 2 ^ j < 2 ^ 23 * 2 ^ k)
    go (yes h) = inl (q * 2 ^ (j - k), ap (λ (x : ℕ). q * 2 ^ x) (sym (sub-add_cancel h)) ∙ ap (λ (x : ℕ). q * x) (pow-add 2 (j - k) k) ∙ sym (mul_assoc q (2 ^ (j - k)) (2 ^ k)))
    go (no h) = inr (lt_of_lt_of_le (shl_lt 24 j s) (le_trans (pow_mono (let g : 24 + j ≤ 23 + k = omega arith in g)) (le_of_eq (pow-add 2 23 k))))

pub gap_below : (q j r k : ℕ) → q < 2 ^ 24 → 2 ^ 23 < r → q * 2 ^ j < r * 2 ^ k → q * 2 ^ j ≤ (r - 1) * 2 ^ k
gap_below q j r k s l h = elim (split q j k s) [
  | inl w ↦
      let g : w.0 < r = lt_of_mul-lt-mul_right (2 ^ k) (lt_of_le_of_lt (le_of_eq (sym w.1)) h) in
      let g' : w.0 ≤ r - 1 = omega arith in
      le_trans (le_of_eq w.1) (mul-le-mul_right (2 ^ k) g')
  | inr w ↦
      let g : 2 ^ 23 ≤ r - 1 = omega arith in
      le_trans (le_of_lt w) (mul-le-mul_right (2 ^ k) g)
]

pub gap_above : (q j r k : ℕ) → q < 2 ^ 24 → 2 ^ 23 ≤ r → r * 2 ^ k < q * 2 ^ j → (r + 1) * 2 ^ k ≤ q * 2 ^ j
gap_above q j r k s l h = elim (split q j k s) [
  | inl w ↦
      let g : r < w.0 = lt_of_mul-lt-mul_right (2 ^ k) (lt_of_lt_of_le h (le_of_eq w.1)) in
      let g' : r + 1 ≤ w.0 = omega arith in
      le_trans (mul-le-mul_right (2 ^ k) g') (le_of_eq (sym w.1))
  | inr w ↦ absurd (not-le_of_lt (lt_of_lt_of_le h (le_of_lt w)) (mul-le-mul_right (2 ^ k) l))
]

-- ---- squares
square : (a b : ℕ) → a ≤ b → a * a ≤ b * b
square a b h = mul-le-mul h h

pub strict_square : (a b : ℕ) → a < b → a * a < b * b
strict_square a b h = lt_of_le_of_lt (mul-le-mul_left a (le_of_lt h)) (mul-lt-mul_of_pos_right h (let p : 0 < b = omega arith in p))

scale_square : (c a : ℕ) → c * a * (c * a) ≡ c * c * (a * a)
scale_square c a = mul-mul-mul_comm c a c a

-- (2 r - 1)² < 4 n < (2 r + 1)²
low_square : (r n : ℕ) → 0 < r → r * r < n + r → (r - 1 + r) * (r - 1 + r) < 4 * n
low_square zero n p h = absurd (lt_irrefl 0 p)
low_square (suc s) n p h =
    let e : suc s - 1 ≡ s = omega arith in
    let f : suc s ≡ s + 1 = omega arith in
    let g : (s + 1) * (s + 1) < n + (s + 1) = rw f at h in
    let g' = simp (ring, mul-one, one-mul) at g in
    rw (e, f) (simp (ring, mul-one, one-mul) (omega arith))

high_square : (r n : ℕ) → n ≤ r * r + r → 4 * n < (r + 1 + r) * (r + 1 + r)
high_square r n h = simp (ring, mul-one, one-mul) (omega arith)

strict : (a b c : ℕ) → a < b → 0 < c → a * c < b * c
strict a b c h p = mul-lt-mul_of_pos_right h p

four : (n a : ℕ) → 4 * n * a ≡ 4 * (n * a)
four n a = mul_assoc 4 n a

pub below_middle : (q j r k n : ℕ) → q < 2 ^ 24 → q * 2 ^ j < r * 2 ^ k → NearRoot n r → 2 ^ 46 ≤ n
    → (r * 2 ^ k + q * 2 ^ j) * (r * 2 ^ k + q * 2 ^ j) < 4 * (n * (2 ^ k * 2 ^ k))
below_middle q j r k n s h w big = elim (eq-or-lt_of_le w.long) [
  | inl e ↦
      let y = r * 2 ^ k in
      let u = q * 2 ^ j in
      let c : 2 * y * (2 * y) ≡ 4 * (r * r * (2 ^ k * 2 ^ k)) = mul-mul-mul_comm 2 y 2 y ∙ ap (λ (x : ℕ). 4 * x) (scale_square r (2 ^ k)) in
      let d : r * r ≤ n = le_trans (le_of_eq (ap (λ (x : ℕ). x * x) (sym e))) big in
      let f : r * r * (2 ^ k * 2 ^ k) ≤ n * (2 ^ k * 2 ^ k) = mul-le-mul_right (2 ^ k * 2 ^ k) d in
      let g : y + u < 2 * y = omega arith in
      let v = strict_square (y + u) (2 * y) g in
      omega arith
  | inr l ↦
      let a : r * 2 ^ k + q * 2 ^ j ≤ (r - 1 + r) * 2 ^ k = le_trans (mono (gap_below q j r k s l h)) (le_of_eq (sym (add-mul (r - 1) r (2 ^ k)))) in
      let b = square (r * 2 ^ k + q * 2 ^ j) ((r - 1 + r) * 2 ^ k) a in
      lt_of_le_of_lt b
      (lt_of_le_of_lt (le_of_eq (scale_square (r - 1 + r) (2 ^ k)))
      (lt_of_lt_of_le (strict ((r - 1 + r) * (r - 1 + r)) (4 * n) (2 ^ k * 2 ^ k) (low_square r n (omega arith) w.above) (mul-pos (pow_pos k) (pow_pos k))) (le_of_eq (four n (2 ^ k * 2 ^ k)))))
]
  where
    mono : q * 2 ^ j ≤ (r - 1) * 2 ^ k → r * 2 ^ k + q * 2 ^ j ≤ (r - 1) * 2 ^ k + r * 2 ^ k
    mono g = omega arith

pub above_middle : (q j r k n : ℕ) → q < 2 ^ 24 → r * 2 ^ k < q * 2 ^ j → NearRoot n r
    → 4 * (n * (2 ^ k * 2 ^ k)) < (r * 2 ^ k + q * 2 ^ j) * (r * 2 ^ k + q * 2 ^ j)
above_middle q j r k n s h w =
    let a : (r + 1 + r) * 2 ^ k ≤ r * 2 ^ k + q * 2 ^ j = le_trans (le_of_eq (add-mul (r + 1) r (2 ^ k))) (mono (gap_above q j r k s w.long h)) in
    lt_of_le_of_lt (le_of_eq (sym (four n (2 ^ k * 2 ^ k))))
    (lt_of_lt_of_le (strict (4 * n) ((r + 1 + r) * (r + 1 + r)) (2 ^ k * 2 ^ k) (high_square r n w.below) (mul-pos (pow_pos k) (pow_pos k)))
    (le_trans (le_of_eq (sym (scale_square (r + 1 + r) (2 ^ k)))) (square ((r + 1 + r) * 2 ^ k) (r * 2 ^ k + q * 2 ^ j) a)))
  where
    mono : (r + 1) * 2 ^ k ≤ q * 2 ^ j → (r + 1) * 2 ^ k + r * 2 ^ k ≤ r * 2 ^ k + q * 2 ^ j
    mono g = omega arith
