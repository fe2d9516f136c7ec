-- From sizes over whole numbers to document 01's signs: y * C - x * S and x * C + y * S for y and x of either sign. Assumes nothing.
use Rattle.std.specs.Prelude.{ℕ, ◌+◌, ◌*◌, ◌^◌, ◌≤◌, ◌<◌, ◌≡◌, Bool, true, false}
use Rattle.std.proofs.Common.{ap, mul-le-mul_left, arith}
use Rattle.std.proofs.Math.Nat.{le_of_mul-le-mul_left}
use Rattle.trig.specs.Difference.{◌minus◌, ◌⊞◌, ◌⊟◌, ◌⊠◌, ◌·◌, Within, SizeAtMost, AtLeastZero}
use Rattle.trig.specs.Series.{scale, sin⁺, sin⁻, cos⁺, cos⁻, S, C}
use Rattle.trig.specs.Angle.{signed}
use Rattle.trig.proofs.Laws.Across.{side⁺, side⁻, Small, Front}

-- ---- y and x in another unit: y' and x' times t are y and x times c
carry : (t c z z' p : ℕ) → z' * t ≡ z * c → t * (z' * p) ≡ c * (z * p)
carry t c z z' p e = omega (arith, ap (λ (k : ℕ). k * p) e)

-- a + b ≤ m + q + d, times c, is A + B ≤ M + Q + E, times t
rescale : (t c a b m q d A B M Q E : ℕ) → t * A ≡ c * a → t * B ≡ c * b → t * M ≡ c * m → t * Q ≡ c * q → t * E ≡ c * d → 0 < t → 1048576 * (a + b) ≤ 1048576 * (m + q) + d → 1048576 * (A + B) ≤ 1048576 * (M + Q) + E
rescale t c a b m q d A B M Q E ea eb em eq ed o h = le_of_mul-le-mul_left {k = t} (omega (arith, mul-le-mul_left c h)) o

module _ (y x y' x' c t : ℕ) (ey : y' * t ≡ y * c) (ex : x' * t ≡ x * c) (o : 0 < t) where
  both : (x' + y') * t ≡ (x + y) * c
  both = omega arith

  half : (p m q r D : ℕ) → 1048576 * (y * p + x * r) ≤ 1048576 * (y * m + x * q) + (x + y) * D → 1048576 * (y' * p + x' * r) ≤ 1048576 * (y' * m + x' * q) + (x' + y') * D
  half p m q r D =
      rescale t c (y * p) (x * r) (y * m) (x * q) ((x + y) * D) (y' * p) (x' * r) (y' * m) (x' * q) ((x' + y') * D) (carry t c y y' p ey) (carry t c x x' r ex) (carry t c y y' m ey) (carry t c x x' q ex)
      (carry t c (x + y) (x' + y') D both) o

  ahead : (p m q r : ℕ) → x * m + y * r ≤ x * p + y * q → x' * m + y' * r ≤ x' * p + y' * q
  ahead p m q r h =
      le_of_mul-le-mul_left {k = t} (omega (arith, mul-le-mul_left c h, carry t c x x' m ex, carry t c y y' r ey, carry t c x x' p ex, carry t c y y' q ey)) o

  pub small_unit : (left : Bool) (n : ℕ) → Small left y x n → Small left y' x' n
  small_unit left n w = (half (cos⁺ n) (cos⁻ n) (side⁺ left n) (side⁻ left n) scale w.0, half (cos⁻ n) (cos⁺ n) (side⁻ left n) (side⁺ left n) scale w.1)

  pub front_unit : (left : Bool) (n : ℕ) → Front left y x n → Front left y' x' n
  front_unit false n w = ahead (cos⁺ n) (cos⁻ n) (sin⁺ n) (sin⁻ n) w
  front_unit true n w = ahead (cos⁻ n) (cos⁺ n) (sin⁺ n) (sin⁻ n) w

-- ---- the signs: p - m is C, q - r is S, at the angle of (x, |y|), which is turned where y is below zero
module _ (y x p m q r D : ℕ) where
  near_ff : Within (1048576 * (y * p + x * r)) (1048576 * (y * m + x * q)) ((x + y) * D) → SizeAtMost (2 ^ 20 · (signed false y ⊠ (p minus m) ⊟ signed false x ⊠ (q minus r))) ((x + y) * D)
  near_ff w = omega (arith, w)

  near_ft : Within (1048576 * (y * p + x * q)) (1048576 * (y * m + x * r)) ((x + y) * D) → SizeAtMost (2 ^ 20 · (signed false y ⊠ (p minus m) ⊟ signed true x ⊠ (q minus r))) ((x + y) * D)
  near_ft w = omega (arith, w)

  near_tf : Within (1048576 * (y * p + x * r)) (1048576 * (y * m + x * q)) ((x + y) * D) → SizeAtMost (2 ^ 20 · (signed true y ⊠ (p minus m) ⊟ signed false x ⊠ (r minus q))) ((x + y) * D)
  near_tf w = omega (arith, w)

  near_tt : Within (1048576 * (y * p + x * q)) (1048576 * (y * m + x * r)) ((x + y) * D) → SizeAtMost (2 ^ 20 · (signed true y ⊠ (p minus m) ⊟ signed true x ⊠ (r minus q))) ((x + y) * D)
  near_tt w = omega (arith, w)

  front_ff : x * m + y * r ≤ x * p + y * q → AtLeastZero (signed false x ⊠ (p minus m) ⊞ signed false y ⊠ (q minus r))
  front_ff w = omega arith

  front_ft : x * p + y * r ≤ x * m + y * q → AtLeastZero (signed true x ⊠ (p minus m) ⊞ signed false y ⊠ (q minus r))
  front_ft w = omega arith

  front_tf : x * m + y * r ≤ x * p + y * q → AtLeastZero (signed false x ⊠ (p minus m) ⊞ signed true y ⊠ (r minus q))
  front_tf w = omega arith

  front_tt : x * p + y * r ≤ x * m + y * q → AtLeastZero (signed true x ⊠ (p minus m) ⊞ signed true y ⊠ (r minus q))
  front_tt w = omega arith

pub signed_near : (s left : Bool) (y x n : ℕ) → Small left y x n → SizeAtMost (2 ^ 20 · (signed s y ⊠ C s n ⊟ signed left x ⊠ S s n)) ((x + y) * scale)
signed_near false false y x n = near_ff y x (cos⁺ n) (cos⁻ n) (sin⁺ n) (sin⁻ n) scale
signed_near false true y x n = near_ft y x (cos⁺ n) (cos⁻ n) (sin⁺ n) (sin⁻ n) scale
signed_near true false y x n = near_tf y x (cos⁺ n) (cos⁻ n) (sin⁺ n) (sin⁻ n) scale
signed_near true true y x n = near_tt y x (cos⁺ n) (cos⁻ n) (sin⁺ n) (sin⁻ n) scale

pub signed_front : (s left : Bool) (y x n : ℕ) → Front left y x n → AtLeastZero (signed left x ⊠ C s n ⊞ signed s y ⊠ S s n)
signed_front false false y x n = front_ff y x (cos⁺ n) (cos⁻ n) (sin⁺ n) (sin⁻ n) scale
signed_front false true y x n = front_ft y x (cos⁺ n) (cos⁻ n) (sin⁺ n) (sin⁻ n) scale
signed_front true false y x n = front_tf y x (cos⁺ n) (cos⁻ n) (sin⁺ n) (sin⁻ n) scale
signed_front true true y x n = front_tt y x (cos⁺ n) (cos⁻ n) (sin⁺ n) (sin⁻ n) scale
