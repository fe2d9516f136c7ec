-- What the steps' sine and cosine at one angle say of y * C - x * S there, and that a bracket of one unit holds an answer. Assumes nothing.
use Rattle.std.specs.Prelude.{ℕ, ◌+◌, ◌-◌, ◌*◌, ◌≤◌, ◌<◌, ◌≡◌, Bool, true, false}
use Rattle.std.proofs.Common.{ap, mul-le-mul_left, mul-le-mul_right, arith, lit≤}
use borrow.Author.Tests.{ltb-true, ltb-false}
use Rattle.trig.specs.Difference.{Within}
use Rattle.trig.specs.Series.{scale, sin⁺, sin⁻, cos⁺, cos⁻}
use Rattle.trig.specs.Steps.{raised_sine}
use Rattle.trig.specs.Tangent.{side, ahead, behind, short, past}
use Rattle.trig.proofs.Laws.Near.{sine_raised, cosine_raised}
use Rattle.trig.proofs.Laws.Slope.{Moves, sin_moves, cos_moves}
use Rattle.trig.proofs.Laws.Across.{side⁺, side⁻, Low, High, Close}

-- ---- what a test says
module _ (x y c s p m q r D : ℕ) (hc : Within (c * D + 16777216 * m) (16777216 * p + 33554432 * D) (2 * D)) (hs : Within (s * D + 16777216 * r) (16777216 * q + 33554432 * D) (2 * D)) where
  low : x * s + y * 33554432 ≤ y * c + x * 33554432 → 8388608 * (y * m + x * q) ≤ 8388608 * (y * p + x * r) + (x + y) * D
  low t = omega (arith, mul-le-mul_left y hc.0, mul-le-mul_left x hs.1, mul-le-mul_right D t)

  high : y * c + x * 33554432 ≤ x * s + y * 33554432 → 8388608 * (y * p + x * r) ≤ 8388608 * (y * m + x * q) + (x + y) * D
  high t = omega (arith, mul-le-mul_left y hc.1, mul-le-mul_left x hs.0, mul-le-mul_right D t)

  close : y * c + x * 33554432 ≤ x * s + y * 33554432 + 10 * (x + y) → x * s + y * 33554432 ≤ y * c + x * 33554432 + 10 * (x + y) → Within (16777216 * (y * p + x * r)) (16777216 * (y * m + x * q)) (12 * ((x + y) * D))
  close t u =
      (omega (arith, mul-le-mul_left y hc.1, mul-le-mul_left x hs.0, mul-le-mul_right D t), omega (arith, mul-le-mul_left y hc.0, mul-le-mul_left x hs.1, mul-le-mul_right D u))

-- ---- a bracket of one step is closed
closing : (x y p m q r p₁ m₁ q₁ r₁ D : ℕ) → Moves p m p₁ m₁ D 64 → Moves q r q₁ r₁ D 64 → 8388608 * (y * m + x * q) ≤ 8388608 * (y * p + x * r) + (x + y) * D → 8388608 * (y * p₁ + x * r₁) ≤ 8388608 * (y * m₁ + x * q₁) + (x + y) * D
    → Within (16777216 * (y * p + x * r)) (16777216 * (y * m + x * q)) (12 * ((x + y) * D))
closing x y p m q r p₁ m₁ q₁ r₁ D hp hq l h = (omega (arith, l, h, mul-le-mul_left y hp.1, mul-le-mul_left x hq.0), omega (arith, l))

side_moves : (left : Bool) (n : ℕ) → n + 64 ≤ 1073741824 → Moves (side⁺ left n) (side⁻ left n) (side⁺ left (n + 64)) (side⁻ left (n + 64)) scale 64
side_moves false n h = sin_moves n 64 h (lit≤ tt)
side_moves true n h = let m = sin_moves n 64 h (lit≤ tt) in turn (sin⁺ n) (sin⁻ n) (sin⁺ (n + 64)) (sin⁻ (n + 64)) scale m
  where
    turn : (p m p₁ m₁ D : ℕ) → Moves p m p₁ m₁ D 64 → Moves m p m₁ p₁ D 64
    turn p m p₁ m₁ D h = omega arith

pub closed : (left : Bool) (y x n : ℕ) → n + 64 ≤ 1073741824 → Low left y x n → High left y x (n + 64) → Close left y x n
closed left y x n b l h =
    closing x y (cos⁺ n) (cos⁻ n) (side⁺ left n) (side⁻ left n) (cos⁺ (n + 64)) (cos⁻ (n + 64)) (side⁺ left (n + 64)) (side⁻ left (n + 64)) scale (cos_moves n 64 b (lit≤ tt)) (side_moves left n b) l h

-- ---- what the steps find at the angle k, in units of 2 ^ -22
turn_raised : (t p m D : ℕ) → t ≤ 67108864 → Within (t * D + 16777216 * m) (16777216 * p + 33554432 * D) (2 * D) → Within ((67108864 - t) * D + 16777216 * p) (16777216 * m + 33554432 * D) (2 * D)
turn_raised t p m D h w =
    let s = 67108864 - t in
    let e : s + t ≡ 67108864 = omega arith in
    let g : s * D + t * D ≡ 67108864 * D = omega (arith, ap (λ (k : ℕ). k * D) e) in
    (omega (arith, g, w.1), omega (arith, g, w.0))

side_near : (left : Bool) (k : ℕ) → 64 * k ≤ 1073741824 → Within (side left k * scale + 16777216 * side⁻ left (64 * k)) (16777216 * side⁺ left (64 * k) + 33554432 * scale) (2 * scale)
side_near false k h = (sine_raised (64 * k) h).near
side_near true k h = let w = sine_raised (64 * k) h in turn_raised (raised_sine (64 * k)) (sin⁺ (64 * k)) (sin⁻ (64 * k)) scale (omega (arith, w.below)) w.near

module _ (left : Bool) (y x k : ℕ) (h : 64 * k ≤ 1073741824) where
  at_low : behind left y x k ≤ ahead y x k → Low left y x (64 * k)
  at_low = low x y _ _ (cos⁺ (64 * k)) (cos⁻ (64 * k)) (side⁺ left (64 * k)) (side⁻ left (64 * k)) scale (cosine_raised (64 * k) h).near (side_near left k h)

  at_high : ahead y x k ≤ behind left y x k → High left y x (64 * k)
  at_high = high x y _ _ (cos⁺ (64 * k)) (cos⁻ (64 * k)) (side⁺ left (64 * k)) (side⁻ left (64 * k)) scale (cosine_raised (64 * k) h).near (side_near left k h)

  at_close : ahead y x k ≤ behind left y x k + 10 * (x + y) → behind left y x k ≤ ahead y x k + 10 * (x + y) → Close left y x (64 * k)
  at_close = close x y _ _ (cos⁺ (64 * k)) (cos⁻ (64 * k)) (side⁺ left (64 * k)) (side⁻ left (64 * k)) scale (cosine_raised (64 * k) h).near (side_near left k h)

weaken : (a b m : ℕ) → b + m < a → b ≤ a
weaken a b m h = omega arith

module _ (left : Bool) (y x k : ℕ) where
  short→lt : short left y x k ≡ true → behind left y x k + 10 * (x + y) < ahead y x k
  unfolding short
  short→lt e = ltb-true _ _ e

  past→lt : past left y x k ≡ true → ahead y x k + 10 * (x + y) < behind left y x k
  unfolding past
  past→lt e = ltb-true _ _ e

  pub short_low : 64 * k ≤ 1073741824 → short left y x k ≡ true → Low left y x (64 * k)
  short_low h e = at_low left y x k h (weaken _ _ (10 * (x + y)) (short→lt e))

  pub past_high : 64 * k ≤ 1073741824 → past left y x k ≡ true → High left y x (64 * k)
  past_high h e = at_high left y x k h (weaken _ _ (10 * (x + y)) (past→lt e))

  pub neither_close : 64 * k ≤ 1073741824 → short left y x k ≡ false → past left y x k ≡ false → Close left y x (64 * k)
  unfolding short past
  neither_close h e f = at_close left y x k h (ltb-false _ _ e) (ltb-false _ _ f)

  pub not_both : short left y x k ≡ true → past left y x k ≡ true → ⊥
  not_both e f = apart (ahead y x k) (behind left y x k) (10 * (x + y)) (short→lt e) (past→lt f)
    where
      apart : (a b m : ℕ) → b + m < a → a + m < b → ⊥
      apart a b m p q = omega arith
