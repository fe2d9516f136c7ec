-- A value's size as a fraction: "at most .. in size" over natural numbers, from a value and from any fraction that it equals. Assumes nothing.
use Rattle.std.specs.Prelude.{ℕ, ◌*◌, ◌≤◌, ◌<◌, ◌≡◌, Bool, true, false, not, ℤ, T, Float}
use Rattle.std.proofs.Common.{ap, mul-le-mul_right, le_of_mul-le-mul_right, arith}
use Rattle.std.specs.Float.{nan, inf, fin}
use Rattle.std.specs.Float.Ieee.{up, down, neg, le}
use Rattle.std.specs.Float.Ieee.Exact.{HasValue}
use Rattle.std.specs.Float.Ieee.Fits.{down_pos}
use Rattle.std.specs.Float.Ieee.Positive.{num, den}
use Rattle.std.specs.Float.Ieee.Scale.{finite}
use Rattle.float.specs.Value.{within}
use Rattle.float.specs.Order.{le→below, below→le}
use Rattle.float.specs.Size.{within_low, within_high, within_of, within_finite}

-- ---- a value's own fraction, against a limit that is not below zero
pub within_size : (x : Float) (m : ℕ) (e : ℤ) → T (within x (fin false m e)) → T (finite x) × (num x * down e ≤ m * up e * den x)
unfolding neg
within_size x m e t = (within_finite x (fin false m e) tt t, go x (within_finite x (fin false m e) tt t) (within_low x (fin false m e) t) (within_high x (fin false m e) t))
  where
    go : (x : Float) → T (finite x) → T (le (fin true m e) x) → T (le x (fin false m e)) → num x * down e ≤ m * up e * den x
    go nan f l h = absurd f
    go (inf s) f l h = absurd f
    go (fin true n d) f l h = omega (arith, le→below (fin true m e) (fin true n d) tt tt l)
    go (fin false n d) f l h = omega (arith, le→below (fin false n d) (fin false m e) tt tt h)

pub size_within : (x : Float) (m : ℕ) (e : ℤ) → T (finite x) → num x * down e ≤ m * up e * den x → T (within x (fin false m e))
unfolding neg
size_within nan m e t h = absurd t
size_within (inf s) m e t h = absurd t
size_within (fin true n d) m e t h =
    within_of (fin true n d) (fin false m e) (below→le (fin true m e) (fin true n d) tt tt (omega arith)) (below→le (fin true n d) (fin false m e) tt tt (omega arith))
size_within (fin false n d) m e t h =
    within_of (fin false n d) (fin false m e) (below→le (fin true m e) (fin false n d) tt tt (omega arith)) (below→le (fin false n d) (fin false m e) tt tt (omega arith))

-- ---- any fraction a / c that the value equals
pub neg_value : (x : Float) (s : Bool) (a c : ℕ) → HasValue x s a c → HasValue (neg x) (not s) a c
unfolding neg
neg_value nan s a c v = v
neg_value (inf t) s a c v = v
neg_value (fin t m e) s a c v = (ap not v.0, v.1)

pub value_within : (x : Float) (s : Bool) (a c m : ℕ) (e : ℤ) → 0 < c → HasValue x s a c → a * down e ≤ m * up e * c → T (within x (fin false m e))
value_within nan s a c m e o v h = absurd v
value_within (inf t) s a c m e o v h = absurd v
value_within (fin t n d) s a c m e o v h = size_within (fin t n d) m e tt (le_of_mul-le-mul_right {k = c} (carry (n * up d) c a (down d) (down e) (m * up e) v.1 h) o)
  where
    carry : (x c a d f l : ℕ) → x * c ≡ a * d → a * f ≤ l * c → x * f * c ≤ l * d * c
    carry x c a d f l p q = omega (arith, ap (λ (z : ℕ). z * f) p, mul-le-mul_right d q)

pub value_most : (x : Float) (s : Bool) (a c l : ℕ) → HasValue x s a c → num x * 1 ≤ l * den x → a ≤ l * c
value_most nan s a c l v h = absurd v
value_most (inf t) s a c l v h = absurd v
value_most (fin t m e) s a c l v h = le_of_mul-le-mul_right {k = down e} (carry (m * up e) c a (down e) l v.1 h) (down_pos e)
  where
    carry : (n c a d l : ℕ) → n * c ≡ a * d → n * 1 ≤ l * d → a * d ≤ l * c * d
    carry n c a d l e h = rw (← e) (omega (arith, mul-le-mul_right c h))
