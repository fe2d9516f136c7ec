-- The answers are exact: a whole number up to 2 ^ 24, times 2 ^ -24 or 2 ^ -22, is an f32. Assumes nothing.
use Rattle.std.specs.Prelude.{ℕ, suc, ◌+◌, ◌*◌, ◌^◌, ◌≤◌, ◌<◌, ◌≡◌, refl, Bool, true, false, not, cond, pos, negsuc, T, Float}
use Rattle.std.proofs.Common.{sym, ap, ◌∙◌, subst, inl, inr, eq-or-lt_of_le, lt_of_lt_of_le, mul_assoc, mul-one, one-mul, mul-pos, arith, le→leb, lit≤, lit<, pow_mono, shl_lt}
use Rattle.std.proofs.Math.Nat.{pow-succ'}
use Rattle.std.specs.Float.{nan, inf, fin, binary32}
use Rattle.std.specs.Float.Ieee.{up, down, round, of_int, mul, of_bits, in_float}
use Rattle.std.specs.Float.Ieee.Exact.{HasValue, round_exact}
use Rattle.std.specs.Float.Ieee.Fits.{down_pos}
use Rattle.std.specs.Float.Ieee.Scale.{round_same}
use Rattle.float.specs.Value.{◌⊗◌}
use Rattle.call.specs.Said.{answer, value, shown}
use Rattle.trig.specs.Angle.{small, turned}
use Rattle.trig.specs.Tangent.{radians}
use Rattle.float.specs.Fraction.{neg_value}

-- ---- k / d is an f32, for k up to 2 ^ 24 and d a power of two
exact : (k d i : ℕ) → k ≤ 16777216 → 0 < d → i ≤ 149 → 2 ^ 149 ≡ 2 ^ i * d → HasValue (round binary32 false k d) false k d
exact k d i h p s e =
    elim (eq-or-lt_of_le h) [
      | inl q ↦ rw q (round_exact binary32 false 16777216 d 8388608 (suc i) p (lit< tt) (fine (suc i) 8388608 (omega arith) (lit≤ tt)) (twice (2 ^ 149) (2 ^ i) d (2 ^ suc i) e (pow-succ' 2 i)))
      | inr q ↦ round_exact binary32 false k d k i p q (fine i k (omega arith) h) (ap (λ (x : ℕ). k * x) e ∙ sym (mul_assoc k (2 ^ i) d))
    ]
  where
    fine : (j q : ℕ) → j ≤ 150 → q ≤ 16777216 → q * 2 ^ j < 2 ^ (149 + 128)
    fine j q a b = let g : q < 2 ^ 25 = omega arith in lt_of_lt_of_le (shl_lt 25 j g) (pow_mono {i = 25 + j} {j = 277} (omega arith))

    twice : (P Q d R : ℕ) → P ≡ Q * d → R ≡ 2 * Q → 16777216 * P ≡ 8388608 * R * d
    twice P Q d R a b = rw (a, b) (omega arith)

-- a whole number k as an f32, times 1 / d
scaled : (k d : ℕ) (x : Float) → HasValue x false k 1 → (y : Float) → HasValue y false 1 d → 0 < d → HasValue (round binary32 false k d) false k d → HasValue (x ⊗ y) false k d
unfolding mul
scaled k d nan v y w p h = absurd v
scaled k d (inf s) v y w p h = absurd v
scaled k d (fin s m e) v nan w p h = absurd w
scaled k d (fin s m e) v (inf t) w p h = absurd w
scaled k d (fin s m e) v (fin t n f) w p h =
    rw (v.0, w.0)
    (subst (λ (z : Float). HasValue z false k d)
    (round_same binary32 false k d (m * up e * (n * up f)) (down e * down f) p (mul-pos (down_pos e) (down_pos f))
    (cross k d (m * up e) (n * up f) (down e) (down f) v.1 w.1)) h)
  where
    cross : (k d a b u w : ℕ) → a * 1 ≡ k * u → b * d ≡ 1 * w → k * (u * w) ≡ a * b * d
    cross k d a b u w p q = rw (← mul_assoc k u w, ← p, ← one-mul w, ← q, mul-one a) (omega arith)

whole_value : (k : ℕ) → k ≤ 16777216 → HasValue (of_int binary32 (pos k)) false k 1
unfolding of_int
whole_value k h = exact k 1 149 h (lit< tt) (lit≤ tt) refl

-- it may be cast
pub whole : (k : ℕ) → k ≤ 16777216 → T (in_float binary32 (pos k))
unfolding in_float
whole k h = le→leb k 16777216 h

pub small_value : (k : ℕ) → k ≤ 16777216 → HasValue (small k) false k (2 ^ 24)
unfolding small of_bits
small_value k h = scaled k (2 ^ 24) (of_int binary32 (pos k)) (whole_value k h) (fin false 1 (negsuc 23)) (refl, refl) (lit< tt) (exact k (2 ^ 24) 125 h (lit< tt) (lit≤ tt) refl)

pub radians_value : (k : ℕ) → k ≤ 16777216 → HasValue (radians k) false k (2 ^ 22)
unfolding radians of_bits
radians_value k h = scaled k (2 ^ 22) (of_int binary32 (pos k)) (whole_value k h) (fin false 1 (negsuc 21)) (refl, refl) (lit< tt) (exact k (2 ^ 22) 127 h (lit< tt) (lit≤ tt) refl)

pub turned_value : (t : Bool) (x : Float) (s : Bool) (a c : ℕ) → HasValue x s a c → HasValue (turned t x) (cond t (not s) s) a c
turned_value true x s a c v = neg_value x s a c v
turned_value false x s a c v = v

-- ---- what is not refused is answered
pub unrefused : {n : ℕ} {x y : Float} → 0 ≡ n → x ≡ y → answer (value x) ≡ shown n (answer (value y))
unrefused e f = rw (← e, f) refl
