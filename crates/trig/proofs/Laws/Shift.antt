-- An f32's sign in the library's word, and its size in units of 2 ^ -p by one shift of its digits. Assumes nothing.
use Rattle.std.specs.Prelude.{ℕ, zero, suc, ◌+◌, ◌-◌, ◌*◌, ◌/◌, ◌%◌, ◌^◌, ◌≤◌, ◌<◌, ◌≡◌, refl, false, pos, T, leb, Float}
use Rattle.std.proofs.Common.{sym, ap, ◌∙◌, subst, mul_assoc, mul-le-mul, lt_of_lt_of_le, not-le_of_lt, lt_of_not-le, le_trans, le-add_right, mod-lt, arith, lit<, pow-add, pow_mono, pow_pos, shl_lt}
use Rattle.std.proofs.Math.Nat.{div-eq_of_lt}
use Rattle.std.specs.Float.{nan, inf, fin, binary32, is_sign_negative}
use Rattle.std.specs.Float.Ieee.{to_bits, fits}
use Rattle.std.specs.Float.Ieee.Exact.{HasValue}
use Rattle.std.specs.Float.Ieee.Nearest.{div_same}
use Rattle.std.specs.Float.Ieee.Scale.{finite}
use Rattle.float.specs.Value.{within}
use Rattle.float.specs.RootWhole.{magnitude}
use Rattle.trig.specs.Angle.{units, negative}
use Rattle.float.specs.Fraction.{within_size, value_most}
use Rattle.trig.proofs.Laws.Units.{value_sign, value_cut}
use Rattle.float.specs.Bits.{size_bits, bits_value}

pub negative_is : (v : Float) → is_sign_negative v ≡ negative v
unfolding is_sign_negative
negative_is nan = refl
negative_is (inf s) = refl
negative_is (fin s m e) = refl

-- the same from its highest bit
pub negative_bits : (v : Float) → T (fits binary32 v) → T (finite v) → leb 2147483648 (to_bits binary32 v) ≡ negative v
negative_bits v f w = sym (value_sign v _ _ _ (bits_value v f w))

-- where the exponent is below 126 nothing is left, and from there on one shift cuts
tiny : (x t p : ℕ) → t < 8388608 → p ≤ 47 → x + p < 126 → magnitude x t * 2 ^ p / 2 ^ 149 ≡ 0
unfolding magnitude
tiny zero t p h g e = div-eq_of_lt (lt_of_lt_of_le (shl_lt 23 p h) (pow_mono {i = 23 + p} {j = 149} (omega arith)))
tiny (suc x) t p h g e =
    let k : 8388608 + t < 16777216 = omega arith in
    div-eq_of_lt (lt_of_lt_of_le (subst (λ (z : ℕ). z < 2 ^ (24 + (x + p))) (ap (λ (z : ℕ). (8388608 + t) * z) (pow-add 2 x p) ∙ sym (mul_assoc (8388608 + t) (2 ^ x) (2 ^ p))) (shl_lt 24 (x + p) k)) (pow_mono {i = 24 + (x + p)} {j = 149} (omega arith)))

shifted : (x t p : ℕ) → p ≤ 47 → 126 ≤ x + p → x + p ≤ 182 → (t + 8388608) * 4294967296 / 2 ^ (182 - (x + p)) ≡ magnitude x t * 2 ^ p / 2 ^ 149
unfolding magnitude
shifted zero t p g l h = absurd (omega arith)
shifted (suc x) t p g l h =
    let j = 182 - (suc x + p) in
    let e : x + p + j ≡ 181 = omega arith in
    div_same ((t + 8388608) * 4294967296) (2 ^ j) ((8388608 + t) * 2 ^ x * 2 ^ p) (2 ^ 149) (pow_pos j) (pow_pos 149)
    (cross (t + 8388608) (8388608 + t) (2 ^ 149) (2 ^ x) (2 ^ p) (2 ^ j) (omega arith) (ap (λ (z : ℕ). 2 ^ z) (sym e) ∙ pow-add 2 (x + p) j ∙ ap (λ (z : ℕ). z * 2 ^ j) (pow-add 2 x p)))
  where
    cross : (d d' u a b c : ℕ) → d ≡ d' → 4294967296 * u ≡ a * b * c → d * 4294967296 * u ≡ d' * a * b * c
    cross d d' u a b c e h = rw e (omega (arith, ap (λ (z : ℕ). d' * z) h))

-- ---- for an f32 of at most 32 in size
low_exponent : (x t : ℕ) → magnitude x t ≤ 32 * 2 ^ 149 → x ≤ 135
unfolding magnitude
low_exponent zero t h = omega arith
low_exponent (suc x) t h = lt_of_not-le (λ (g : 135 ≤ x). not-le_of_lt far (le_trans (mul-le-mul (le-add_right 8388608 t) (pow_mono g)) h))
  where
    far : 32 * 2 ^ 149 < 8388608 * 2 ^ 135
    far = lit< tt

module _ (v : Float) (p : ℕ) (f : T (fits binary32 v)) (w : T (within v (fin false 1 (pos 5)))) (most : p ≤ 47) where
  value : HasValue v (leb 2147483648 (to_bits binary32 v)) (magnitude (size_bits v / 8388608) (size_bits v % 8388608)) (2 ^ 149)
  value = bits_value v f (within_size v 1 (pos 5) w).0

  pub exponent_most : size_bits v / 8388608 ≤ 135
  exponent_most = low_exponent _ _ (value_most v _ _ (2 ^ 149) 32 value (within_size v 1 (pos 5) w).1)

  pub units_tiny : size_bits v / 8388608 + p < 126 → 0 ≡ units p v
  units_tiny h = sym (value_cut p v _ _ (2 ^ 149) (pow_pos 149) value ∙ tiny (size_bits v / 8388608) (size_bits v % 8388608) p (mod-lt (size_bits v) (lit< tt)) most h)

  pub units_shifted : 126 ≤ size_bits v / 8388608 + p → (size_bits v % 8388608 + 8388608) * 4294967296 / 2 ^ (182 - (size_bits v / 8388608 + p)) ≡ units p v
  units_shifted h =
      let g : size_bits v / 8388608 + p ≤ 182 = omega (arith, exponent_most) in
      shifted (size_bits v / 8388608) (size_bits v % 8388608) p most h g ∙ sym (value_cut p v _ _ (2 ^ 149) (pow_pos 149) value)
