-- What follows from `Nearest`: a square's root is exact, and a larger number has no smaller root. Assumes nothing.
use Rattle.std.specs.Prelude.{◌≡◌, ℕ, ◌*◌, ◌<◌, ◌≤◌, T, Float}
use Rattle.std.proofs.Common.{sym, ap, subst, le_of_eq, lt_of_lt_of_le, lt_of_le_of_lt, mul_comm, mul_assoc, mul_left_comm, mul_right_comm, mul-le-mul_left, mul-lt-mul_of_pos_right, arith}
use Rattle.std.proofs.Math.Dec.{not_T}
use Rattle.std.specs.Float.{binary32}
use Rattle.std.specs.Float.Ieee.{fits, lt, le}
use Rattle.std.specs.Float.Ieee.Bits.{is_false}
use Rattle.std.specs.Float.Ieee.Scale.{finite}
use Rattle.std.specs.Float.Ieee.Positive.{num, den, den_pos, positive, positive-finite, le→cross}
use Rattle.float.specs.Bounds.{positive_least}
use Rattle.float.specs.Order.{not_lt→le}
use Rattle.float.specs.Root.{sum_of, over_of, Nearest}
use Rattle.float.specs.RootGaps.{strict_square}
use Rattle.float.specs.RootFloat.{lt_cross, same_sum}

ruleset ac = (mul_assoc, mul_comm, mul_left_comm)

-- 4 x, where x is v * v, over the denominators of v and z
square_side : (nx dx nv dv dz : ℕ) → nx * (dv * dv) ≡ nv * nv * dx → 4 * nx * (dv * dz * (dv * dz)) ≡ 2 * (nv * dz) * (2 * (nv * dz)) * dx
square_side nx dx nv dv dz e =
    let h = simp ac at (ap (λ (u : ℕ). 4 * (u * (dz * dz))) e) in
    simp ac (omega arith)

pub exact_root : (x v : Float) → T (fits binary32 v) → T (positive v) → num x * (den v * den v) ≡ num v * num v * den x → Nearest x v
exact_root x v s p e =
    let fv = positive-finite v p in
    let nv = positive_least v p in
    record {
      is_f32 = s;
      above_zero = p;
      under = λ z t f h l.
          let g = lt_cross z v f fv h nv l in
          let k : sum_of v z < 2 * (num v * den z) = omega arith in
          lt_of_lt_of_le (mul-lt-mul_of_pos_right (strict_square (sum_of v z) (2 * (num v * den z)) k) (den_pos x)) (le_of_eq (sym (square_side (num x) (den x) (num v) (den v) (den z) e)));
      over = λ z t f h l.
          let g = lt_cross v z fv f nv h l in
          let k : 2 * (num v * den z) < sum_of v z = omega arith in
          lt_of_le_of_lt (le_of_eq (square_side (num x) (den x) (num v) (den v) (den z) e)) (mul-lt-mul_of_pos_right (strict_square (2 * (num v * den z)) (sum_of v z) k) (den_pos x));
    }

-- S² / D² is below 4 n / d, and above 4 m / c
squeeze : (S D n d m c : ℕ) → 0 < c → 0 < d → n * c ≤ m * d → S * d < 4 * n * D → 4 * m * D < S * c → ⊥
squeeze S D n d m c C E h k l =
    let a : S * d * c < 4 * n * D * c = mul-lt-mul_of_pos_right k C in
    let b : 4 * m * D * d < S * c * d = mul-lt-mul_of_pos_right l E in
    let e = mul_right_comm S d c in
    let f : 4 * n * D * c ≤ 4 * m * D * d = simp ac (simp ac at (mul-le-mul_left (4 * D) h)) in
    omega arith

pub root_mono : (x x' y y' : Float) → T (positive x) → T (positive x') → Nearest x y → Nearest x' y' → T (le x x') → T (le y y')
root_mono x x' y y' p p' v v' h =
    let fy = positive-finite y v.above_zero in
    let fy' = positive-finite y' v'.above_zero in
    not_lt→le y' y fy' fy (is_false (lt y' y) (not_T (lt y' y) (λ l.
    squeeze (sum_of y y' * sum_of y y') (over_of y y' * over_of y y') (num x) (den x) (num x') (den x') (den_pos x') (den_pos x) (le→cross x x' p p' h)
    (v.under y' v'.is_f32 fy' (positive_least y' v'.above_zero) l)
    (turned l fy))))
  where
    turned : T (lt y' y) → T (finite y) → 4 * num x' * (over_of y y' * over_of y y') < sum_of y y' * sum_of y y' * den x'
    turned l fy =
        subst (λ (u : ℕ). 4 * num x' * (over_of y y' * over_of y y') < u * u * den x') (same_sum y' y)
        (subst (λ (u : ℕ). 4 * num x' * (u * u) < sum_of y' y * sum_of y' y * den x') (mul_comm (den y') (den y))
        (v'.over y v.is_f32 fy (positive_least y v.above_zero) l))
