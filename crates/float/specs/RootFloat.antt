-- From patterns to values: what `Scaled` says of the patterns is `Nearest` of the floats. And `Nearest` determines its y. Assumes nothing.
use Rattle.std.specs.Prelude.{◌≡◌, refl, ℕ, zero, suc, ◌+◌, ◌-◌, ◌*◌, ◌/◌, ◌%◌, ◌^◌, ◌<◌, ◌≤◌, Bool, true, false, not, ◌&&◌, ◌||◌, cond, T, ltb, leb, eqb, Float}
use Rattle.std.proofs.Common.{sym, ap, ◌∙◌, subst, inl, inr, le_of_eq, le_antisymm, lt_irrefl, lt_of_lt_of_le, lt_of_le_of_lt, mul-one, zero-mul, mul_comm, mul_assoc, mul_left_comm, mul_right_comm, add-mul, mul-pos, mul-lt-mul_of_pos_right, lt_of_mul-lt-mul_right, mod-eq_of_lt, add_comm, eq-zero-or-pos, zero-lt-suc, arith, eqb→eq, ltb→lt, lt→ltb, nltb→le, pow_pos}
use Rattle.std.proofs.Math.Nat.{mul-mul-mul_comm}
use Rattle.std.specs.Bool.{beq}
use Rattle.std.proofs.Math.Dec.{not_T, nleb→lt}
use Rattle.std.proofs.Math.Arith.{lt→nleb}
use Rattle.std.specs.Float.{nan, inf, fin, binary32}
use Rattle.std.specs.Float.Ieee.{fits, lt, le, eq, of_bits, of_fields, to_bits, odd, is_nan, nan_bits, up, down}
use Rattle.std.specs.Float.Ieee.Bits.{is_false, cond_no, of_bits-to_bits, to_bits-lt, of_bits-fits, nan_bits_is}
use Rattle.std.specs.Float.Ieee.Exact.{HasValue, odd_sign}
use Rattle.std.specs.Float.Ieee.Fits.{and_i, and_l, eq→eqb, up_pos}
use Rattle.std.specs.Float.Ieee.Scale.{finite}
use Rattle.std.specs.Float.Ieee.Positive.{num, den, den_pos, positive, positive-finite, own_value, value→cross, positive_of_value, le→cross}
use Rattle.float.specs.Exact.{on_grid, value_unique}
use Rattle.float.specs.Bounds.{nought, no_less, positive_least}
use Rattle.float.specs.Order.{or_r, plus, less, lt→below, not_lt→le}
use Rattle.float.specs.RootWhole.{Scaled, units_of, magnitude}
use Rattle.float.specs.Root.{root, root_bits, sum_of, over_of, MiddleBelow, MiddleAbove, Nearest}
use Rattle.float.specs.RootGaps.{below_middle, above_middle}
use Rattle.float.specs.RootLaws.{root_bits_scaled}

-- ---- what a pattern stands for
neqb : (a b : ℕ) → (a ≡ b → ⊥) → T (not (eqb a b))
neqb a b h = not_T (eqb a b) (λ t. h (eqb→eq a b t))

fields_value : (x t : ℕ) → x < 255 → HasValue (of_fields binary32 false x t) false (magnitude x t) (2 ^ 149)
unfolding of_fields magnitude
fields_value zero t h = subst (λ (u : ℕ). HasValue (odd 24 false t 0 149) false u (2 ^ 149)) (mul-one t) (odd_sign 24 false t 0 149)
fields_value (suc x) t h =
    subst (λ (v : Float). HasValue v false ((2 ^ 23 + t) * 2 ^ x) (2 ^ 149))
    (sym (cond_no (eqb (suc x) 255) (cond (eqb t 0) (inf false) nan) (odd 24 false (8388608 + t) x 149) (neqb (suc x) 255 (λ e. omega arith))))
    (odd_sign 24 false (8388608 + t) x 149)

opened : (b : ℕ) → of_bits binary32 b ≡ of_fields binary32 (leb 2147483648 b) (b % 2147483648 / 8388608) (b % 8388608)
unfolding of_bits
opened b = refl

plain : (b : ℕ) → b < 2147483648 → of_bits binary32 b ≡ of_fields binary32 false (b / 8388608) (b % 8388608)
plain b h =
    opened b
    ∙ ap (λ (s : Bool). of_fields binary32 s (b % 2147483648 / 8388608) (b % 8388608)) (is_false (leb 2147483648 b) (lt→nleb 2147483648 b h))
    ∙ ap (λ (x : ℕ). of_fields binary32 false (x / 8388608) (b % 8388608)) (mod-eq_of_lt h)

pub bits_value : (b : ℕ) → b < 2139095040 → HasValue (of_bits binary32 b) false (units_of b) (2 ^ 149)
bits_value b h =
    subst (λ (v : Float). HasValue v false (units_of b) (2 ^ 149)) (sym (plain b (omega arith)))
    (fields_value (b / 8388608) (b % 8388608) (omega arith))

-- ---- a pattern whose value is above zero and finite
odd_down : (w q k l : ℕ) → T (positive (odd w true q k l)) → ⊥
unfolding odd
odd_down w zero k l t = t
odd_down w (suc q) k l t = t

special : (s : Bool) (t : ℕ) → T (positive (cond (eqb t 0) (inf s) nan)) → ⊥
special s t = go (eqb t 0)
  where
    go : (b : Bool) → T (positive (cond b (inf s) nan)) → ⊥
    go true h = h
    go false h = h

negative_fields : (x t : ℕ) → T (positive (of_fields binary32 true x t)) → ⊥
unfolding of_fields
negative_fields zero t h = odd_down 24 t 0 149 h
negative_fields (suc x) t h = go (eqb (suc x) 255) h
  where
    go : (b : Bool) → T (positive (cond b (cond (eqb t 0) (inf true) nan) (odd 24 true (8388608 + t) x 149))) → ⊥
    go true g = special true t g
    go false g = odd_down 24 (8388608 + t) x 149 g

top_fields : (t : ℕ) → T (positive (of_fields binary32 false 255 t)) → ⊥
unfolding of_fields
top_fields t h = special false t h

zero_pattern : T (positive (of_bits binary32 0)) → ⊥
unfolding of_bits
zero_pattern t = t

pub range : (b : ℕ) → b < 2 ^ 32 → T (positive (of_bits binary32 b)) → (0 < b) × (b < 2139095040)
range b h t = (lower, upper)
  where
    under : b < 2147483648
    under = go (leb 2147483648 b) refl
      where
        go : (s : Bool) → leb 2147483648 b ≡ s → b < 2147483648
        go true e = absurd (negative_fields (b % 2147483648 / 8388608) (b % 8388608)
            (subst (λ (v : Float). T (positive v)) (opened b ∙ ap (λ (s : Bool). of_fields binary32 s (b % 2147483648 / 8388608) (b % 8388608)) e) t))
        go false e = nleb→lt 2147483648 b (subst (λ (s : Bool). T (not s)) (sym e) tt)

    as_fields : T (positive (of_fields binary32 false (b / 8388608) (b % 8388608)))
    as_fields = subst (λ (v : Float). T (positive v)) (plain b under) t

    upper : b < 2139095040
    upper = go (ltb b 2139095040) (ltb→lt b 2139095040) (nltb→le b 2139095040)
      where
        go : (s : Bool) → (T s → b < 2139095040) → (T (not s) → 2139095040 ≤ b) → b < 2139095040
        go true p q = p tt
        go false p q =
            let g = q tt in
            let e : b / 8388608 ≡ 255 = omega (arith, under) in
            absurd (top_fields (b % 8388608) (subst (λ (x : ℕ). T (positive (of_fields binary32 false x (b % 8388608)))) e as_fields))

    lower : 0 < b
    lower = go b refl
      where
        go : (c : ℕ) → b ≡ c → 0 < b
        go zero e = absurd (at_zero (subst (λ (x : ℕ). T (positive (of_bits binary32 x))) e t))
          where
            at_zero : T (positive (of_bits binary32 0)) → ⊥
            at_zero = zero_pattern
        go (suc c) e = omega arith

-- ---- the root's pattern
made : (k r : ℕ) → 2 ^ 23 ≤ r → r < 2 ^ 24 → units_of (k * 2 ^ 23 + r) ≡ r * 2 ^ k
unfolding magnitude
made k r a b =
    let e : (k * 8388608 + r) / 8388608 ≡ suc k = omega arith in
    let f : (k * 8388608 + r) % 8388608 ≡ r - 8388608 = omega arith in
    let g : 8388608 + (r - 8388608) ≡ r = omega arith in
    ap (λ (x : ℕ). magnitude x ((k * 8388608 + r) % 8388608)) e ∙ ap (λ (x : ℕ). magnitude (suc k) x) f ∙ ap (λ (x : ℕ). x * 2 ^ k) g

pub root_range : (b p : ℕ) → Scaled b p → p < 2139095040
root_range b p w =
    let e = w.pattern in
    let s = w.near.short in
    let k = w.small in
    omega arith

root_value : (b p : ℕ) (w : Scaled b p) → HasValue (of_bits binary32 p) false (w.r * 2 ^ w.k) (2 ^ 149)
root_value b p w =
    subst (λ (u : ℕ). HasValue (of_bits binary32 p) false u (2 ^ 149)) (ap (λ (x : ℕ). units_of x) w.pattern ∙ made w.k w.r w.near.long w.near.short) (bits_value p (root_range b p w))

no_nan_value : (x : Float) (a c : ℕ) → HasValue x false a c → is_nan x ≡ false
unfolding is_nan
no_nan_value nan a c h = absurd h
no_nan_value (inf s) a c h = absurd h
no_nan_value (fin s m e) a c h = refl

pub root_no_nan : (b p : ℕ) → Scaled b p → T (not (nan_bits binary32 p))
root_no_nan b p w = subst (λ (t : Bool). T (not t)) (sym (nan_bits_is binary32 p ∙ no_nan_value (of_bits binary32 p) (w.r * 2 ^ w.k) (2 ^ 149) (root_value b p w))) tt

-- ---- from units to fractions: y is Y / L, z is Z / L and x is X / L
ratio : (ny dy nz dz Y Z L : ℕ) → ny * L ≡ Y * dy → nz * L ≡ Z * dz → (ny * dz + nz * dy) * L ≡ (Y + Z) * (dy * dz)
ratio ny dy nz dz Y Z L p q =
    add-mul (ny * dz) (nz * dy) L
    ∙ ap (λ (u : ℕ). u + nz * dy * L) (mul_right_comm ny dz L ∙ ap (λ (u : ℕ). u * dz) p ∙ mul_assoc Y dy dz)
    ∙ ap (λ (u : ℕ). Y * (dy * dz) + u) (mul_right_comm nz dy L ∙ ap (λ (u : ℕ). u * dy) q ∙ mul_assoc Z dz dy ∙ ap (λ (u : ℕ). Z * u) (mul_comm dz dy))
    ∙ sym (add-mul Y Z (dy * dz))

left_side : (s dx W d L : ℕ) → s * L ≡ W * d → s * s * dx * (L * L) ≡ W * W * (d * d * dx)
left_side s dx W d L e =
    mul_right_comm (s * s) dx (L * L)
    ∙ ap (λ (u : ℕ). u * dx) (mul-mul-mul_comm s s L L ∙ ap (λ (u : ℕ). u * u) e ∙ mul-mul-mul_comm W d W d)
    ∙ mul_assoc (W * W) (d * d) dx

right_side : (nx dx X d L : ℕ) → nx * L ≡ X * dx → 4 * nx * (d * d) * (L * L) ≡ 4 * (X * L) * (d * d * dx)
right_side nx dx X d L e =
    simp (mul_assoc, mul_comm, mul_left_comm) (simp (mul_assoc, mul_comm, mul_left_comm) at (ap (λ (u : ℕ). 4 * (u * L * (d * d))) e))

module _ (x y z : Float) (X Y Z : ℕ) (vx : num x * 2 ^ 149 ≡ X * den x) (vy : num y * 2 ^ 149 ≡ Y * den y) (vz : num z * 2 ^ 149 ≡ Z * den z) where
  d_pos : 0 < over_of y z * over_of y z * den x
  d_pos = mul-pos (mul-pos (mul-pos (den_pos y) (den_pos z)) (mul-pos (den_pos y) (den_pos z))) (den_pos x)

  l_is : sum_of y z * sum_of y z * den x * (2 ^ 149 * 2 ^ 149) ≡ (Y + Z) * (Y + Z) * (over_of y z * over_of y z * den x)
  l_is = left_side (sum_of y z) (den x) (Y + Z) (over_of y z) (2 ^ 149) (ratio (num y) (den y) (num z) (den z) Y Z (2 ^ 149) vy vz)

  r_is : 4 * num x * (over_of y z * over_of y z) * (2 ^ 149 * 2 ^ 149) ≡ 4 * (X * 2 ^ 149) * (over_of y z * over_of y z * den x)
  r_is = right_side (num x) (den x) X (over_of y z) (2 ^ 149) vx

  mid_below : (Y + Z) * (Y + Z) < 4 * (X * 2 ^ 149) → MiddleBelow x y z
  mid_below h = lt_of_mul-lt-mul_right (2 ^ 149 * 2 ^ 149) (lt_of_le_of_lt (le_of_eq l_is) (lt_of_lt_of_le (mul-lt-mul_of_pos_right h d_pos) (le_of_eq (sym r_is))))

  mid_above : 4 * (X * 2 ^ 149) < (Y + Z) * (Y + Z) → MiddleAbove x y z
  mid_above h = lt_of_mul-lt-mul_right (2 ^ 149 * 2 ^ 149) (lt_of_le_of_lt (le_of_eq r_is) (lt_of_lt_of_le (mul-lt-mul_of_pos_right h d_pos) (le_of_eq (sym l_is))))

-- ---- the order, in units
plus_num : (x : Float) → T (finite x) → T (le nought x) → plus x ≡ num x
plus_num nan p h = refl
plus_num (inf s) p h = refl
plus_num (fin false m e) p h = refl
plus_num (fin true m e) p h = sym (no_less (fin true m e) p h)

pub lt_cross : (x y : Float) → T (finite x) → T (finite y) → T (le nought x) → T (le nought y) → T (lt x y) → num x * den y < num y * den x
lt_cross x y p q h k l =
    let a : plus x * den y ≡ num x * den y = ap (λ (u : ℕ). u * den y) (plus_num x p h) in
    let b : plus y * den x ≡ num y * den x = ap (λ (u : ℕ). u * den x) (plus_num y q k) in
    let c : less x * den y ≡ 0 = ap (λ (u : ℕ). u * den y) (no_less x p h) ∙ zero-mul (den y) in
    let d : less y * den x ≡ 0 = ap (λ (u : ℕ). u * den x) (no_less y q k) ∙ zero-mul (den x) in
    let e = lt→below x y p q l in
    omega arith

units_lt : (n d m c N M L : ℕ) → n * L ≡ N * d → m * L ≡ M * c → 0 < L → n * c < m * d → N < M
units_lt n d m c N M L p q l h =
    lt_of_mul-lt-mul_right (d * c)
    (lt_of_le_of_lt (le_of_eq (sym (mul_right_comm n c L ∙ ap (λ (u : ℕ). u * c) p ∙ mul_assoc N d c)))
    (lt_of_lt_of_le (mul-lt-mul_of_pos_right h l) (le_of_eq (mul_right_comm m d L ∙ ap (λ (u : ℕ). u * d) q ∙ mul_assoc M c d ∙ ap (λ (u : ℕ). M * u) (mul_comm c d)))))

grid_of : (z : Float) → T (fits binary32 z) → T (finite z) → (q : ℕ) × (j : ℕ) × (q < 2 ^ 24) × (num z * 2 ^ 149 ≡ q * 2 ^ j * den z)
grid_of nan t p = absurd p
grid_of (inf s) t p = absurd p
grid_of (fin s m e) t p = on_grid binary32 s m e t

-- ---- the root
pub root_is : (x : Float) (b p : ℕ) → num x * 2 ^ 149 ≡ units_of b * den x → Scaled b p → Nearest x (of_bits binary32 p)
root_is x b p vx w =
    let y = of_bits binary32 p in
    let L = 2 ^ 149 in
    let r = w.r in
    let k = w.k in
    let n = w.n in
    let Y = r * 2 ^ k in
    let v = root_value b p w in
    let vy : num y * L ≡ Y * den y = value→cross y Y L v in
    let py : T (positive y) = positive_of_value y Y L v (mul-pos (lt_of_lt_of_le (pow_pos 23) w.near.long) (pow_pos k)) in
    let fy = positive-finite y py in
    let ny = positive_least y py in
    record {
      is_f32 = of_bits-fits binary32 p;
      above_zero = py;
      under = λ z t f h l.
          let g = grid_of z t f in
          mid_below x y z (units_of b) Y (g.0 * 2 ^ g.1) vx vy g.3
          (subst (λ (u : ℕ). (Y + g.0 * 2 ^ g.1) * (Y + g.0 * 2 ^ g.1) < 4 * u) (sym w.scale)
          (below_middle g.0 g.1 r k n g.2 (units_lt (num z) (den z) (num y) (den y) (g.0 * 2 ^ g.1) Y L g.3 vy (pow_pos 149) (lt_cross z y f fy h ny l)) w.near w.large));
      over = λ z t f h l.
          let g = grid_of z t f in
          mid_above x y z (units_of b) Y (g.0 * 2 ^ g.1) vx vy g.3
          (subst (λ (u : ℕ). 4 * u < (Y + g.0 * 2 ^ g.1) * (Y + g.0 * 2 ^ g.1)) (sym w.scale)
          (above_middle g.0 g.1 r k n g.2 (units_lt (num y) (den y) (num z) (den z) Y (g.0 * 2 ^ g.1) L vy g.3 (pow_pos 149) (lt_cross y z fy f ny h l)) w.near));
    }

-- ---- no other f32 is the root
clash : (a b c d : ℕ) → a ≡ c → b ≡ d → a < b → d < c → ⊥
clash a b c d p q h k = omega arith

pub same_sum : (y z : Float) → sum_of y z ≡ sum_of z y
same_sum y z = add_comm (num y * den z) (num z * den y)

not_both : (x y z : Float) → Nearest x y → Nearest x z → T (lt y z) → ⊥
not_both x y z v w l =
    let fy = positive-finite y v.above_zero in
    let fz = positive-finite z w.above_zero in
    clash (4 * num x * (over_of y z * over_of y z)) (sum_of y z * sum_of y z * den x) (4 * num x * (over_of z y * over_of z y)) (sum_of z y * sum_of z y * den x)
    (ap (λ (u : ℕ). 4 * num x * (u * u)) (mul_comm (den y) (den z))) (ap (λ (u : ℕ). u * u * den x) (same_sum y z))
    (v.over z w.is_f32 fz (positive_least z w.above_zero) l) (w.under y v.is_f32 fy (positive_least y v.above_zero) l)

like : (y z : Float) → T (positive y) → T (positive z) → num z * den y ≡ num y * den z → HasValue z false (num y) (den y)
like y nan p q e = absurd q
like y (inf s) p q e = absurd q
like y (fin true m d) p q e = absurd q
like y (fin false m d) p q e = (refl, e)

levels : (y z : Float) → T (positive y) → T (positive z) → T (le y z) → T (le z y) → num z * den y ≡ num y * den z
levels y z p q h k = le_antisymm (le→cross z y q p k) (le→cross y z p q h)

pub root_unique : (x y z : Float) → Nearest x y → Nearest x z → y ≡ z
root_unique x y z v w =
    let p = v.above_zero in
    let q = w.above_zero in
    let fy = positive-finite y p in
    let fz = positive-finite z q in
    let a : T (le z y) = not_lt→le y z fy fz (is_false (lt y z) (not_T (lt y z) (not_both x y z v w))) in
    let b : T (le y z) = not_lt→le z y fz fy (is_false (lt z y) (not_T (lt z y) (not_both x z y w v))) in
    value_unique binary32 y z false (num y) (den y) (den_pos y) v.is_f32 w.is_f32 (own_value y p) (like y z p q (levels y z p q b a))

-- ---- what the program's tests say
contra : (b : Bool) → T b → b ≡ false → ⊥
contra b t e = subst T e t

pub above_zero_of : (x : Float) → lt nought x ≡ true → finite x ≡ true → T (positive x)
unfolding lt
above_zero_of nan h k = absurd (subst T (sym k) tt)
above_zero_of (inf s) h k = absurd (subst T (sym k) tt)
above_zero_of (fin true m e) h k = absurd (subst T (sym h) tt)
above_zero_of (fin false m e) h k = elim (eq-zero-or-pos m) [
  | inl z ↦
      let g = ltb→lt (0 * down e) (m * up e * 1) (subst T (sym h) tt) in
      let a : m * up e ≡ 0 = ap (λ (x : ℕ). x * up e) z ∙ zero-mul (up e) in
      absurd (lt_irrefl 0 (let b : 0 < 0 = omega arith in b))
  | inr z ↦ lt→ltb 0 m z
]

pub root_of_infinite : (x : Float) → lt nought x ≡ true → finite x ≡ false → x ≡ root x
unfolding lt root
root_of_infinite nan h k = absurd (subst T (sym h) tt)
root_of_infinite (inf true) h k = absurd (subst T (sym h) tt)
root_of_infinite (inf false) h k = refl
root_of_infinite (fin s m e) h k = absurd (contra true tt k)

pub root_of_zero : (x : Float) → eq x nought ≡ true → x ≡ root x
unfolding eq root
root_of_zero nan h = absurd (subst T (sym h) tt)
root_of_zero (inf s) h = absurd (subst T (sym h) tt)
root_of_zero (fin s zero e) h = refl
root_of_zero (fin s (suc m) e) h =
    let a = eqb→eq (suc m * up e * 1) (0 * down e) (and_l (eqb (suc m * up e * 1) (0 * down e)) (beq s false || eqb (suc m * up e * 1) 0) (subst T (sym h) tt)) in
    let b : 0 < suc m * up e = mul-pos (zero-lt-suc m) (up_pos e) in
    absurd (lt_irrefl 0 (let g : 0 < 0 = omega arith in g))

pub root_of_less : (x : Float) → lt nought x ≡ false → eq x nought ≡ false → nan ≡ root x
unfolding lt eq root
root_of_less nan h k = refl
root_of_less (inf true) h k = refl
root_of_less (inf false) h k = absurd (contra true tt h)
root_of_less (fin true (suc m) e) h k = refl
root_of_less (fin s zero e) h k =
    let A = 0 * up e * 1 in
    let u : A ≡ 0 * down e = omega arith in
    let v : A ≡ 0 = omega arith in
    absurd (contra (eqb A (0 * down e) && (beq s false || eqb A 0)) (and_i (eqb A (0 * down e)) (beq s false || eqb A 0) (eq→eqb u) (or_r (beq s false) (eqb A 0) (eq→eqb v))) k)
root_of_less (fin false (suc m) e) h k =
    let a : 0 < suc m * up e = mul-pos (zero-lt-suc m) (up_pos e) in
    let b : 0 * down e < suc m * up e * 1 = omega arith in
    absurd (contra (ltb (0 * down e) (suc m * up e * 1)) (lt→ltb (0 * down e) (suc m * up e * 1) b) h)

pub finite_no_nan : (x : Float) → T (finite x) → T (not (is_nan x))
unfolding is_nan
finite_no_nan nan p = p
finite_no_nan (inf s) p = tt
finite_no_nan (fin s m e) p = tt

-- the pattern of a value above zero, and the root that its pattern's root stands for
pub input_range : (x : Float) → T (fits binary32 x) → T (positive x) → (0 < to_bits binary32 x) × (to_bits binary32 x < 2139095040)
input_range x t p = range (to_bits binary32 x) (to_bits-lt binary32 x t) (subst (λ (v : Float). T (positive v)) (sym (of_bits-to_bits binary32 x t)) p)

pub input_root : (x : Float) (p : ℕ) → T (fits binary32 x) → T (positive x) → Scaled (to_bits binary32 x) p → Nearest x (of_bits binary32 p)
input_root x p t g w =
    let b = to_bits binary32 x in
    let v : HasValue x false (units_of b) (2 ^ 149) = subst (λ (z : Float). HasValue z false (units_of b) (2 ^ 149)) (of_bits-to_bits binary32 x t) (bits_value b (input_range x t g).1) in
    root_is x b p (value→cross x (units_of b) (2 ^ 149) v) w

-- ---- the steps of `Root` find the root
root_of : (x : Float) → T (positive x) → root x ≡ of_bits binary32 (root_bits (to_bits binary32 x))
unfolding root
root_of nan p = absurd p
root_of (inf s) p = absurd p
root_of (fin true m e) p = absurd p
root_of (fin false zero e) p = absurd p
root_of (fin false (suc m) e) p = refl

-- the root of an f32 above zero is the nearest f32 to the exact root
pub root_nearest : (x : Float) → T (fits binary32 x) → T (positive x) → Nearest x (root x)
root_nearest x t p =
    let r = input_range x t p in
    rw (root_of x p) (input_root x (root_bits (to_bits binary32 x)) t p (root_bits_scaled (to_bits binary32 x) r.0 r.1))

-- and no other pattern that is scaled so stands for it
pub root_by_bits : (x : Float) (p : ℕ) → T (fits binary32 x) → T (positive x) → Scaled (to_bits binary32 x) p → of_bits binary32 p ≡ root x
root_by_bits x p t g w = root_unique x (of_bits binary32 p) (root x) (input_root x p t g w) (root_nearest x t g)
