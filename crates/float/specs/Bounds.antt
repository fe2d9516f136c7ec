-- Products, quotients and sums of values that are not negative: what keeps a result within bounds. Assumes nothing.
use Rattle.std.specs.Prelude.{◌≡◌, refl, ℕ, zero, suc, ◌+◌, ◌*◌, ◌≤◌, ◌<◌, Bool, true, false, not, cond, ℤ, pos, T, eqb, Float}
use Rattle.std.proofs.Common.{sym, ap, ◌∙◌, subst, lt_irrefl, zero-mul, mul-zero, mul_comm, mul-le-mul_right, mul-pos, zero-lt-suc, arith, eqb→eq, ltb→lt}
use Rattle.std.proofs.Math.Nat.{mul-mul-mul_comm}
use Rattle.std.proofs.Math.Dec.{not_T}
use Rattle.std.specs.Float.{nan, inf, fin, Format, binary32, binary64}
use Rattle.std.specs.Float.Ieee.{up, down, round, add, sub, mul, div, le, fits}
use Rattle.std.specs.Float.Ieee.Fits.{up_pos, down_pos}
use Rattle.std.specs.Float.Ieee.Bits.{cond_no}
use Rattle.std.specs.Float.Ieee.Exact.{HasValue}
use Rattle.std.specs.Float.Ieee.Scale.{finite, round_same}
use Rattle.std.specs.Float.Ieee.Positive.{den, den_pos, positive, positive-finite, above_of_le, value_pos}
use Rattle.float.specs.Exact.{round_self, zero_exp}
use Rattle.float.specs.Order.{plus, less, le→below, below→le, Rounded, over, under, rounded_mono, round_zero, add_rounded, sub_mono, le_trans_float, between_finite, ring}

abbrev pub nought : Float
nought = fin false 0 (pos 0)

abbrev pub one : Float
one = fin false 1 (pos 0)

-- ---- what a value rounds to is the value
zero_is : (f : Format) (s : Bool) (e : ℤ) → T (fits f (fin s zero e)) → fin s zero e ≡ round f s 0 (down e)
zero_is f s e t = ap (λ (d : ℤ). fin s zero d) (zero_exp f s e t) ∙ sym (round_zero f s (down e) (down_pos e))

pub self_rounded : (f : Format) (x : Float) → T (fits f x) → T (finite x) → Rounded f (plus x) (less x) (den x) x
self_rounded f nan t p = absurd p
self_rounded f (inf s) t p = absurd p
self_rounded f (fin false zero e) t p = let z = zero-mul (up e) in over 0 (omega arith) (zero_is f false e t)
self_rounded f (fin true zero e) t p = let z = zero-mul (up e) in under 0 (omega arith) (zero_is f true e t)
self_rounded f (fin false (suc m) e) t p = over (suc m * up e) (omega arith) (sym (round_self f false (suc m) e t (zero-lt-suc m)))
self_rounded f (fin true (suc m) e) t p = under (suc m * up e) (omega arith) (sym (round_self f true (suc m) e t (zero-lt-suc m)))

one_fits : (f : Format) → T (fits f one)
unfolding fits
one_fits binary32 = tt
one_fits binary64 = tt

nought_fits : (f : Format) → T (fits f nought)
unfolding fits
nought_fits binary32 = tt
nought_fits binary64 = tt

pub one_rounded : (f : Format) → Rounded f 1 0 1 one
one_rounded f = self_rounded f one (one_fits f) tt

pub nought_rounded : (f : Format) → Rounded f 0 0 1 nought
nought_rounded f = self_rounded f nought (nought_fits f) tt

-- ---- not negative
pub no_less : (x : Float) → T (finite x) → T (le nought x) → less x ≡ 0
no_less nan p h = absurd p
no_less (inf s) p h = absurd p
no_less (fin false m e) p h = refl
no_less (fin true m e) p h = let k = le→below nought (fin true m e) tt tt h in omega arith

-- ---- the product and the quotient, as rounded differences
pub mul_rounded : (f : Format) (x y : Float) → T (finite x) → T (finite y)
    → Rounded f (plus x * plus y + less x * less y) (plus x * less y + less x * plus y) (den x * den y) (mul f x y)
unfolding mul
mul_rounded f nan y p q = absurd p
mul_rounded f (inf s) y p q = absurd p
mul_rounded f (fin s m e) nan p q = absurd q
mul_rounded f (fin s m e) (inf t) p q = absurd q
mul_rounded f (fin false m e) (fin false n d) p q = let z = mul-zero (m * up e) in over (m * up e * (n * up d)) (omega arith) refl
mul_rounded f (fin false m e) (fin true n d) p q = let z = mul-zero (m * up e) in under (m * up e * (n * up d)) (omega arith) refl
mul_rounded f (fin true m e) (fin false n d) p q = let z = mul-zero (m * up e) in under (m * up e * (n * up d)) (omega arith) refl
mul_rounded f (fin true m e) (fin true n d) p q = let z = mul-zero (m * up e) in over (m * up e * (n * up d)) (omega arith) refl

neqb : (n : ℕ) → 0 < n → T (not (eqb n 0))
neqb n h = not_T (eqb n 0) (λ t. lt_irrefl 0 (subst (λ (x : ℕ). 0 < x) (eqb→eq n 0 t) h))

-- by a divisor above zero
pub div_rounded : (f : Format) (x y : Float) → T (finite x) → T (positive y) → Rounded f (plus x * den y) (less x * den y) (plus y * den x) (div f x y)
unfolding div
div_rounded f nan y p q = absurd p
div_rounded f (inf s) y p q = absurd p
div_rounded f (fin s m e) nan p q = absurd q
div_rounded f (fin s m e) (inf t) p q = absurd q
div_rounded f (fin s m e) (fin true n d) p q = absurd q
div_rounded f (fin false m e) (fin false n d) p q =
    over (m * up e * down d) (omega arith) (cond_no (eqb n 0) (cond (eqb m 0) nan (inf false)) (round f false (m * up e * down d) (n * up d * down e)) (neqb n (ltb→lt 0 n q)))
div_rounded f (fin true m e) (fin false n d) p q =
    under (m * up e * down d) (omega arith) (cond_no (eqb n 0) (cond (eqb m 0) nan (inf true)) (round f true (m * up e * down d) (n * up d * down e)) (neqb n (ltb→lt 0 n q)))

-- of any fractions that dividend and divisor equal, neither below zero: the exact quotient, rounded once
pub div_at : (f : Format) (x y : Float) (a c b d : ℕ) → 0 < c → 0 < d → HasValue x false a c → T (positive y) → HasValue y false b d → div f x y ≡ round f false (a * d) (c * b)
unfolding div
div_at f nan y a c b d C D v p w = absurd v
div_at f (inf s) y a c b d C D v p w = absurd v
div_at f (fin s m e) nan a c b d C D v p w = absurd p
div_at f (fin s m e) (inf t) a c b d C D v p w = absurd p
div_at f (fin s m e) (fin true n g) a c b d C D v p w = absurd p
div_at f (fin true m e) (fin false n g) a c b d C D v p w = absurd (subst T v.0 tt)
div_at f (fin false m e) (fin false n g) a c b d C D v p w =
    cond_no (eqb n 0) (cond (eqb m 0) nan (inf false)) (round f false (m * up e * down g) (n * up g * down e)) (neqb n (ltb→lt 0 n p))
    ∙ round_same f false (m * up e * down g) (n * up g * down e) (a * d) (c * b) (mul-pos (mul-pos (ltb→lt 0 n p) (up_pos g)) (down_pos e)) (mul-pos C (value_pos (fin false n g) b d p D w))
    (mul-mul-mul_comm (m * up e) (down g) c b ∙ ap (λ (z : ℕ). z * (down g * b)) v.1 ∙ ap (λ (z : ℕ). a * down e * z) (mul_comm (down g) b ∙ sym w.1) ∙ across a (down e) (n * up g) d)
  where
    across : (a e n d : ℕ) → a * e * (n * d) ≡ a * d * (n * e)
    across a e n d = simp ring

pub plus_pos : (y : Float) → T (positive y) → 0 < plus y
plus_pos nan q = absurd q
plus_pos (inf s) q = absurd q
plus_pos (fin true n d) q = absurd q
plus_pos (fin false n d) q = mul-pos (ltb→lt 0 n q) (up_pos d)

pub positive_less : (y : Float) → T (positive y) → less y ≡ 0
positive_less nan q = refl
positive_less (inf s) q = refl
positive_less (fin true n d) q = absurd q
positive_less (fin false n d) q = refl

-- ---- x ≤ fl(x + y) for y ≥ 0
pub add_up : (f : Format) (x y : Float) → T (fits f x) → T (finite x) → T (finite y) → T (le nought y) → T (le x (add f x y))
add_up f x y t p q h =
    let z = no_less y q h in
    rounded_mono f (plus x) (less x) (den x) (plus x * den y + plus y * den x) (less x * den y + less y * den x) (den x * den y) x (add f x y)
    (den_pos x) (mul-pos (den_pos x) (den_pos y)) (self_rounded f x t p) (add_rounded f x y p q)
    (more (plus x) (less x) (den x) (plus y) (less y) (den y) z)
  where
    more : (a b c u v w : ℕ) → v ≡ 0 → a * (c * w) + (b * w + v * c) * c ≤ (a * w + u * c) * c + b * (c * w)
    more a b c u v w z = let k = ap (λ (i : ℕ). i * (c * c)) z ∙ zero-mul (c * c) in let k' = simp ring at k in simp ring (omega arith)

-- ---- y ≤ fl(x + y) for x ≥ 0
pub add_up_right : (f : Format) (x y : Float) → T (fits f y) → T (finite x) → T (finite y) → T (le nought x) → T (le y (add f x y))
add_up_right f x y t p q h =
    rounded_mono f (plus y) (less y) (den y) (plus x * den y + plus y * den x) (less x * den y + less y * den x) (den x * den y) y (add f x y)
    (den_pos y) (mul-pos (den_pos x) (den_pos y)) (self_rounded f y t q) (add_rounded f x y p q)
    (more (plus y) (less y) (den y) (plus x) (less x) (den x) (no_less x p h))
  where
    more : (a b c u v w : ℕ) → v ≡ 0 → a * (w * c) + (v * c + b * w) * c ≤ (u * c + a * w) * c + b * (w * c)
    more a b c u v w z = let k = ap (λ (i : ℕ). i * (c * c)) z ∙ zero-mul (c * c) in let k' = simp ring at k in simp ring (omega arith)

-- ---- what is above zero
pub positive_least : (x : Float) → T (positive x) → T (le nought x)
positive_least nan p = absurd p
positive_least (inf s) p = absurd p
positive_least (fin true m e) p = absurd p
positive_least (fin false m e) p = below→le nought (fin false m e) tt tt (omega arith)

-- a finite value that is not below one above zero is above zero
pub positive_by : (x y : Float) → T (positive x) → T (finite y) → T (le x y) → T (positive y)
positive_by x nan p q h = absurd q
positive_by x (inf s) p q h = absurd q
positive_by x (fin true m e) p q h = let a = above_of_le x (fin true m e) p h in a
positive_by x (fin false m e) p q h = above_of_le x (fin false m e) p h

-- ---- 0 ≤ fl(x / y) ≤ 1 for 0 ≤ x ≤ y, 0 < y
pub div_from_zero : (f : Format) (x y : Float) → T (finite x) → T (positive y) → T (le nought x) → T (le nought (div f x y))
div_from_zero f x y p q h =
    let z = no_less x p h in
    rounded_mono f 0 0 1 (plus x * den y) (less x * den y) (plus y * den x) nought (div f x y) (zero-lt-suc 0) (mul-pos (plus_pos y q) (den_pos x)) (nought_rounded f) (div_rounded f x y p q)
    (at (plus x) (less x) (den y) (plus y * den x) z)
  where
    at : (a b c u : ℕ) → b ≡ 0 → 0 * u + b * c * 1 ≤ a * c * 1 + 0 * u
    at a b c u z = let k = ap (λ (i : ℕ). i * c) z ∙ zero-mul c in omega arith

pub div_to_one : (f : Format) (x y : Float) → T (finite x) → T (positive y) → T (le x y) → T (le (div f x y) one)
div_to_one f x y p q h =
    rounded_mono f (plus x * den y) (less x * den y) (plus y * den x) 1 0 1 (div f x y) one (mul-pos (plus_pos y q) (den_pos x)) (zero-lt-suc 0) (div_rounded f x y p q) (one_rounded f)
    (at (plus x * den y) (less x * den y) (plus y * den x) (less y * den x) (le→below x y p (positive-finite y q) h))
  where
    at : (a b c v : ℕ) → a + v ≤ c + b → a * 1 + 0 * c ≤ 1 * c + b * 1
    at a b c v k = omega arith

-- ---- 0 ≤ fl(1 - k) ≤ 1 for 0 ≤ k ≤ 1
one_less_one : (f : Format) → T (le nought (sub f one one)) × T (le (sub f one nought) one)
unfolding sub le
one_less_one binary32 = (tt, tt)
one_less_one binary64 = (tt, tt)

one_one : T (le one one)
unfolding le
one_one = tt

pub complement : (f : Format) (k : Float) → T (le nought k) → T (le k one) → T (le nought (sub f one k)) × T (le (sub f one k) one)
complement f k h j =
    let p = between_finite nought k one tt tt h j in (
      le_trans_float nought (sub f one one) (sub f one k) (one_less_one f).0 (sub_mono f one one one k tt tt tt p one_one j),
      le_trans_float (sub f one k) (sub f one nought) one (sub_mono f one one k nought tt tt p tt one_one h) (one_less_one f).1,
    )

-- ---- 0 ≤ fl(x * w) ≤ x for 0 ≤ x and 0 ≤ w ≤ 1
pub mul_from_zero : (f : Format) (x w : Float) → T (finite x) → T (finite w) → T (le nought x) → T (le nought w) → T (le nought (mul f x w))
mul_from_zero f x w p q h j =
    rounded_mono f 0 0 1 (plus x * plus w + less x * less w) (plus x * less w + less x * plus w) (den x * den w) nought (mul f x w) (zero-lt-suc 0) (mul-pos (den_pos x) (den_pos w)) (nought_rounded f) (mul_rounded f x w p q)
    (at (plus x) (less x) (plus w) (less w) (den x * den w) (no_less x p h) (no_less w q j))
  where
    at : (a b c d u : ℕ) → b ≡ 0 → d ≡ 0 → 0 * u + (a * d + b * c) * 1 ≤ (a * c + b * d) * 1 + 0 * u
    at a b c d u y z = let k = ap (λ (i : ℕ). i * c) y ∙ zero-mul c in let l = ap (λ (i : ℕ). a * i) z ∙ mul-zero a in omega arith

pub mul_shrinks : (f : Format) (x w : Float) → T (fits f x) → T (finite x) → T (finite w) → T (le nought x) → T (le nought w) → T (le w one) → T (le (mul f x w) x)
mul_shrinks f x w t p q h j k =
    rounded_mono f (plus x * plus w + less x * less w) (plus x * less w + less x * plus w) (den x * den w) (plus x) (less x) (den x) (mul f x w) x (mul-pos (den_pos x) (den_pos w)) (den_pos x) (mul_rounded f x w p q) (self_rounded f x t p)
    (at (plus x) (less x) (den x) (plus w) (less w) (den w) (no_less x p h) (no_less w q j) (le→below w one q tt k))
  where
    at : (a b c u v d : ℕ) → b ≡ 0 → v ≡ 0 → u * 1 + 0 * d ≤ 1 * d + v * 1 → (a * u + b * v) * c + b * (c * d) ≤ a * (c * d) + (a * v + b * u) * c
    at a b c u v d y z g =
        let e : u ≤ d = omega arith in
        let m = simp ring at (mul-le-mul_right (a * c) e) in
        let k1 = simp ring at (ap (λ (i : ℕ). i * (v * c)) y ∙ zero-mul (v * c)) in
        let k2 = ap (λ (i : ℕ). i * (c * d)) y ∙ zero-mul (c * d) in
        simp ring (omega arith)
