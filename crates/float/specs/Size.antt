-- "At most .. in size" through the operations: the size of a rounded sum, difference, product or quotient is at most that of the limits. Assumes nothing.
use Rattle.std.specs.Prelude.{◌≡◌, refl, ℕ, ◌+◌, ◌*◌, ◌≤◌, ◌<◌, true, false, T, Float}
use Rattle.std.proofs.Common.{sym, ap, ◌∙◌, subst, le_trans, le_of_eq, mul-le-mul, mul-le-mul_right, mul-pos, add-mul, mul-add, add-zero, zero-add, add_comm, mul-zero, zero-mul, arith}
use Rattle.std.proofs.Math.Nat.{mul-mul-mul_comm, eq_of_mul-eq-mul_right}
use Rattle.std.specs.Float.{nan, inf, fin, Format}
use Rattle.std.specs.Float.Ieee.{up, down, add, sub, mul, div, neg, le}
use Rattle.std.specs.Float.Ieee.Fits.{and_l, and_r, and_i, down_pos}
use Rattle.std.specs.Float.Ieee.Scale.{finite}
use Rattle.std.specs.Float.Ieee.Positive.{den, den_pos, positive, positive-finite}
use Rattle.float.specs.Value.{within, between, zero32}
use Rattle.float.specs.Order.{plus, less, sums, le→below, Rounded, over, under, round_neg, rounded_mono, add_rounded, add_mono, neg_le, neg_finite, le_trans_float, between_finite}
use Rattle.float.specs.Bounds.{mul_rounded, div_rounded, plus_pos, positive_less, positive_by}

-- ---- the two ends
pub within_low : (x a : Float) → T (within x a) → T (le (neg a) x)
within_low x a w = and_l (le (neg a) x) (le x a) w

pub within_high : (x a : Float) → T (within x a) → T (le x a)
within_high x a w = and_r (le (neg a) x) (le x a) w

pub within_of : (x a : Float) → T (le (neg a) x) → T (le x a) → T (within x a)
within_of x a h k = and_i (le (neg a) x) (le x a) h k

pub within_finite : (x a : Float) → T (finite a) → T (within x a) → T (finite x)
within_finite x a f w = between_finite (neg a) x a (neg_finite a f) f (within_low x a w) (within_high x a w)

pub within_more : (x a b : Float) → T (le a b) → T (within x a) → T (within x b)
within_more x a b h w = within_of x b (le_trans_float (neg b) (neg a) x (neg_le a b h) (within_low x a w)) (le_trans_float x a b (within_high x a w) h)

-- what lies from 0 to a limit is at most that in size
pub between_within : (v high : Float) → T (le (neg high) zero32) → T (between zero32 v high) → T (within v high)
between_within v high h t = within_of v high (le_trans_float (neg high) zero32 v h (and_l (le zero32 v) (le v high) t)) (and_r (le zero32 v) (le v high) t)

-- ---- a rounded value, negated
parts_neg : (x : Float) → (plus (neg x) ≡ less x) × (less (neg x) ≡ plus x) × (den (neg x) ≡ den x)
unfolding neg
parts_neg nan = (refl, refl, refl)
parts_neg (inf s) = (refl, refl, refl)
parts_neg (fin false m e) = (refl, refl, refl)
parts_neg (fin true m e) = (refl, refl, refl)

neg_neg : (x : Float) → neg (neg x) ≡ x
unfolding neg
neg_neg nan = refl
neg_neg (inf false) = refl
neg_neg (inf true) = refl
neg_neg (fin false m e) = refl
neg_neg (fin true m e) = refl

rounded_neg : (f : Format) (P N C : ℕ) (z : Float) → Rounded f P N C z → Rounded f N P C (neg z)
rounded_neg f P N C z (over d p q) = under d p (ap neg q ∙ sym (round_neg f d C))
rounded_neg f P N C z (under d p q) = over d p (ap neg (q ∙ round_neg f d C) ∙ neg_neg _)

-- -a ≤ x, with the denominators multiplied out
neg_below : (a x : Float) → T (finite a) → T (finite x) → T (le (neg a) x) → less a * den x + less x * den a ≤ plus x * den a + plus a * den x
neg_below a x p q h = let e = parts_neg a in rw (e.0, e.1, e.2) at (le→below (neg a) x (neg_finite a p) q h)

-- ---- sums and differences
pub within_add : (f : Format) (x y a b : Float) → T (finite a) → T (finite b) → T (within x a) → T (within y b) → T (within (add f x y) (add f a b))
within_add f x y a b p q v w =
    let fx = within_finite x a p v in
    let fy = within_finite y b q w in
    within_of (add f x y) (add f a b)
    (rounded_mono f (less a * den b + less b * den a) (plus a * den b + plus b * den a) (den a * den b) (plus x * den y + plus y * den x) (less x * den y + less y * den x) (den x * den y) (neg (add f a b)) (add f x y)
    (mul-pos (den_pos a) (den_pos b)) (mul-pos (den_pos x) (den_pos y)) (rounded_neg f _ _ _ _ (add_rounded f a b p q)) (add_rounded f x y fx fy)
    (sums (less a) (plus a) (den a) (plus x) (less x) (den x) (less b) (plus b) (den b) (plus y) (less y) (den y) (neg_below a x p fx (within_low x a v)) (neg_below b y q fy (within_low y b w))))
    (add_mono f x a y b fx p fy q (within_high x a v) (within_high y b w))

pub within_neg : (x a : Float) → T (within x a) → T (within (neg x) a)
within_neg x a w = within_of (neg x) a (neg_le x a (within_high x a w)) (subst (λ (z : Float). T (le (neg x) z)) (neg_neg a) (neg_le (neg a) x (within_low x a w)))

pub within_sub : (f : Format) (x y a b : Float) → T (finite a) → T (finite b) → T (within x a) → T (within y b) → T (within (sub f x y) (add f a b))
unfolding sub
within_sub f x y a b p q v w = within_add f x (neg y) a b p q v (within_neg y b w)

-- ---- products
nothing : (d c : ℕ) → 0 < c → d * c ≡ 0 → d ≡ 0
nothing d c C h = eq_of_mul-eq-mul_right c C d 0 (h ∙ sym (zero-mul c))

-- the limit is not negative, and the size of x is not above it
size_below : (x a : Float) → T (finite a) → T (within x a) → (less a ≡ 0) × ((plus x + less x) * den a ≤ plus a * den x)
size_below x a p w = go x a (within_finite x a p w) p (le→below x a (within_finite x a p w) p (within_high x a w)) (neg_below a x p (within_finite x a p w) (within_low x a w))
  where
    go : (x a : Float) → T (finite x) → T (finite a) → plus x * den a + less a * den x ≤ plus a * den x + less x * den a → less a * den x + less x * den a ≤ plus x * den a + plus a * den x
        → (less a ≡ 0) × ((plus x + less x) * den a ≤ plus a * den x)
    go nan a q r h k = absurd q
    go (inf s) a q r h k = absurd q
    go (fin s m e) nan q r h k = absurd r
    go (fin s m e) (inf t) q r h k = absurd r
    go (fin false m e) (fin false n d) q r h k = (refl, rw (add-zero (m * up e)) (omega arith))
    go (fin true m e) (fin false n d) q r h k = (refl, rw (zero-add (m * up e)) (omega arith))
    go (fin false m e) (fin true n d) q r h k = (nothing (n * up d) (down e) (down_pos e) (omega arith), rw (add-zero (m * up e)) (omega arith))
    go (fin true m e) (fin true n d) q r h k = (nothing (n * up d) (down e) (down_pos e) (omega arith), rw (zero-add (m * up e)) (omega arith))

-- P and N are the two parts of a product of sizes s and t
products : (P N s t c d u v m n : ℕ) → P + N ≤ s * t → s * c ≤ u * m → t * d ≤ v * n → P * (c * d) ≤ u * v * (m * n) + N * (c * d)
products P N s t c d u v m n h j k =
    let a : s * t * (c * d) ≤ u * v * (m * n) = le_trans (le_of_eq (mul-mul-mul_comm s t c d)) (le_trans (mul-le-mul j k) (le_of_eq (mul-mul-mul_comm u m v n))) in
    let b : (P + N) * (c * d) ≤ s * t * (c * d) = mul-le-mul_right (c * d) h in
    let e = add-mul P N (c * d) in
    omega arith

parts_of : (a b c d : ℕ) → (a * c + b * d + (a * d + b * c)) ≡ (a + b) * (c + d)
parts_of a b c d = simp (add-mul, mul-add) (omega arith)

pub within_mul : (f : Format) (x y a b : Float) → T (finite a) → T (finite b) → T (within x a) → T (within y b) → T (within (mul f x y) (mul f a b))
within_mul f x y a b p q v w =
    let fx = within_finite x a p v in
    let fy = within_finite y b q w in
    let s = size_below x a p v in
    let t = size_below y b q w in
    let X = plus x * plus y + less x * less y in
    let Y = plus x * less y + less x * plus y in
    let za : plus a * less b + less a * plus b ≡ 0 = rw (s.0, t.0) (simp (mul-zero, zero-mul, add-zero)) in
    let la : less a * less b ≡ 0 = rw s.0 (zero-mul (less b)) in
    let parts = parts_of (plus x) (less x) (plus y) (less y) in
    let C = den a * den b in
    let D = den x * den y in
    let rz = mul_rounded f x y fx fy in
    let rab = mul_rounded f a b p q in
    let hi = products X Y (plus x + less x) (plus y + less y) (den a) (den b) (plus a) (plus b) (den x) (den y) (le_of_eq parts) s.1 t.1 in
    let lo = products Y X (plus x + less x) (plus y + less y) (den a) (den b) (plus a) (plus b) (den x) (den y) (le_of_eq (add_comm Y X ∙ parts)) s.1 t.1 in
    within_of (mul f x y) (mul f a b)
    (rounded_mono f (plus a * less b + less a * plus b) (plus a * plus b + less a * less b) C X Y D (neg (mul f a b)) (mul f x y) (mul-pos (den_pos a) (den_pos b)) (mul-pos (den_pos x) (den_pos y)) (rounded_neg f _ _ _ _ rab) rz
    (rw (za, la) (simp (zero-mul, zero-add, add-zero) (omega arith))))
    (rounded_mono f X Y D (plus a * plus b + less a * less b) (plus a * less b + less a * plus b) C (mul f x y) (mul f a b) (mul-pos (den_pos x) (den_pos y)) (mul-pos (den_pos a) (den_pos b)) rz rab
    (rw (za, la) (simp (zero-mul, add-zero) (omega arith))))

-- ---- quotients
-- N is one part of a numerator whose size, over c, is at most that of a limit u over m; the divisor v over n is the least one
quotients : (P N c u m v n w k : ℕ) → (P + N) * c ≤ u * m → v * k ≤ w * n → N * k * (v * c) ≤ P * k * (v * c) + u * n * (w * m)
quotients P N c u m v n w k h j = omega (arith, mul-le-mul_right (k * v) h, mul-le-mul_right (u * m) j)

-- the divisor is at least b, which is above zero
pub within_div : (f : Format) (x y a b : Float) → T (finite a) → T (finite y) → T (positive b) → T (within x a) → T (le b y) → T (within (div f x y) (div f a b))
within_div f x y a b p q pb v h =
    let fx = within_finite x a p v in
    let py = positive_by b y pb q h in
    let s = size_below x a p v in
    let t : plus b * den y ≤ plus y * den b = rw (positive_less b pb, positive_less y py, zero-mul (den b), zero-mul (den y), add-zero (plus b * den y), add-zero (plus y * den b)) at (le→below b y (positive-finite b pb) q h) in
    let rz = div_rounded f x y fx py in
    let rab = div_rounded f a b p pb in
    let C = mul-pos (plus_pos b pb) (den_pos a) in
    let D = mul-pos (plus_pos y py) (den_pos x) in
    let lo = quotients (plus x) (less x) (den a) (plus a) (den x) (plus b) (den b) (plus y) (den y) s.1 t in
    let hi = quotients (less x) (plus x) (den a) (plus a) (den x) (plus b) (den b) (plus y) (den y) (rw (add_comm (less x) (plus x)) s.1) t in
    within_of (div f x y) (div f a b)
    (rounded_mono f (less a * den b) (plus a * den b) (plus b * den a) (plus x * den y) (less x * den y) (plus y * den x) (neg (div f a b)) (div f x y) C D (rounded_neg f _ _ _ _ rab) rz
    (rw s.0 (simp (zero-mul, zero-add) (omega (arith, lo)))))
    (rounded_mono f (plus x * den y) (less x * den y) (plus y * den x) (plus a * den b) (less a * den b) (plus b * den a) (div f x y) (div f a b) D C rz rab
    (rw s.0 (simp (zero-mul, add-zero) (omega (arith, hi)))))
