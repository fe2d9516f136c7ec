-- Multiples of 2 ^ -24 up to 20 in size: rounding keeps them, and so does the rounded sum. Assumes nothing.
-- A sum is rounded where it is 1 or more in size; but then it is an f32 of at least 1, and so again such a multiple.
use Rattle.std.specs.Prelude.{ℕ, zero, suc, ◌+◌, ◌-◌, ◌*◌, ◌^◌, ◌≤◌, ◌<◌, ◌≡◌, refl, Bool, true, false, not, ℤ, pos, negsuc, T, ltb, Float}
use Rattle.std.proofs.Common.{sym, ap, ◌∙◌, subst, le_of_mul-le-mul_right, mul-le-mul_right, mul-pos, add-mul, mul_assoc, mul-one, lt_of_lt_of_le, le_of_suc-le-suc, lt_of_not-le, zero-lt-suc, arith, lit<, lit≤, pow-add, pow_mono, shl_lt, ltb-true, ltb-false}
use Rattle.std.specs.Float.{nan, inf, fin, binary32}
use Rattle.std.specs.Float.Ieee.{up, down, round, fits, le}
use Rattle.std.specs.Float.Ieee.Exact.{HasValue, round_exact}
use Rattle.std.specs.Float.Ieee.Fits.{round-fits, down_pos}
use Rattle.std.specs.Float.Ieee.Positive.{den, den_pos}
use Rattle.std.specs.Float.Ieee.Scale.{finite, round_same}
use Rattle.float.specs.Value.{◌⊕◌}
use Rattle.float.specs.Order.{plus, less, le→below, Rounded, over, under, round_neg, rounded_mono, add_rounded, between_finite, ring}
use Rattle.float.specs.Exact.{held}
use Rattle.float.specs.Bounds.{one, one_rounded}
use Rattle.float.specs.CountLaws.{whole_value}
use Rattle.float.specs.Fraction.{neg_value}

-- x is a multiple of 2 ^ -24, at most n in size
pub record Multiple (n : ℕ) (x : Float) : Type 0 where
  pub below_zero : Bool
  pub k : ℕ
  pub multiple : HasValue x below_zero k 16777216
  pub size : k ≤ n * 16777216

-- ---- rounding keeps a multiple of 2 ^ -24 one, up to 20 in size
-- below 1 in size nothing is rounded
short : (s : Bool) (K : ℕ) → K < 16777216 → HasValue (round binary32 s K 16777216) s K 16777216
short s K h =
    round_exact binary32 s K 16777216 K 125 (lit< tt) h (lt_of_lt_of_le (shl_lt 24 125 h) (pow_mono {i = 149} {j = 277} (lit≤ tt))) (ap (λ (z : ℕ). K * z) split ∙ sym (mul_assoc K (2 ^ 125) 16777216))
  where
    split : 2 ^ 149 ≡ 2 ^ 125 * 16777216
    split = refl

-- n as an f32
abbrev whole : ℕ → Float
whole n = round binary32 false n 1

value_finite : (x : Float) (s : Bool) (a c : ℕ) → HasValue x s a c → T (finite x)
value_finite nan s a c v = v
value_finite (inf t) s a c v = v
value_finite (fin t m e) s a c v = tt

-- an f32 from 1 to n is such a multiple
at_most : (a m : ℕ) → m < 16777216 → 2 ^ suc a ≤ m * 1 → a ≤ 23
at_most a m s h = le_of_suc-le-suc (lt_of_not-le (λ (g : 24 ≤ a). far (2 ^ suc a) m (pow_mono {i = 25} {j = suc a} (omega arith)) s h))
  where
    far : (p m : ℕ) → 33554432 ≤ p → m < 16777216 → p ≤ m * 1 → ⊥
    far p m a b c = omega arith

multiple_of : (m : ℕ) (e : ℤ) → m < 16777216 → down e ≤ m * up e → (k : ℕ) × (m * up e * 16777216 ≡ k * down e)
multiple_of m (pos a) s h = (m * 2 ^ a * 16777216, sym (mul-one (m * 2 ^ a * 16777216)))
multiple_of m (negsuc a) s h =
    let g : a ≤ 23 = at_most a m s h in
    let p : (23 - a) + suc a ≡ 24 = omega arith in
    (m * 2 ^ (23 - a), ap (λ (z : ℕ). z * 16777216) (mul-one m) ∙ ap (λ (z : ℕ). m * z) (ap (λ (z : ℕ). 2 ^ z) (sym p) ∙ pow-add 2 (23 - a) (suc a)) ∙ sym (mul_assoc m (2 ^ (23 - a)) (2 ^ suc a)))

long : (n : ℕ) (z : Float) → n ≤ 20 → T (fits binary32 z) → T (le one z) → T (le z (whole n)) → Multiple n z
long n z h f l u = let v = whole_value n (omega arith) in go z (whole n) f v (between_finite one z (whole n) tt (value_finite (whole n) false n 1 v) l u) l u
  where
    go : (z w : Float) → T (fits binary32 z) → HasValue w false n 1 → T (finite z) → T (le one z) → T (le z w) → Multiple n z
    go nan w f v p l u = absurd p
    go (inf s) w f v p l u = absurd p
    go (fin s m e) nan f v p l u = absurd v
    go (fin s m e) (inf t) f v p l u = absurd v
    go (fin true m e) (fin t i d) f v p l u = absurd (none (down e) (m * up e) (down_pos e) (le→below one (fin true m e) tt tt l))
      where
        none : (d a : ℕ) → 0 < d → 1 * d + a * 1 ≤ 0 * 1 + 0 * d → ⊥
        none d a p h = omega arith
    go (fin false zero e) (fin t i d) f v p l u = absurd (none (up e) (down e) (down_pos e) (le→below one (fin false zero e) tt tt l))
      where
        none : (a d : ℕ) → 0 < d → 1 * d + 0 * 1 ≤ 0 * a * 1 + 0 * d → ⊥
        none a d p h = omega arith
    go (fin false (suc m) e) (fin true i d) f v p l u = absurd (sign v.0)
      where
        sign : true ≡ false → ⊥
        sign q = subst (λ (b : Bool). T b) q tt
    go (fin false (suc m) e) (fin false i d) f v p l u =
        let b = le→below one (fin false (suc m) e) tt tt l in
        let q = multiple_of (suc m) e (held binary32 false (suc m) e (zero-lt-suc m) f).short (omega arith) in
        record { below_zero = false; k = q.0; multiple = (refl, q.1); size = below (suc m * up e) (down e) (i * up d) (down d) q.0 (down_pos e) (down_pos d) q.1 v.1 (le→below (fin false (suc m) e) (fin false i d) tt tt u) }
      where
        below : (a c w d k : ℕ) → 0 < c → 0 < d → a * 16777216 ≡ k * c → w * 1 ≡ n * d → a * d + 0 * c ≤ w * c + 0 * d → k ≤ n * 16777216
        below a c w d k C D x y h =
            let g : a * d ≤ n * c * d = rw (add_c n c d) (omega (arith, ap (λ (z : ℕ). z * c) y)) in
            let j : a ≤ n * c = le_of_mul-le-mul_right {k = d} g D in
            le_of_mul-le-mul_right {k = c} (omega (arith, x, mul-le-mul_right 16777216 j)) C
          where
            add_c : (n c d : ℕ) → n * c * d ≡ n * d * c
            add_c n c d = omega arith

kept_up : (n K : ℕ) → n ≤ 20 → K ≤ n * 16777216 → Multiple n (round binary32 false K 16777216)
kept_up n K h g = go (ltb K 16777216) refl
  where
    go : (b : Bool) → ltb K 16777216 ≡ b → Multiple n (round binary32 false K 16777216)
    go true e = record { below_zero = false; k = K; multiple = short false K (ltb-true _ _ e); size = g }
    go false e =
        let l : 16777216 ≤ K = ltb-false _ _ e in
        long n (round binary32 false K 16777216) h (round-fits binary32 false K 16777216)
        (rounded_mono binary32 1 0 1 K 0 16777216 one (round binary32 false K 16777216) (lit< tt) (lit< tt) (one_rounded binary32) (over K (omega arith) refl) (omega arith))
        (rounded_mono binary32 K 0 16777216 n 0 1 (round binary32 false K 16777216) (whole n) (lit< tt) (lit< tt) (over K (omega arith) refl) (over n (omega arith) refl) (omega arith))

kept : (s : Bool) (n K : ℕ) → n ≤ 20 → K ≤ n * 16777216 → Multiple n (round binary32 s K 16777216)
kept false n K h g = kept_up n K h g
kept true n K h g =
    let w = kept_up n K h g in
    subst (Multiple n) (sym (round_neg binary32 K 16777216)) (record { below_zero = not w.below_zero; k = w.k; multiple = neg_value (round binary32 false K 16777216) w.below_zero w.k 16777216 w.multiple; size = w.size })

-- ---- a sum of two
-- the parts of x in units of 2 ^ -24
record Parts (x : Float) (k : ℕ) : Type 0 where
  is_finite : T (finite x)
  above : ℕ
  below : ℕ
  plus_is : plus x * 16777216 ≡ above * den x
  less_is : less x * 16777216 ≡ below * den x
  both : above + below ≡ k

parts : (x : Float) (s : Bool) (k : ℕ) → HasValue x s k 16777216 → Parts x k
parts nan s k v = absurd v
parts (inf t) s k v = absurd v
parts (fin false m e) s k v = record { is_finite = tt; above = k; below = 0; plus_is = v.1; less_is = omega arith; both = omega arith }
parts (fin true m e) s k v = record { is_finite = tt; above = 0; below = k; plus_is = omega arith; less_is = v.1; both = omega arith }

-- the difference of two whole numbers of units is one
units_of : (a b c a' b' c' p q p' q' d : ℕ) → a * 16777216 ≡ p * c → b * 16777216 ≡ q * c → a' * 16777216 ≡ p' * c' → b' * 16777216 ≡ q' * c' → 0 < c * c' → a * c' + a' * c ≡ b * c' + b' * c + d
    → (K : ℕ) × (d * 16777216 ≡ K * (c * c')) × (K ≤ p + p' + (q + q'))
units_of a b c a' b' c' p q p' q' d h1 h2 h3 h4 C e =
    let f1 = simp ring at (ap (λ (z : ℕ). z * c') h1) in
    let f2 = simp ring at (ap (λ (z : ℕ). z * c') h2) in
    let f3 = simp ring at (ap (λ (z : ℕ). z * c) h3) in
    let f4 = simp ring at (ap (λ (z : ℕ). z * c) h4) in
    let e' = simp ring at (ap (λ (z : ℕ). z * 16777216) e) in
    let s : (p + p') * (c * c') ≡ (q + q') * (c * c') + d * 16777216 = simp ring (omega arith) in
    let l : q + q' ≤ p + p' = le_of_mul-le-mul_right {k = c * c'} (omega (arith, s)) C in
    let K = p + p' - (q + q') in
    let g : K + (q + q') ≡ p + p' = omega arith in
    let m = add-mul K (q + q') (c * c') in
    (K, omega (arith, s, m, ap (λ (z : ℕ). z * (c * c')) g), omega arith)

pub add_multiple : (n : ℕ) (x y : Float) → n ≤ 19 → Multiple n x → Multiple 1 y → Multiple (n + 1) (x ⊕ y)
add_multiple n x y h v w =
    let P = parts x v.below_zero v.k v.multiple in
    let Q = parts y w.below_zero w.k w.multiple in
    go P Q (add_rounded binary32 x y P.is_finite Q.is_finite)
  where
    go : Parts x v.k → Parts y w.k
        → Rounded binary32 (plus x * den y + plus y * den x) (less x * den y + less y * den x) (den x * den y) (x ⊕ y) → Multiple (n + 1) (x ⊕ y)
    go P Q (over d p q) =
        let u = units_of (plus x) (less x) (den x) (plus y) (less y) (den y) P.above P.below Q.above Q.below d P.plus_is P.less_is Q.plus_is Q.less_is (mul-pos (den_pos x) (den_pos y)) p in
        subst (Multiple (n + 1)) (sym (q ∙ round_same binary32 false d (den x * den y) u.0 16777216 (mul-pos (den_pos x) (den_pos y)) (lit< tt) u.1))
        (kept false (n + 1) u.0 (omega arith) (omega (arith, u.2, P.both, Q.both, v.size, w.size)))
    go P Q (under d p q) =
        let u = units_of (less x) (plus x) (den x) (less y) (plus y) (den y) P.below P.above Q.below Q.above d P.less_is P.plus_is Q.less_is Q.plus_is (mul-pos (den_pos x) (den_pos y)) p in
        subst (Multiple (n + 1)) (sym (q ∙ round_same binary32 true d (den x * den y) u.0 16777216 (mul-pos (den_pos x) (den_pos y)) (lit< tt) u.1))
        (kept true (n + 1) u.0 (omega arith) (omega (arith, u.2, P.both, Q.both, v.size, w.size)))
