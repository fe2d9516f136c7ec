-- Whole-number facts for the root: the digits move up without loss, the scale is even, and the steps of `Root` find the nearest whole root. Assumes nothing.
use Rattle.std.specs.Prelude.{◌≡◌, refl, ℕ, zero, suc, ◌+◌, ◌-◌, ◌*◌, ◌/◌, ◌%◌, ◌^◌, ◌<◌, ◌≤◌, Bool, true, false, not, ◌&&◌, cond, T, ltb, leb, eqb}
use Rattle.std.proofs.Common.{sym, ap, ◌∙◌, subst, le_refl, le_trans, le_of_eq, mul-le-mul, one-mul, lt_irrefl, mul-one, mul_assoc, add-mul, mul-add, mul-pos, zero-lt-suc, add_comm, arith, ltb→lt, leb→le, nltb→le, eqb→eq, T_not, pow-add, pow_pos}
use Rattle.std.proofs.Math.Nat.{pow-succ'}
use Rattle.std.specs.Float.Ieee.Fits.{eq→eqb, and_l, and_r}
use Rattle.float.specs.RootWhole.{magnitude, units_of, near, NearRoot, Scaled}
use Rattle.float.specs.Root.{seek, normal, digits, radicand, root_bits}

-- the square of a root's digits has 48 at most
pub squared : (r : ℕ) → r ≤ 2 ^ 24 → r * r ≤ 2 ^ 48
squared r h = mul-le-mul h h

pub start_low : (t : ℕ) → t * 2 ^ 24 ≡ magnitude 0 t * 2 ^ 24
unfolding magnitude
start_low t = refl

pub start_high : (e t : ℕ) → 0 < e → (t + 2 ^ 23) * 2 ^ (e + 23) ≡ magnitude e t * 2 ^ 24
unfolding magnitude
start_high zero t h = absurd (lt_irrefl 0 h)
start_high (suc x) t h =
    let a : suc x + 23 ≡ x + 24 = omega arith in
    ap (λ (w : ℕ). (t + 2 ^ 23) * 2 ^ w) a
    ∙ ap (λ (w : ℕ). (t + 2 ^ 23) * w) (pow-add 2 x 24)
    ∙ sym (mul_assoc (t + 2 ^ 23) (2 ^ x) (2 ^ 24))
    ∙ ap (λ (w : ℕ). w * 2 ^ x * 2 ^ 24) (add_comm t (2 ^ 23))

pub units_pos : (b : ℕ) → 0 < b → 0 < units_of b
unfolding magnitude
units_pos b h = go (b / 2 ^ 23) (b % 2 ^ 23) (let k : 0 < b / 8388608 * 8388608 + b % 8388608 = omega arith in k)
  where
    go : (e t : ℕ) → 0 < e * 2 ^ 23 + t → 0 < magnitude e t
    go zero t k = omega arith
    go (suc x) t k = mul-pos (omega arith) (pow_pos x)

-- one doubling
pub double : (m k u : ℕ) → 0 < k → m * 2 ^ k ≡ u → m * 2 * 2 ^ (k - 1) ≡ u
double m zero u h e = absurd (lt_irrefl 0 h)
double m (suc k) u h e = mul_assoc m 2 (2 ^ (suc k - 1)) ∙ ap (λ (w : ℕ). m * (2 * 2 ^ w)) (let q : suc k - 1 ≡ k = omega arith in q) ∙ ap (λ (w : ℕ). m * w) (sym (pow-succ' 2 k)) ∙ e

pub some_left : (m k u : ℕ) → 0 < u → m * 2 ^ k ≡ u * 2 ^ 24 → m < 2 ^ 23 → 0 < k
some_left m zero u p e h = let w = mul-one m in let z : m ≡ u * 2 ^ 24 = sym w ∙ e in absurd (lt_irrefl 0 (let g : 0 < 0 = omega arith in g))
some_left m (suc k) u p e h = zero-lt-suc k

-- ---- the scale: moved by 23 + k % 2 the exponent is even
scaled : (m k u j h : ℕ) → m * 2 ^ k ≡ u * 2 ^ 24 → j + (h + h) ≡ k + 125 → u * 2 ^ 149 ≡ m * 2 ^ j * (2 ^ h * 2 ^ h)
scaled m k u j h e g =
    sym (mul_assoc u (2 ^ 24) (2 ^ 125))
    ∙ ap (λ (w : ℕ). w * 2 ^ 125) (sym e)
    ∙ mul_assoc m (2 ^ k) (2 ^ 125)
    ∙ ap (λ (w : ℕ). m * w) (sym (pow-add 2 k 125) ∙ ap (λ (w : ℕ). 2 ^ w) (sym g) ∙ pow-add 2 j (h + h) ∙ ap (λ (w : ℕ). 2 ^ j * w) (pow-add 2 h h))
    ∙ sym (mul_assoc m (2 ^ j) (2 ^ h * 2 ^ h))

-- 2 ^ (23 + k % 2)
shift_is : (k : ℕ) → 2 ^ (23 + k % 2) ≡ 8388608 * (1 + k % 2)
shift_is k = go (k % 2) (let h : k % 2 < 2 = omega arith in h)
  where
    go : (b : ℕ) → b < 2 → 2 ^ (23 + b) ≡ 8388608 * (1 + b)
    go zero h = refl
    go (suc zero) h = refl
    go (suc (suc b)) h = absurd (lt_irrefl 0 (let g : 0 < 0 = omega arith in g))

pub radicand_low : (m k : ℕ) → 2 ^ 23 ≤ m → 2 ^ 46 ≤ radicand (m, k)
radicand_low m k h = mul-le-mul h (let g : 8388608 ≤ 8388608 * (1 + k % 2) = omega arith in g)

pub radicand_high : (m k : ℕ) → m < 2 ^ 24 → radicand (m, k) + 2 ^ 24 ≤ 2 ^ 48
radicand_high m k h =
    let a : m ≤ 16777215 = omega arith in
    let b : 8388608 * (1 + k % 2) ≤ 16777216 = omega arith in
    let c = mul-le-mul a b in
    omega arith

-- ---- what stays true while the digits move up: m * 2 ^ k are b's units, times 2 ^ 24
abbrev pub Moved : ℕ → ℕ → ℕ → Type 0
Moved b m k = (m * 2 ^ k ≡ units_of b * 2 ^ 24) × (0 < m) × (m < 2 ^ 24) × (k ≤ 277)

pub begun_high : (b : ℕ) → b < 2139095040 → 0 < b / 8388608 → Moved b (b % 8388608 + 8388608) (b / 8388608 + 23)
begun_high b h e = (start_high (b / 8388608) (b % 8388608) e, omega arith, omega arith, omega arith)

pub begun_low : (b : ℕ) → 0 < b → b / 8388608 ≡ 0 → Moved b (b % 8388608) 24
begun_low b h z = (start_low (b % 8388608) ∙ ap (λ (x : ℕ). magnitude x (b % 8388608) * 2 ^ 24) (sym z), omega arith, omega arith, omega arith)

pub can_fall : (b m k : ℕ) → 0 < b → Moved b m k → m < 2 ^ 23 → 0 < k
can_fall b m k p i h = some_left m k (units_of b) (units_pos b p) i.0 h

pub moved : (b m k : ℕ) → 0 < b → Moved b m k → m < 2 ^ 23 → Moved b (m * 2) (k - 1)
moved b m k p i h = (double m k (units_of b * 2 ^ 24) (can_fall b m k p i h) i.0, omega arith, omega arith, omega arith)

pub finished : (b m k r : ℕ) → Moved b m k → 2 ^ 23 ≤ m → NearRoot (radicand (m, k)) r → Scaled b ((k / 2 + 51) * 8388608 + r)
finished b m k r i g h =
    record {
      n = radicand (m, k);
      k = k / 2 + 51;
      r = r;
      near = h;
      large = radicand_low m k g;
      pattern = refl;
      small = omega arith;
      scale = scaled m k (units_of b) (23 + k % 2) (k / 2 + 51) i.0 (omega arith) ∙ ap (λ (w : ℕ). m * w * (2 ^ (k / 2 + 51) * 2 ^ (k / 2 + 51))) (shift_is k);
    }

-- ---- the steps of `Root`
-- between r, which is not too large, and r + 2 ^ j, which is
abbrev Narrowed : ℕ → ℕ → ℕ → Type 0
Narrowed n j r = (r * r < n + r) × (n + (r + 2 ^ j) ≤ (r + 2 ^ j) * (r + 2 ^ j)) × (2 ^ 23 ≤ r) × (r + 2 ^ j ≤ 2 ^ 24)

seek_near : (j n r : ℕ) → Narrowed n j r → NearRoot n (seek j n r)
unfolding seek
seek_near zero n r i = record { above = i.0; below = let h = simp (add-mul, mul-add, mul-one, one-mul) at i.1 in omega arith; long = i.2; short = omega arith }
seek_near (suc j) n r i = go (ltb (m * m) (n + m)) (ltb→lt (m * m) (n + m)) (nltb→le (m * m) (n + m)) (seek_near j n)
  where
    m : ℕ
    m = r + 2 ^ j

    twice : m + 2 ^ j ≡ r + 2 ^ suc j
    twice = let e = pow-succ' 2 j in omega arith

    go : (b : Bool) → (T b → m * m < n + m) → (T (not b) → n + m ≤ m * m) → ((x : ℕ) → Narrowed n j x → NearRoot n (seek j n x)) → NearRoot n (seek j n (cond b m r))
    go true h k ih = ih m (h tt, rw twice i.1, omega (arith, i.2), rw twice i.3)
    go false h k ih = ih r (i.0, k tt, i.2, let e = twice in omega (arith, i.3))

found : (n : ℕ) → 2 ^ 46 ≤ n → n + 2 ^ 24 ≤ 2 ^ 48 → NearRoot n (seek 23 n (2 ^ 23))
found n a b = seek_near 23 n (2 ^ 23) (let h : 2 ^ 46 < n + 2 ^ 23 = omega arith in h, b, le_refl (2 ^ 23), le_refl (2 ^ 24))

normal_moved : (j b m k : ℕ) → 0 < b → Moved b m k → 2 ^ 23 ≤ m * 2 ^ j → Moved b (normal j m k).0 (normal j m k).1 × (2 ^ 23 ≤ (normal j m k).0)
unfolding normal
normal_moved zero b m k p i h = (i, le_trans h (le_of_eq (mul-one m)))
normal_moved (suc j) b m k p i h = go (ltb m 8388608) (ltb→lt m 8388608) (nltb→le m 8388608) (λ l. normal_moved j b (m * 2) (k - 1) p (moved b m k p i l) more)
  where
    more : 2 ^ 23 ≤ m * 2 * 2 ^ j
    more = le_trans h (le_of_eq (ap (λ (w : ℕ). m * w) (pow-succ' 2 j) ∙ sym (mul_assoc m 2 (2 ^ j))))

    go : (t : Bool) → (T t → m < 8388608) → (T (not t) → 8388608 ≤ m) → (m < 8388608 → Moved b (normal j (m * 2) (k - 1)).0 (normal j (m * 2) (k - 1)).1 × (2 ^ 23 ≤ (normal j (m * 2) (k - 1)).0))
        → Moved b (cond t (normal j (m * 2) (k - 1)) (m, k)).0 (cond t (normal j (m * 2) (k - 1)) (m, k)).1 × (2 ^ 23 ≤ (cond t (normal j (m * 2) (k - 1)) (m, k)).0)
    go true l g ih = ih (l tt)
    go false l g ih = (i, g tt)

digits_moved : (b : ℕ) → 0 < b → b < 2139095040 → Moved b (digits b).0 (digits b).1 × (2 ^ 23 ≤ (digits b).0)
unfolding digits
digits_moved b p h = go (eqb (b / 8388608) 0) (eqb→eq (b / 8388608) 0) (λ t e. T_not (eqb (b / 8388608) 0) t (eq→eqb e))
  where
    go : (t : Bool) → (T t → b / 8388608 ≡ 0) → (T (not t) → b / 8388608 ≡ 0 → ⊥)
        → Moved b (cond t (normal 23 (b % 8388608) 24) (b % 8388608 + 8388608, b / 8388608 + 23)).0 (cond t (normal 23 (b % 8388608) 24) (b % 8388608 + 8388608, b / 8388608 + 23)).1
        × (2 ^ 23 ≤ (cond t (normal 23 (b % 8388608) 24) (b % 8388608 + 8388608, b / 8388608 + 23)).0)
    go true e n = let z = e tt in normal_moved 23 b (b % 8388608) 24 p (begun_low b p z) (omega arith)
    go false e n = let z = n tt in (begun_high b h (omega arith), omega arith)

pub root_bits_scaled : (b : ℕ) → 0 < b → b < 2139095040 → Scaled b (root_bits b)
unfolding root_bits
root_bits_scaled b p h =
    let d = digits_moved b p h in
    let m = (digits b).0 in
    let k = (digits b).1 in
    finished b m k (seek 23 (radicand (m, k)) (2 ^ 23)) d.0 d.1 (found (radicand (m, k)) (radicand_low m k d.1) (radicand_high m k d.0.2))

-- what the test of a root says
pub near_root : (n r : ℕ) → near n r ≡ true → NearRoot n r
near_root n r e =
    let A = leb (2 ^ 23) r in
    let B = ltb r (2 ^ 24) in
    let C = ltb (r * r) (n + r) in
    let D = leb n (r * r + r) in
    let t : T (A && B && C && D) = subst T (sym e) tt in
    let u = and_l (A && B && C) D t in
    let v = and_l (A && B) C u in
    record {
      above = ltb→lt (r * r) (n + r) (and_r (A && B) C u);
      below = leb→le n (r * r + r) (and_r (A && B && C) D t);
      long = leb→le (2 ^ 23) r (and_l A B v);
      short = ltb→lt r (2 ^ 24) (and_r A B v);
    }
