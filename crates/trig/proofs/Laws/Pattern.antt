-- A whole number of units of 2 ^ -24 as an f32: that number as an f32, with 24 less in its exponent's field. Assumes nothing.
use Prim.Native.Nat.{ℕ, zero, suc, ◌+◌, ◌-◌, ◌*◌, ◌/◌, ◌%◌, ◌^◌, ◌≤◌, ◌<◌}
use Rattle.std.specs.Prelude.{◌≡◌, Bool, not, cond, T, ltb, leb, ℤ, pos, negsuc, Float}
use Rattle.std.proofs.Math.Path.{refl, subst}
use Rattle.std.proofs.Common.{sym, ap, ◌∙◌, inl, inr, mul-one, mul-le-mul, mul_assoc, div-add-mod', div-mul-le_self, mod-lt, mul-le-mul_right, arith, lit<, lit≤, pow-add, pow_mono, pow_pos}
use Rattle.std.proofs.Math.Bool.{true, false}
use Rattle.std.proofs.Math.Nat.{eq_of_mul-eq-mul_right, lt-div-mul-add}
use borrow.Author.Tests.{le-leb, lt-leb, le-ltb, ltb-true, ltb-false}
use Rattle.std.proofs.Math.Arith.{digits_div, digits_mod}
use Rattle.std.proofs.Math.Dec.{lt→ltb, le→leb}
use Rattle.std.proofs.Math.IntN.{sub_ℕ}
use Rattle.std.specs.Int.Signed.{mag}
use Rattle.std.specs.Float.{nan, inf, fin}
use Rattle.std.specs.Float.Ieee.{binary32, round, of_bits, to_bits, of_int, nan_bits, is_nan, in_float, fits, neg, up, down}
use Rattle.std.specs.Float.Ieee.Back.{round_whole}
use Rattle.std.specs.Float.Ieee.Bits.{of_bits-fits, nan_bits_above}
use Rattle.std.specs.Float.Ieee.Exact.{HasValue}
use Rattle.std.specs.Float.Ieee.Fits.{cond-fits, down_pos, mul-fits, neg-fits, round-fits}
use Rattle.std.specs.Float.Ieee.Scale.{finite}
use Rattle.float.specs.Value.{f32}
use Rattle.float.specs.Exact.{value_unique}
use Rattle.float.specs.Bits.{size_bits, bits_value, pattern_value}
use Rattle.float.specs.Fraction.{neg_value}
use Rattle.float.specs.RootWhole.{magnitude}
use Rattle.float.specs.RootFloat.{finite_no_nan}
use Rattle.trig.specs.Angle.{small, lowered}
use Rattle.trig.proofs.Laws.Circle.{split}
use Rattle.trig.proofs.Laws.Results.{small_value}
use Rattle.trig.proofs.Laws.Units.{value_sign}

-- ---- two fractions of one float
value_finite : (x : Float) (s : Bool) (a c : ℕ) → HasValue x s a c → T (finite x)
value_finite nan s a c v = absurd v
value_finite (inf t) s a c v = absurd v
value_finite (fin t m e) s a c v = tt

crossed : (x : Float) (s r : Bool) (a c b d : ℕ) → HasValue x s a c → HasValue x r b d → a * d ≡ b * c
crossed nan s r a c b d v w = absurd v
crossed (inf t) s r a c b d v w = absurd v
crossed (fin t m e) s r a c b d v w =
    eq_of_mul-eq-mul_right (down e) (down_pos e) (a * d) (b * c) (omega (arith, ap (λ (x : ℕ). x * d) v.1, ap (λ (x : ℕ). x * c) w.1))

rescale : (x : Float) (s : Bool) (a c b d : ℕ) → 0 < c → b * c ≡ a * d → HasValue x s a c → HasValue x s b d
rescale nan s a c b d o h v = v
rescale (inf t) s a c b d o h v = v
rescale (fin t m e) s a c b d o h v =
    (v.0, eq_of_mul-eq-mul_right c o (m * up e * d) (b * down e) (omega (arith, ap (λ (x : ℕ). x * d) v.1, ap (λ (x : ℕ). x * down e) h)))

-- ---- a whole number's field is large, and with 24 less in it the value is a 2 ^ 24th
too_small : (m k w : ℕ) → 140737488355328 ≤ w → 0 < k → m < 140737488355328 → m ≡ k * w → ⊥
too_small m k w l o h e = omega (arith, mul-le-mul_right w o)

large : (x t k : ℕ) → t < 8388608 → 0 < k → magnitude x t ≡ k * 2 ^ 149 → 25 ≤ x
unfolding magnitude
large zero t k h o e = absurd (too_small t k (2 ^ 149) (lit≤ tt) o (omega arith) e)
large (suc x) t k h o e = elim (split 24 x) [ inl l ↦ omega arith | inr l ↦ absurd (few l) ]
  where
    few : x < 24 → ⊥
    few l =
        let p : 2 ^ x ≤ 2 ^ 23 = pow_mono {i = x} {j = 23} (omega arith) in
        let m : 8388608 + t ≤ 16777215 = omega arith in
        too_small ((8388608 + t) * 2 ^ x) k (2 ^ 149) (lit≤ tt) o (omega (arith, mul-le-mul m p)) e

lower : (x t : ℕ) → 25 ≤ x → magnitude x t ≡ magnitude (x - 24) t * 2 ^ 24
unfolding magnitude
lower zero t h = absurd (omega arith)
lower (suc x) t h =
    let e : suc x - 24 ≡ suc (x - 24) = omega arith in
    let p : 2 ^ x ≡ 2 ^ (x - 24) * 2 ^ 24 = ap (λ (y : ℕ). 2 ^ y) (back x (omega arith)) ∙ pow-add 2 (x - 24) 24 in
    rw (e, p) (sym (mul_assoc (8388608 + t) (2 ^ (x - 24)) (2 ^ 24)))
  where
    back : (x : ℕ) → 24 ≤ x → x ≡ x - 24 + 24
    back x h = omega arith

-- ---- the pattern of a whole number, with 24 less in its field
pub record Lowered (x : Float) (s : Bool) (k : ℕ) : Type 0 where
  pub least : 201326592 ≤ to_bits binary32 x
  pub no_nan : T (not (nan_bits binary32 (to_bits binary32 x - 201326592)))
  pub value : HasValue (of_bits binary32 (to_bits binary32 x - 201326592)) s k (2 ^ 24)

-- the fields of b, which is h * 2 ^ 31 + x * 2 ^ 23 + t, and of b with 24 less in x
record Fields (b x t : ℕ) : Type 0 where
  least : 201326592 ≤ b
  field : (b - 201326592) % 2147483648 / 8388608 ≡ x - 24
  digits : (b - 201326592) % 8388608 ≡ t
  sign : leb 2147483648 (b - 201326592) ≡ leb 2147483648 b

fields : (h x t : ℕ) → 25 ≤ x → x < 256 → t < 8388608 → Fields (h * 2147483648 + (x * 8388608 + t)) x t
fields h x t l m s =
    let r = (x - 24) * 8388608 + t in
    let e : h * 2147483648 + (x * 8388608 + t) - 201326592 ≡ h * 2147483648 + r = omega arith in
    let f : h * 2147483648 + (x * 8388608 + t) - 201326592 ≡ (h * 256 + (x - 24)) * 8388608 + t = omega arith in
    let small : r < 2147483648 = omega arith in
    let full : x * 8388608 + t < 2147483648 = omega arith in
    record {
      least = omega arith;
      field = ap (λ (b : ℕ). b % 2147483648 / 8388608) e ∙ ap (λ (y : ℕ). y / 8388608) (digits_mod h small) ∙ digits_div (x - 24) s;
      digits = ap (λ (b : ℕ). b % 8388608) f ∙ digits_mod (h * 256 + (x - 24)) s;
      sign = ap (leb 2147483648) e ∙ both h r (x * 8388608 + t) small full;
    }
  where
    both : (h r q : ℕ) → r < 2147483648 → q < 2147483648 → leb 2147483648 (h * 2147483648 + r) ≡ leb 2147483648 (h * 2147483648 + q)
    both zero r q a b = lt-leb 2147483648 (0 * 2147483648 + r) (omega arith) ∙ sym (lt-leb 2147483648 (0 * 2147483648 + q) (omega arith))
    both (suc h) r q a b = le-leb 2147483648 (suc h * 2147483648 + r) (omega arith) ∙ sym (le-leb 2147483648 (suc h * 2147483648 + q) (omega arith))

pub exponent_lowered : (x : Float) (s : Bool) (k : ℕ) → T (fits binary32 x) → HasValue x s k 1 → 0 < k → Lowered x s k
exponent_lowered x s k f v o =
    let b = to_bits binary32 x in
    let e = size_bits x / 8388608 in
    let t = size_bits x % 8388608 in
    let w = bits_value x f (value_finite x s k 1 v) in
    let mag : magnitude e t ≡ k * 2 ^ 149 = sym (mul-one (magnitude e t)) ∙ sym (crossed x s (leb 2147483648 b) k 1 (magnitude e t) (2 ^ 149) v w) in
    let tl : t < 8388608 = mod-lt (size_bits x) (lit< tt) in
    let l : 25 ≤ e = large e t k tl o mag in
    let top : size_bits x < 2147483648 = mod-lt b (lit< tt) in
    let m : e < 256 = omega (arith, div-mul-le_self (size_bits x) 8388608, top) in
    let is : b / 2147483648 * 2147483648 + (e * 8388608 + t) ≡ b = ap (λ (y : ℕ). b / 2147483648 * 2147483648 + y) (div-add-mod' (size_bits x) 8388608) ∙ div-add-mod' b 2147483648 in
    let g : Fields b e t = subst (λ (y : ℕ). Fields y e t) is (fields (b / 2147483648) e t l m tl) in
    let c = b - 201326592 in
    let low : c % 2147483648 / 8388608 < 255 = rw g.field (omega (arith, m)) in
    let sg : leb 2147483648 c ≡ s = g.sign ∙ sym (value_sign x (leb 2147483648 b) (magnitude e t) (2 ^ 149) w) ∙ value_sign x s k 1 v in
    let q : HasValue (of_bits binary32 c) s (magnitude (e - 24) t) (2 ^ 149) = rw (g.field, g.digits, sg) at (pattern_value c low) in
    let under : c % 2147483648 ≤ 2139095040 = omega (arith, low, lt-div-mul-add {a = c % 2147483648} {b = 8388608} (lit< tt)) in
    record {
      least = g.least;
      no_nan = rw (nan_bits_above binary32 c, le-ltb 2139095040 (c % 2147483648) under) tt;
      value = rescale (of_bits binary32 c) s (magnitude (e - 24) t) (2 ^ 149) k (2 ^ 24) (pow_pos 149) (sym mag ∙ lower e t l) q;
    }

small_fits : (k : ℕ) → T (fits binary32 (small k))
unfolding small
small_fits k = mul-fits binary32 (of_int binary32 (pos k)) (f32 0x33800000)

pub lowered_fits : (t : ℕ) → T (fits binary32 (lowered t))
unfolding lowered
lowered_fits t =
    cond-fits binary32 (ltb t 33554432) (neg (small (33554432 - t))) (small (t - 33554432)) (neg-fits binary32 (small (33554432 - t)) (small_fits (33554432 - t))) (small_fits (t - 33554432))

-- ---- the whole number t - 2 ^ 25
module _ (t : ℕ) (from : 16777216 ≤ t) (to : t ≤ 50331648) where
  whole : (b : Bool) → ltb t 33554432 ≡ b → HasValue (of_int binary32 (cond b (negsuc (33554432 - suc t)) (pos (t - 33554432)))) b (t - 33554432 + (33554432 - t)) 1
  unfolding of_int
  whole true e =
      let h = ltb-true t 33554432 e in
      subst (λ (k : ℕ). HasValue (round binary32 true (suc (33554432 - suc t)) 1) true k 1) (omega arith) (round_whole binary32 true (suc (33554432 - suc t)) (omega arith))
  whole false e =
      let h = ltb-false t 33554432 e in
      subst (λ (k : ℕ). HasValue (round binary32 false (t - 33554432) 1) false k 1) (omega arith) (round_whole binary32 false (t - 33554432) (omega arith))

  held : (b : Bool) → T (fits binary32 (of_int binary32 (cond b (negsuc (33554432 - suc t)) (pos (t - 33554432)))))
  unfolding of_int
  held true = round-fits binary32 true (suc (33554432 - suc t)) 1
  held false = round-fits binary32 false (t - 33554432) 1

  -- it may be cast
  cast : (b : Bool) → ltb t 33554432 ≡ b → T (in_float binary32 (cond b (negsuc (33554432 - suc t)) (pos (t - 33554432))))
  unfolding in_float
  cast true e = let h = ltb-true t 33554432 e in lt→ltb (33554432 - suc t) 16777216 (omega arith)
  cast false e = le→leb (t - 33554432) 16777216 (omega arith)

  in_range : (b : Bool) → ltb t 33554432 ≡ b → mag (cond b (negsuc (33554432 - suc t)) (pos (t - 33554432))) < 2147483648
  in_range true e = omega arith
  in_range false e = omega arith

  answered : (b : Bool) → ltb t 33554432 ≡ b → HasValue (cond b (neg (small (33554432 - t))) (small (t - 33554432))) b (t - 33554432 + (33554432 - t)) (2 ^ 24)
  answered true e =
      let h = ltb-true t 33554432 e in
      let k = 33554432 - t in
      subst (λ (y : ℕ). HasValue (neg (small k)) true y (2 ^ 24)) (omega arith) (neg_value (small k) false k (2 ^ 24) (small_value k (omega arith)))
  answered false e =
      let h = ltb-false t 33554432 e in
      let k = t - 33554432 in
      subst (λ (y : ℕ). HasValue (small k) false y (2 ^ 24)) (omega arith) (small_value k (omega arith))

  pub lowered_value : HasValue (lowered t) (ltb t 33554432) (t - 33554432 + (33554432 - t)) (2 ^ 24)
  unfolding lowered
  lowered_value = answered (ltb t 33554432) refl

  abbrev pub units : ℤ
  units = sub_ℕ t 33554432

  pub units_cast : T (in_float binary32 units)
  units_cast = cast (ltb t 33554432) refl

  pub units_range : mag units < 2147483648
  units_range = in_range (ltb t 33554432) refl

  pub units_no_nan : T (not (is_nan (of_int binary32 units)))
  units_no_nan = finite_no_nan (of_int binary32 units) (value_finite (of_int binary32 units) (ltb t 33554432) (t - 33554432 + (33554432 - t)) 1 (whole (ltb t 33554432) refl))

  module _ (some : t ≡ 33554432 → ⊥) where
    pub units_lowered : Lowered (of_int binary32 units) (ltb t 33554432) (t - 33554432 + (33554432 - t))
    units_lowered = exponent_lowered (of_int binary32 units) (ltb t 33554432) (t - 33554432 + (33554432 - t)) (held (ltb t 33554432)) (whole (ltb t 33554432) refl) (omega (arith, some))

    pub lowered_is : of_bits binary32 (to_bits binary32 (of_int binary32 units) - 201326592) ≡ lowered t
    lowered_is =
        value_unique binary32 (of_bits binary32 (to_bits binary32 (of_int binary32 units) - 201326592)) (lowered t) (ltb t 33554432)
        (t - 33554432 + (33554432 - t)) (2 ^ 24) (pow_pos 24) (of_bits-fits binary32 _) (lowered_fits t) units_lowered.value lowered_value

pub lowered_none : lowered 33554432 ≡ fin false 0 (pos 0)
unfolding lowered fits
lowered_none = value_unique binary32 (small 0) (fin false 0 (pos 0)) false 0 (2 ^ 24) (pow_pos 24) (small_fits 0) tt (small_value 0 (lit≤ tt)) (refl, refl)
