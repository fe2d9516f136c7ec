-- The steps' results lie within 2 ^ -23 of S and C, and are at most 1 in size. Assumes nothing.
use Rattle.std.specs.Prelude.{ℕ, ◌+◌, ◌-◌, ◌*◌, ◌/◌, ◌≤◌, ◌<◌, ◌≡◌}
use Rattle.std.proofs.Common.{ap, inl, inr, add-zero, mul-zero, mul-le-mul_left, mul-le-mul_right, div-mul-le_self, le_of_lt, le_of_mul-le-mul_right, add-sub_of_le, sub-eq-zero_of_le, arith, lit<}
use Rattle.std.proofs.Math.Nat.{sub-zero, one-mul, zero-div, lt-div-mul-add, le_of_mul-le-mul_left}
use Rattle.trig.specs.Difference.{Within}
use Rattle.trig.specs.Series.{scale, sin⁺, sin⁻, cos⁺, cos⁻}
use Rattle.trig.specs.Steps.{sin_up, sin_down, cos_up, cos_down, raised_sine, raised_cosine, Balanced}
use Rattle.trig.proofs.Laws.Circle.{split, sin_top, sin_bottom, cos_top, cos_bottom}
use Rattle.trig.proofs.Laws.Parts.{Part, sin_plus, sin_minus, cos_plus, cos_minus}

-- ---- the difference, cut to a unit u of 2 ^ -24
cut : (f u d b e s r P M D : ℕ) → f * (b + d) * D ≤ P * (u * 16777216) → P * (u * 16777216) ≤ f * (b + d + e) * D → f * b * D ≤ M * (u * 16777216) → M * (u * 16777216) ≤ f * (b + s) * D
    → 4 * (f * e) < 3 * u → 4 * (f * s) < 3 * u → r * u ≤ f * d → f * d ≤ (r + 1) * u → 0 < u → Within (r * D + 16777216 * M) (16777216 * P) (2 * D)
cut f u d b e s r P M D pl ph ml mh fe fs rl rh up =
    (le_of_mul-le-mul_left {k = u} (omega (arith, pl, mh, mul-le-mul_right D fs, mul-le-mul_right D rl)) up, le_of_mul-le-mul_left {k = u} (omega (arith, ph, ml, mul-le-mul_right D fe, mul-le-mul_right D rh)) up)

at_most : (f u d b s r P M D : ℕ) → f * (b + d) * D ≤ P * (u * 16777216) → M * (u * 16777216) ≤ f * (b + s) * D → 4 * (f * s) < 3 * u → r * u ≤ f * d → 0 < D → 67108864 * P ≤ 67108865 * D + 67108864 * M → r ≤ 16777216
at_most f u d b s r P M D pl mh fs rl dp t =
    let k : r * u * 4 * D ≤ (u * 67108864 + u + 4 * (f * s)) * D = omega (arith, pl, mh, mul-le-mul_right D rl, mul-le-mul_left u t) in
    let l : r * u * 4 ≤ u * 67108864 + u + 4 * (f * s) = le_of_mul-le-mul_right k dp in
    elim (split r 16777216) [ inl h ↦ h | inr h ↦ omega (arith, l, mul-le-mul_right u h) ]

pub scale_pos : 0 < scale
unfolding scale
scale_pos = lit< tt

-- ---- a result's size r, in units of 2 ^ -24, for the fraction (P - M) / scale that is not below zero
record Sized (P M r : ℕ) : Type 0 where
  near : Within (r * scale + 16777216 * M) (16777216 * P) (2 * scale)
  at_most_one : r ≤ 16777216

-- a result t, raised by 2: it is within 2 ^ -23 of (P - M) / scale, and at most 1 in size
pub record Raised (P M t : ℕ) : Type 0 where
  pub near : Within (t * scale + 16777216 * M) (16777216 * P + 33554432 * scale) (2 * scale)
  pub above : 16777216 ≤ t
  pub below : t ≤ 50331648

abbrev Most : ℕ → ℕ → Type 0
Most P M = 67108864 * P ≤ 67108865 * scale + 67108864 * M

sized : (f u a b e s P M : ℕ) → b ≤ a → Part f u a e P → Part f u b s M → 4 * (f * e) < 3 * u → 4 * (f * s) < 3 * u → 0 < u → Most P M → Sized P M (f * (a - b) / u)
sized f u a b e s P M h p m fe fs up t =
    let d = a - b in
    let r = f * d / u in
    let ab : b + d ≡ a = add-sub_of_le h in
    let rl : r * u ≤ f * d = div-mul-le_self (f * d) u in
    let rh : f * d ≤ (r + 1) * u = omega (arith, lt-div-mul-add {a = f * d} up) in
    let pl : f * (b + d) * scale ≤ P * (u * 16777216) = rw ab p.0 in
    let ph : P * (u * 16777216) ≤ f * (b + d + e) * scale = rw ab p.1 in
    record { near = cut f u d b e s r P M scale pl ph m.0 m.1 fe fs rl rh up; at_most_one = at_most f u d b s r P M scale pl m.1 fs rl scale_pos t }

raised_up : (r P M : ℕ) → Sized P M r → Raised P M (33554432 + r)
raised_up r P M w = let v = w.near in record { near = (omega (arith, v.0), omega (arith, v.1)); above = omega arith; below = omega (arith, w.at_most_one) }

raised_down : (r P M : ℕ) → Sized M P r → Raised P M (33554432 - r)
raised_down r P M w =
    let v = w.near in
    let t = 33554432 - r in
    let e : t + r ≡ 33554432 = omega (arith, w.at_most_one) in
    let g : t * scale + r * scale ≡ 33554432 * scale = omega (arith, ap (λ (k : ℕ). k * scale) e) in
    record { near = (omega (arith, g, v.1), omega (arith, g, v.0)); above = omega (arith, w.at_most_one); below = omega arith }

pub none : (f u a b : ℕ) → a ≤ b → f * (a - b) / u ≡ 0
none f u a b h = rw (sub-eq-zero_of_le h, mul-zero f) (zero-div u)

raised : (f u a b e s P M : ℕ) → Part f u a e P → Part f u b s M → 4 * (f * e) < 3 * u → 4 * (f * s) < 3 * u → 0 < u → Most P M → Most M P → Raised P M (33554432 + f * (a - b) / u - f * (b - a) / u)
raised f u a b e s P M p m fe fs up t k =
    elim (split b a) [
      | inl o ↦ rw (none f u b a o, sub-zero) (raised_up (f * (a - b) / u) P M (sized f u a b e s P M o p m fe fs up t))
      | inr o ↦ rw (none f u a b (le_of_lt o), add-zero 33554432) (raised_down (f * (b - a) / u) P M (sized f u b a s e M P (le_of_lt o) m p fs fe up k))
    ]

balanced : (f u a b e s P M : ℕ) → Part f u a e P → Part f u b s M → 4 * (f * e) < 3 * u → 4 * (f * s) < 3 * u → 0 < u → Most P M → Most M P → Balanced (f * (a - b) / u) (f * (b - a) / u)
balanced f u a b e s P M p m fe fs up t k =
    elim (split b a) [
      | inl o ↦ record { over_most = (sized f u a b e s P M o p m fe fs up t).at_most_one; under_most = rw (none f u b a o) (omega arith) }
      | inr o ↦ record { over_most = rw (none f u a b (le_of_lt o)) (omega arith); under_most = (sized f u b a s e M P (le_of_lt o) m p fs fe up k).at_most_one }
    ]

-- ---- the sine and the cosine
module _ (n : ℕ) (h : n ≤ 1073741824) where
  pub sine_raised : Raised (sin⁺ n) (sin⁻ n) (raised_sine n)
  unfolding raised_sine
  sine_raised = raised n 17179869184 (sin_up n) (sin_down n) 9 10 (sin⁺ n) (sin⁻ n) (sin_plus n h) (sin_minus n h) (omega (arith, h)) (omega (arith, h)) (lit< tt) (sin_top n h) (sin_bottom n h)

  pub cosine_raised : Raised (cos⁺ n) (cos⁻ n) (raised_cosine n)
  unfolding raised_cosine
  cosine_raised = rw (one-mul (cos_up n - cos_down n), one-mul (cos_down n - cos_up n)) at (raised 1 64 (cos_up n) (cos_down n) 41 37 (cos⁺ n) (cos⁻ n) (cos_plus n h) (cos_minus n h) (lit< tt) (lit< tt) (lit< tt) (cos_top n h) (cos_bottom n h))

  pub sine_balanced : Balanced (n * (sin_up n - sin_down n) / 17179869184) (n * (sin_down n - sin_up n) / 17179869184)
  sine_balanced = balanced n 17179869184 (sin_up n) (sin_down n) 9 10 (sin⁺ n) (sin⁻ n) (sin_plus n h) (sin_minus n h) (omega (arith, h)) (omega (arith, h)) (lit< tt) (sin_top n h) (sin_bottom n h)

  pub cosine_balanced : Balanced (1 * (cos_up n - cos_down n) / 64) (1 * (cos_down n - cos_up n) / 64)
  cosine_balanced = balanced 1 64 (cos_up n) (cos_down n) 41 37 (cos⁺ n) (cos⁻ n) (cos_plus n h) (cos_minus n h) (lit< tt) (lit< tt) (lit< tt) (cos_top n h) (cos_bottom n h)
