-- The straight line between two entries, over whole numbers: its cut lies between the two, and within two units of the line at an angle whose cut n is. Assumes nothing.
use Rattle.std.specs.Prelude.{ℕ, ◌+◌, ◌-◌, ◌*◌, ◌/◌, ◌≤◌, ◌≡◌}
use Rattle.std.proofs.Common.{ap, subst, inl, inr, mul-le-mul_left, mul-le-mul_right, le_of_lt, div-mul-le_self, arith, lit<}
use Rattle.std.proofs.Math.Nat.{le_of_mul-le-mul_left, lt-div-mul-add, mul-sub}
use Rattle.trig.specs.Difference.{Within}
use Rattle.trig.specs.Table.{Between}
use Rattle.trig.proofs.Laws.Circle.{split}

-- ---- the way from a to b, times whole, where p of whole is gone
abbrev way : ℕ → ℕ → ℕ → ℕ → ℕ
way whole a b p = a * (whole - p) + b * p

rises : (whole a g p : ℕ) → p ≤ whole → way whole a (a + g) p ≡ a * whole + g * p
rises whole a g p h = let m = mul-le-mul_left a h in omega (arith, mul-sub a whole p)

falls : (whole b g p : ℕ) → p ≤ whole → way whole (b + g) b p + g * p ≡ (b + g) * whole
falls whole b g p h = let m = mul-le-mul_left (b + g) h in omega (arith, mul-sub (b + g) whole p)

-- ---- an angle has gone on by rest of d, and p of 2 ^ 20 is its cut
pub record Gone (p rest d : ℕ) : Type 0 where
  pub low : p * d ≤ rest * 1048576
  pub high : rest * 1048576 ≤ p * d + d

-- what is said of t, at rest of d of the way from a to b
pub record OnLine (a b rest d t : ℕ) : Type 0 where
  -- between the two, ends included
  pub between : Between a b t
  -- within two units of the exact line, both sides times d
  pub near : Within (t * d) (a * (d - rest) + b * rest) (2 * d)

-- t is the cut of x, which 2 ^ 20 times the line l / d is to within a unit
cut_near : (x l d : ℕ) → Within (x * d) (1048576 * l) (1048576 * d) → Within (x / 1048576 * d) l (2 * d)
cut_near x l d w =
    let low = mul-le-mul_right d (div-mul-le_self x 1048576) in
    let high = mul-le-mul_right d (le_of_lt (lt-div-mul-add {a = x} {b = 1048576} (lit< tt))) in
    (le_of_mul-le-mul_left {k = 1048576} (omega (arith, w)) (lit< tt), le_of_mul-le-mul_left {k = 1048576} (omega (arith, w)) (lit< tt))

module _ (p rest d : ℕ) (part : p ≤ 1048576) (some : rest ≤ d) (w : Gone p rest d) (g : ℕ) (step : g ≤ 1048576) where
  -- what g times the two ways gone differ by
  gone_low : g * (p * d) ≤ g * (rest * 1048576)
  gone_low = mul-le-mul_left g w.low

  gone_high : g * (rest * 1048576) ≤ g * (p * d) + 1048576 * d
  gone_high = omega (arith, mul-le-mul_left g w.high, mul-le-mul_right d step)

  gone_most : g * p ≤ g * 1048576
  gone_most = mul-le-mul_left g part

  -- up from a, or down to b
  rising : (a : ℕ) → OnLine a (a + g) rest d (way 1048576 a (a + g) p / 1048576)
  rising a =
      let e = rises 1048576 a g p part in
      let f = rises d a g rest some in
      let ed = ap (λ (z : ℕ). z * d) e in
      record {
        between = inl (omega (arith, gone_most), omega (arith, gone_most));
        near = cut_near (way 1048576 a (a + g) p) (way d a (a + g) rest) d (omega (arith, gone_low, gone_high), omega (arith, gone_low, gone_high));
      }

  falling : (b : ℕ) → OnLine (b + g) b rest d (way 1048576 (b + g) b p / 1048576)
  falling b =
      let e = falls 1048576 b g p part in
      let f = falls d b g rest some in
      let ed = ap (λ (z : ℕ). z * d) e in
      record {
        between = inr (omega (arith, gone_most), omega (arith, gone_most));
        near = cut_near (way 1048576 (b + g) b p) (way d (b + g) b rest) d (omega (arith, gone_low, gone_high), omega (arith, gone_low, gone_high));
      }

pub on_line : (p rest d : ℕ) → p ≤ 1048576 → rest ≤ d → Gone p rest d → (a b : ℕ) → Within a b 1048576 → OnLine a b rest d ((a * (1048576 - p) + b * p) / 1048576)
on_line p rest d part some w a b near =
    elim (split a b) [
      | inl h ↦ subst (λ (z : ℕ). OnLine a z rest d (way 1048576 a z p / 1048576)) (omega arith) (rising p rest d part some w (b - a) (omega arith) a)
      | inr h ↦ subst (λ (z : ℕ). OnLine z b rest d (way 1048576 z b p / 1048576)) (omega arith) (falling p rest d part some w (a - b) (omega arith) b)
    ]
