-- `nest` against the exact nested sum: it is never above, and at most `slack` units below. Assumes nothing.
use Rattle.std.specs.Prelude.{ℕ, ◌+◌, ◌*◌, ◌/◌, ◌≤◌, ◌<◌, Bool, true, ◌&&◌, T, ltb}
use mathlib.Core.List.{List, [], ◌∷◌}
use Rattle.std.proofs.Common.{mul-le-mul, div-mul-le_self, le-div_iff_mul-le, le_trans, arith}
use Rattle.std.proofs.Math.Nat.{mul-le-mul_right, lt-div-mul-add}
use Rattle.std.proofs.Math.Dec.{ltb→lt, lit≤}
use Rattle.std.specs.Float.Ieee.Fits.{and_l, and_r}
use Rattle.trig.specs.Steps.{nest}

-- ---- the exact sum is top / bottom, with x ^ 4 = X / E
abbrev pub bottom : ℕ → List ℕ → ℕ
bottom E [] = 1
bottom E (d ∷ ds) = E * d * bottom E ds

abbrev pub top : ℕ → ℕ → List ℕ → ℕ
top E X [] = 1
top E X (d ∷ ds) = E * d * bottom E ds + X * top E X ds

-- ---- what `nest` is at most, and how far below it is at most
abbrev pub most : List ℕ → ℕ
most [] = 1073741824
most (d ∷ ds) = 1073741824 + 2147483648 * most ds / (8388608 * d)

abbrev pub slack : List ℕ → ℕ
slack [] = 0
slack (d ∷ ds) = (2147483648 * slack ds + 3 * (most ds + slack ds)) / (8388608 * d) + 1 + 1

abbrev pub positive : List ℕ → Bool
positive [] = true
positive (d ∷ ds) = ltb 0 d && positive ds

pub div_mono : (a b k : ℕ) → 0 < k → a ≤ b → a / k ≤ b / k
div_mono a b k K h = (le-div_iff_mul-le K).1 (le_trans (div-mul-le_self a k) h)

-- ---- one step
step_up : (E X v p q d D H : ℕ) → v * E ≤ X * 8388608 → p * D ≤ H * 1073741824 → q * (8388608 * d) ≤ v * p → (1073741824 + q) * (E * d * D) ≤ (E * d * D + X * H) * 1073741824
step_up E X v p q d D H a b c = omega (arith, mul-le-mul_right (E * D) c, mul-le-mul a b)

step_lo : (E X v p q d D H e f : ℕ) → X * 8388608 ≤ (v + 3) * E → H * 1073741824 ≤ (p + e) * D → v * p ≤ (q + 1) * (8388608 * d) → v * e + 3 * (p + e) ≤ f * (8388608 * d)
    → (E * d * D + X * H) * 1073741824 ≤ (1073741824 + q + (f + 1)) * (E * d * D)
step_lo E X v p q d D H e f a b c g = omega (arith, mul-le-mul_right (E * D) c, mul-le-mul_right (E * D) g, mul-le-mul a b)

pub nest_most : (v : ℕ) → v ≤ 2147483648 → (ds : List ℕ) → T (positive ds) → nest v ds ≤ most ds
unfolding nest
nest_most v cap [] p = lit≤ tt
nest_most v cap (d ∷ ds) p =
    omega (arith, div_mono (v * nest v ds) (2147483648 * most ds) (8388608 * d) (omega (arith, ltb→lt 0 d (and_l (ltb 0 d) (positive ds) p))) (mul-le-mul cap (nest_most v cap ds (and_r (ltb 0 d) (positive ds) p))))

module _ (E X v : ℕ) (under : v * E ≤ X * 8388608) (over : X * 8388608 ≤ (v + 3) * E) (cap : v ≤ 2147483648) where
  pub nest_up : (ds : List ℕ) → nest v ds * bottom E ds ≤ top E X ds * 1073741824
  unfolding nest
  nest_up [] = lit≤ tt
  nest_up (d ∷ ds) = step_up E X v (nest v ds) (v * nest v ds / (8388608 * d)) d (bottom E ds) (top E X ds) under (nest_up ds) (div-mul-le_self (v * nest v ds) (8388608 * d))

  pub nest_lo : (ds : List ℕ) → T (positive ds) → top E X ds * 1073741824 ≤ (nest v ds + slack ds) * bottom E ds
  unfolding nest
  nest_lo [] p = lit≤ tt
  nest_lo (d ∷ ds) p =
      let k : 0 < 8388608 * d = omega (arith, ltb→lt 0 d (and_l (ltb 0 d) (positive ds) p)) in
      let t = and_r (ltb 0 d) (positive ds) p in
      let n = nest v ds in
      let e = slack ds in
      let r = 2147483648 * e + 3 * (most ds + e) in
      step_lo E X v n (v * n / (8388608 * d)) d (bottom E ds) (top E X ds) e (r / (8388608 * d) + 1) over (nest_lo ds t)
      (omega (arith, lt-div-mul-add {a = v * n} k))
      (omega (arith, mul-le-mul_right e cap, nest_most v cap ds t, lt-div-mul-add {a = r} k))
