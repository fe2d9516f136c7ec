-- Where a nested sum may end early: what further steps would add is cut away. Assumes nothing.
use Rattle.std.specs.Prelude.{ℕ, ◌+◌, ◌*◌, ◌/◌, ◌≤◌, ◌<◌, ◌≡◌, refl, List, ◌∷◌, T}
use Rattle.std.proofs.Common.{sym, ap, ◌∙◌, zero-mul, mul-le-mul, mul-le-mul_left, div-mul-le_self, arith}
use Rattle.std.proofs.Math.Nat.{zero-div, div-div-eq-div-mul}
use Rattle.trig.specs.Steps.{nest}
use Rattle.trig.specs.Evaluation.{onto}
use Rattle.trig.proofs.Laws.Nest.{most, positive, nest_most}
use Rattle.trig.proofs.Laws.Quotient.{div_is}

-- at a fourth power of 0 a step adds nothing
pub onto_zero : (p d : ℕ) → onto 0 p d ≡ 1073741824
onto_zero p d = rw (zero-mul p, zero-div (8388608 * d)) refl

-- with a divisor of 512 at least a step's result is at most 2 ^ 31
pub onto_most : (v p d : ℕ) → v ≤ 2147483648 → p ≤ 2147483648 → 512 ≤ d → onto v p d ≤ 2147483648
onto_most v p d a b h =
    let q = v * p / (8388608 * d) in
    omega (arith, div-mul-le_self (v * p) (8388608 * d), mul-le-mul a b, mul-le-mul_left q h)

-- below 2 ^ 14 a step with a divisor of 11880 or more adds too little for the next step to notice
pub unnoticed : (v p d : ℕ) → v < 16384 → p ≤ 2147483648 → 11880 ≤ d → v * 1073741824 / 8388608 ≡ v * onto v p d / 8388608
unnoticed v p d small m h =
    let r = v * p / (8388608 * d) in
    let below : v ≤ 16384 = omega arith in
    let a : r * 8388608 * 11880 ≤ 16384 * 2147483648 = omega (arith, mul-le-mul_left (r * 8388608) h, div-mul-le_self (v * p) (8388608 * d), mul-le-mul below m) in
    let most : r ≤ 353 = omega (arith, a) in
    let b : v * r ≤ 16384 * 353 = mul-le-mul below most in
    div_is (v * 1073741824) 8388608 (v * 128) (omega arith) (omega arith) ∙ sym (div_is (v * onto v p d) 8388608 (v * 128) (omega arith) (omega (arith, b)))

-- A step notices no more than the 2 ^ 23rd part of its product: so the two outermost steps make the whole sum of any q that has it in common with the inner
-- steps' sum
early : (v q d e r : ℕ) (ds : List ℕ) → v * q / 8388608 ≡ v * nest v ds / 8388608 → r ≡ onto v (onto v q d) e → r ≡ nest v (e ∷ d ∷ ds)
unfolding nest
early v q d e r ds h is =
    is ∙ ap (λ (x : ℕ). onto v (1073741824 + x) e) (sym (div-div-eq-div-mul (v * q) 8388608 d) ∙ ap (λ (x : ℕ). x / d) h ∙ div-div-eq-div-mul (v * nest v ds) 8388608 d)

-- and that sum has the bound of its divisors
pub whole_sum : (v q d e r : ℕ) (ds : List ℕ) → v ≤ 2147483648 → T (positive (e ∷ d ∷ ds)) → v * q / 8388608 ≡ v * nest v ds / 8388608 → r ≡ onto v (onto v q d) e → (r ≡ nest v (e ∷ d ∷ ds)) × (r ≤ most (e ∷ d ∷ ds))
whole_sum v q d e r ds h p same is = let w = early v q d e r ds same is in (w, rw w (nest_most v h (e ∷ d ∷ ds) p))
