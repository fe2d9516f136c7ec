-- Polynomials with coefficients in ℕ, as lists, the constant first. Assumes nothing.
use Rattle.std.specs.Prelude.{ℕ, zero, suc, ◌+◌, ◌-◌, ◌*◌, ◌^◌, ◌≤◌, ◌≡◌, Bool, true, ◌&&◌, List, [], ◌∷◌, T, leb}
use native.Mathlib.Nat.{mul-le-mul, mul-le-mul_left, le_refl, pow-suc}
use Rattle.std.proofs.Common.{arith, leb→le}
use Rattle.std.specs.Float.Ieee.Fits.{and_l, and_r}

abbrev pub at : ℕ → List ℕ → ℕ
at n [] = 0
at n (c ∷ cs) = c + n * at n cs

infixl 6 ◌+ₚ◌
abbrev pub ◌+ₚ◌ : List ℕ → List ℕ → List ℕ
[] +ₚ q = q
(a ∷ p) +ₚ [] = a ∷ p
(a ∷ p) +ₚ (b ∷ q) = (a + b) ∷ (p +ₚ q)

abbrev pub times : ℕ → List ℕ → List ℕ
times k [] = []
times k (a ∷ p) = (k * a) ∷ times k p

abbrev pub shift : ℕ → List ℕ → List ℕ
shift zero p = p
shift (suc k) p = 0 ∷ shift k p

infixl 7 ◌×ₚ◌
abbrev pub ◌×ₚ◌ : List ℕ → List ℕ → List ℕ
[] ×ₚ q = []
(a ∷ p) ×ₚ q = times a q +ₚ (0 ∷ (p ×ₚ q))

pub at_add : (n : ℕ) (p q : List ℕ) → at n (p +ₚ q) ≡ at n p + at n q
at_add n [] q = omega arith
at_add n (a ∷ p) [] = omega arith
at_add n (a ∷ p) (b ∷ q) = rw (at_add n p q) (omega arith)

pub at_times : (n k : ℕ) (p : List ℕ) → at n (times k p) ≡ k * at n p
at_times n k [] = omega arith
at_times n k (a ∷ p) = rw (at_times n k p) (omega arith)

pub at_shift : (n k : ℕ) (p : List ℕ) → at n (shift k p) ≡ n ^ k * at n p
at_shift n zero p = omega (arith, pow_zero' n)
  where
    pow_zero' : (m : ℕ) → m ^ 0 * at n p ≡ at n p
    pow_zero' m = rw native.Mathlib.Nat.pow-zero (omega arith)
at_shift n (suc k) p = rw (at_shift n k p, pow-suc) (omega arith)

pub at_mul : (n : ℕ) (p q : List ℕ) → at n (p ×ₚ q) ≡ at n p * at n q
at_mul n [] q = omega arith
at_mul n (a ∷ p) q = rw (at_add n (times a q) (0 ∷ (p ×ₚ q)), at_times n a q, at_mul n p q) (omega arith)

-- coefficient by coefficient
abbrev pub below : List ℕ → List ℕ → Bool
below [] q = true
below (a ∷ p) [] = leb a 0 && below p []
below (a ∷ p) (b ∷ q) = leb a b && below p q

pub below_at : (n : ℕ) (p q : List ℕ) → T (below p q) → at n p ≤ at n q
below_at n [] q t = omega arith
below_at n (a ∷ p) [] t =
    let h = leb→le a 0 (and_l (leb a 0) (below p []) t) in
    let r : at n p ≤ 0 = below_at n p [] (and_r (leb a 0) (below p []) t) in
    omega (arith, mul-le-mul_left n r)
below_at n (a ∷ p) (b ∷ q) t =
    let h = leb→le a b (and_l (leb a b) (below p q) t) in
    let r = below_at n p q (and_r (leb a b) (below p q) t) in
    omega (arith, mul-le-mul_left n r)

pub at_mono : (n m : ℕ) (p : List ℕ) → n ≤ m → at n p ≤ at m p
at_mono n m [] h = le_refl 0
at_mono n m (a ∷ p) h = omega (arith, mul-le-mul h (at_mono n m p h))

-- what p has more than q, coefficient by coefficient
abbrev pub minus : List ℕ → List ℕ → List ℕ
minus [] q = []
minus (a ∷ p) [] = a ∷ p
minus (a ∷ p) (b ∷ q) = (a - b) ∷ minus p q

pub minus_at : (n : ℕ) (p q : List ℕ) → at n p ≤ at n q + at n (minus p q)
minus_at n [] q = omega arith
minus_at n (a ∷ p) [] = omega arith
minus_at n (a ∷ p) (b ∷ q) = omega (arith, mul-le-mul_left n (minus_at n p q))
