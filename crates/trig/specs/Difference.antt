-- Whole numbers of either sign, each as a difference of two natural numbers, with what the statements about them use. Definitions only.
use Rattle.std.specs.Prelude.{ℕ, ◌+◌, ◌*◌, ◌≤◌}

-- p minus m is the whole number p - m
infix 4 ◌minus◌
pub data Difference : Type 0 where
  ◌minus◌ : ℕ → ℕ → Difference

infixl 6 ◌⊞◌ ◌⊟◌
infixl 7 ◌⊠◌ ◌·◌
abbrev pub ◌⊞◌ : Difference → Difference → Difference
(p minus m) ⊞ (q minus r) = p + q minus m + r

abbrev pub ◌⊟◌ : Difference → Difference → Difference
(p minus m) ⊟ (q minus r) = p + r minus m + q

abbrev pub ◌⊠◌ : Difference → Difference → Difference
(p minus m) ⊠ (q minus r) = p * q + m * r minus p * r + m * q

abbrev pub ◌·◌ : ℕ → Difference → Difference
k · (p minus m) = k * p minus k * m

-- a and b differ by at most c
abbrev pub Within : ℕ → ℕ → ℕ → Type 0
Within a b c = (a ≤ b + c) × (b ≤ a + c)

-- |d| ≤ c
abbrev pub SizeAtMost : Difference → ℕ → Type 0
SizeAtMost (p minus m) c = Within p m c

-- d ≥ 0
abbrev pub AtLeastZero : Difference → Type 0
AtLeastZero (p minus m) = m ≤ p
