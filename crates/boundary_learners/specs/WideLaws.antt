-- The two words of a number stand for it, and any two words are those of the number that they stand for. Assumes nothing.
use Rattle.std.specs.Prelude.{ℕ, ◌<◌, ◌≡◌}
use Rattle.std.proofs.Common.{arith}
use Rattle.boundary_learners.specs.Wide.{wide, low, high}

pub wide_words : (n : ℕ) → wide (low n) (high n) ≡ n
wide_words n = omega arith

pub words_wide : (l h : ℕ) → l < 4294967296 → (low (wide l h) ≡ l) × (high (wide l h) ≡ h)
words_wide l h p = (omega arith, omega arith)
