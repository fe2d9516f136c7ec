-- The arc tangent's answer over whole numbers, for the proofs: y and x are sizes in one unit, `left` says that x is below zero, and n is an angle in units of 2 ^ -28. Definitions only.
use Rattle.std.specs.Prelude.{ℕ, ◌+◌, ◌*◌, ◌≤◌, Bool, true, false}
use Rattle.trig.specs.Difference.{Within}
use Rattle.trig.specs.Series.{scale, sin⁺, sin⁻, cos⁺, cos⁻}

-- S where x is not below zero, and -S where it is
abbrev pub side⁺ : Bool → ℕ → ℕ
side⁺ false n = sin⁺ n
side⁺ true n = sin⁻ n

abbrev pub side⁻ : Bool → ℕ → ℕ
side⁻ false n = sin⁻ n
side⁻ true n = sin⁺ n

-- y * C - x * S is across⁺ - across⁻, in units of 1 / scale
abbrev pub across⁺ : Bool → ℕ → ℕ → ℕ → ℕ
across⁺ left y x n = y * cos⁺ n + x * side⁻ left n

abbrev pub across⁻ : Bool → ℕ → ℕ → ℕ → ℕ
across⁻ left y x n = y * cos⁻ n + x * side⁺ left n

-- y * C - x * S is not below -2 ^ -23 * (x + y), and not above 2 ^ -23 * (x + y)
abbrev pub Low : Bool → ℕ → ℕ → ℕ → Type 0
Low left y x n = 8388608 * across⁻ left y x n ≤ 8388608 * across⁺ left y x n + (x + y) * scale

abbrev pub High : Bool → ℕ → ℕ → ℕ → Type 0
High left y x n = 8388608 * across⁺ left y x n ≤ 8388608 * across⁻ left y x n + (x + y) * scale

-- y * C - x * S is at most 12 * 2 ^ -24 * (x + y) in size
abbrev pub Close : Bool → ℕ → ℕ → ℕ → Type 0
Close left y x n = Within (16777216 * across⁺ left y x n) (16777216 * across⁻ left y x n) (12 * ((x + y) * scale))

-- y * C - x * S is at most 2 ^ -20 * (x + y) in size
abbrev pub Small : Bool → ℕ → ℕ → ℕ → Type 0
Small left y x n = Within (1048576 * across⁺ left y x n) (1048576 * across⁻ left y x n) ((x + y) * scale)

-- x * C + y * S is not below zero
abbrev pub Front : Bool → ℕ → ℕ → ℕ → Type 0
Front false y x n = x * cos⁻ n + y * sin⁻ n ≤ x * cos⁺ n + y * sin⁺ n
Front true y x n = x * cos⁺ n + y * sin⁻ n ≤ x * cos⁻ n + y * sin⁺ n
