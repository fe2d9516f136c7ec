-- The whole-number notions between the root's steps and what the root has to meet. Definitions only.
use Rattle.std.specs.Prelude.{ℕ, zero, suc, ◌+◌, ◌*◌, ◌/◌, ◌%◌, ◌^◌, ◌<◌, ◌≤◌, ◌≡◌, Bool, ◌&&◌, ltb, leb}

-- r is the whole number nearest to the root of n, (r - 1/2)² < n < (r + 1/2)², and has 24 binary digits
pub record NearRoot (n r : ℕ) : Type 0 where
  pub above : r * r < n + r
  pub below : n ≤ r * r + r
  pub long : 2 ^ 23 ≤ r
  pub short : r < 2 ^ 24

-- the test of it
abbrev pub near : ℕ → ℕ → Bool
near n r = leb (2 ^ 23) r && ltb r (2 ^ 24) && ltb (r * r) (n + r) && leb n (r * r + r)

-- what a pattern below that of the infinity stands for, by its exponent's field and its digits, in units of the smallest value, 2 ^ -149
unfoldable pub magnitude : ℕ → ℕ → ℕ
magnitude zero t = t
magnitude (suc x) t = (2 ^ 23 + t) * 2 ^ x

abbrev pub units_of : ℕ → ℕ
units_of b = magnitude (b / 2 ^ 23) (b % 2 ^ 23)

-- the pattern b stands for n * 4 ^ k of 2 ^ -298, and p for r * 2 ^ k of 2 ^ -149, with r the nearest root of n
pub record Scaled (b p : ℕ) : Type 0 where
  pub n : ℕ
  pub k : ℕ
  pub r : ℕ
  pub near : NearRoot n r
  pub large : 2 ^ 46 ≤ n
  pub pattern : p ≡ k * 2 ^ 23 + r
  pub small : k < 253
  pub scale : units_of b * 2 ^ 149 ≡ n * (2 ^ k * 2 ^ k)
