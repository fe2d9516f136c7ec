-- The square root as IEEE 754 rounds it: what it has to meet, over whole numbers (`Nearest`), and steps that compute it (`root`), which `RootFloat` proves to meet it. Definitions only.
-- A reader needs to believe `Nearest` and the lines of `root` on what is not above zero: there is one nearest f32 only (`root_unique`), and the steps find it.
use Rattle.std.specs.Prelude.{ℕ, zero, suc, ◌+◌, ◌-◌, ◌*◌, ◌/◌, ◌%◌, ◌^◌, ◌<◌, true, false, cond, T, ltb, eqb, Float}
use Rattle.std.specs.Float.{nan, inf, fin, binary32}
use Rattle.std.specs.Float.Ieee.{of_bits, to_bits, fits, lt, le}
use Rattle.std.specs.Float.Ieee.Scale.{finite}
use Rattle.std.specs.Float.Ieee.Positive.{num, den, positive}
use Rattle.float.specs.Value.{zero32}
use Rattle.call.specs.Said.{Said, value}
use Rattle.call.specs.Port.{Port, function, asked, said_by}
use Rattle.float.specs.Bounds.{nought}

-- ---- what the root has to meet
-- A value above zero is the fraction num / den. The middle (y + z) / 2 of two values is sum_of / (2 * overOf).
abbrev pub sum_of : Float → Float → ℕ
sum_of y z = num y * den z + num z * den y

abbrev pub over_of : Float → Float → ℕ
over_of y z = den y * den z

-- The middle of y and z is below the root of x, or above it: its square against x, with the denominators multiplied out.
abbrev pub MiddleBelow : Float → Float → Float → Type 0
MiddleBelow x y z = sum_of y z * sum_of y z * den x < 4 * num x * (over_of y z * over_of y z)

abbrev pub MiddleAbove : Float → Float → Float → Type 0
MiddleAbove x y z = 4 * num x * (over_of y z * over_of y z) < sum_of y z * sum_of y z * den x

-- y is the f32 nearest to the exact root of x: it is an f32 above zero, and the root lies on y's side of the middle between y and any other f32 z that is not negative.
-- Both are strict, so no root of an f32 is a tie, and "ties to even" has nothing to decide.
pub record Nearest (x y : Float) : Type 0 where
  pub is_f32 : T (fits binary32 y)
  pub above_zero : T (positive y)
  pub under : (z : Float) → T (fits binary32 z) → T (finite z) → T (le nought z) → T (lt z y) → MiddleBelow x y z
  pub over : (z : Float) → T (fits binary32 z) → T (finite z) → T (le nought z) → T (lt y z) → MiddleAbove x y z

-- ---- the steps, on patterns
-- The whole number nearest to the root of n, digit by digit from the highest: the largest r with (r - 1/2)² < n.
unfoldable pub seek : ℕ → ℕ → ℕ → ℕ
seek zero n r = r
seek (suc j) n r = let m = r + 2 ^ j in seek j n (cond (ltb (m * m) (n + m)) m r)

-- digits moved up until there are 24 of them, and the exponent with them
unfoldable pub normal : ℕ → ℕ → ℕ → ℕ × ℕ
normal zero m k = (m, k)
normal (suc j) m k = cond (ltb m (2 ^ 23)) (normal j (m * 2) (k - 1)) (m, k)

-- the digits m and the exponent k of the pattern b, which stands for m * 2 ^ k in units of 2 ^ -173
unfoldable pub digits : ℕ → ℕ × ℕ
unfolding normal
digits b = cond (eqb (b / 2 ^ 23) 0) (normal 23 (b % 2 ^ 23) 24) (b % 2 ^ 23 + 2 ^ 23, b / 2 ^ 23 + 23)

-- Scaled to an even exponent the digits' root is that of a whole number of 47 or 48 digits. It is nearest to one of 24 digits, and that is the root's.
abbrev pub radicand : ℕ × ℕ → ℕ
radicand d = d.0 * (2 ^ 23 * (1 + d.1 % 2))

unfoldable pub root_bits : ℕ → ℕ
unfolding digits seek
root_bits b = ((digits b).1 / 2 + 51) * 2 ^ 23 + seek 23 (radicand (digits b)) (2 ^ 23)

-- the total core, as IEEE 754 has it: a zero is its own root, with its sign, and what is below zero has none
unfoldable pub root : Float → Float
root nan = nan
root (inf true) = nan
root (inf false) = inf false
root (fin s zero e) = fin s zero e
root (fin true (suc m) e) = nan
root (fin false (suc m) e) = of_bits binary32 (root_bits (to_bits binary32 (fin false (suc m) e)))

-- the entry point: 1 for a NaN and an infinity, 2 below zero (-0 is not)
abbrev pub root_port : Port Float (Unit {0})
root_port = function (λ x. asked (finite x) (le zero32 x) true (value (root x)))

abbrev pub square_root : Float → Said
square_root x = said_by root_port x
