-- The arc tangent of y and x, step by step, and what document 01 says of its answer. Definitions only.
-- The steps find the angle of the point (x, |y|) in units of 2 ^ -22, where n is 64 times it: a bracket by the eighth of the circle, a guess, and a
-- search between the bracket's ends that takes the first angle that one sine and one cosine find close enough. It tries the guess first.
use Rattle.std.specs.Prelude.{ℕ, zero, suc, ◌+◌, ◌-◌, ◌*◌, ◌/◌, ◌^◌, Bool, true, false, ◌&&◌, ◌||◌, cond, pos, T, ltb, leb, Float}
use Rattle.std.specs.Float.{nan, binary32}
use Rattle.std.specs.Float.Ieee.{of_int, neg, le, lt, eq}
use Rattle.std.specs.Float.Ieee.Positive.{num, den}
use Rattle.std.specs.Float.Ieee.Scale.{finite}
use Rattle.float.specs.Value.{f32, within, ◌⊗◌, pi, zero32}
use Rattle.call.specs.Said.{Said, value}
use Rattle.call.specs.Port.{Port, function, asked, refusal_in, said_by}
use Rattle.trig.specs.Difference.{Difference, ◌⊞◌, ◌⊟◌, ◌⊠◌, ◌·◌, SizeAtMost, AtLeastZero}
use Rattle.trig.specs.Series.{scale, S, C}
use Rattle.trig.specs.Steps.{raised_sine, raised_cosine}
use Rattle.trig.specs.Guess.{slant}
use Rattle.trig.specs.Angle.{units, n, negative, turned, signed}

-- ---- the search. y and x are sizes in one unit, and `left` says that x is below zero

-- the sine at k, raised by 2, with its sign turned where x is below zero
abbrev pub side : Bool → ℕ → ℕ
side left k = cond left (67108864 - raised_sine (64 * k)) (raised_sine (64 * k))

-- y * C - x * S at k is ahead - behind, in units of 2 ^ -24
abbrev pub ahead : ℕ → ℕ → ℕ → ℕ
ahead y x k = y * raised_cosine (64 * k) + x * 33554432

abbrev pub behind : Bool → ℕ → ℕ → ℕ → ℕ
behind left y x k = x * side left k + y * 33554432

-- the angle k is clearly too small, or clearly too large; where it is neither it is close enough
unfoldable pub short : Bool → ℕ → ℕ → ℕ → Bool
short left y x k = ltb (behind left y x k + 10 * (x + y)) (ahead y x k)

unfoldable pub past : Bool → ℕ → ℕ → ℕ → Bool
past left y x k = ltb (ahead y x k + 10 * (x + y)) (behind left y x k)

-- the guess where it lies between the ends, else the middle
unfoldable pub inside : ℕ → ℕ → ℕ → ℕ
inside low high guess = cond (ltb low guess && ltb guess high) guess ((low + high) / 2)

-- The bracket is narrowed as long as something lies between its ends; an angle that is close enough becomes both.
unfoldable pub search : Bool → ℕ → ℕ → ℕ → ℕ → ℕ → ℕ → ℕ
search left y x guess zero low high = low
search left y x guess (suc turns) low high =
    let k = inside low high guess in
    cond (ltb (low + 1) high) (search left y x guess turns (cond (past left y x k) low k) (cond (short left y x k) high k)) low

-- 23 turns suffice: the guess, and 22 halvings of less than 2 ^ 22
abbrev pub sought : Bool → ℕ → ℕ → ℕ → ℕ → ℕ → ℕ
sought left y x low high guess = search left y x guess 23 low high

-- ---- the angle of (x, |y|)

-- by how many places y and x are moved down, so that neither is above 2 ^ 36
unfoldable pub places : ℕ → ℕ → ℕ
places y x = cond (leb 17592186044416 (x + y)) 16 (cond (leb 68719476736 (x + y)) 8 0)

-- The brackets are the eighths of the half circle, and a few units more; 6588397 is a quarter circle, 13176795 is PI.
unfoldable pub eighth : Bool → Bool → ℕ → ℕ → ℕ
eighth true false y x = sought false y x 0 3294207 (slant y x)
eighth false false y x = sought false y x 3294190 6588405 (6588397 - slant x y)
eighth false true y x = sought true y x 6588389 9882604 (6588397 + slant x y)
eighth true true y x = sought true y x 9882587 13176795 (13176795 - slant y x)

-- the eighth is chosen by the pair itself, and searched with the pair moved down
unfoldable pub bearing : Bool → ℕ → ℕ → ℕ
bearing left y x = let d = 2 ^ places y x in eighth (leb y x) left (y / d) (x / d)

-- ---- the arc tangent

-- 0, or of size 2 ^ -24 to 32
unfoldable pub usable : Float → Bool
usable v = within v (f32 0x42000000) && (eq v zero32 || le (f32 0x33800000) v || le v (neg (f32 0x33800000)))

-- k * 2 ^ -22; k is at most 2 ^ 24, so nothing is rounded
unfoldable pub radians : ℕ → Float
radians k = of_int binary32 (pos k) ⊗ f32 0x34800000

-- y zero: PI where x is negative, and +0 where it is not, so (0, 0) gives +0
abbrev pub level : Float → Float
level x = cond (lt x zero32) pi zero32

-- y not zero: sizes in units of 2 ^ -47, of which each is a whole number; a negative y has the angle of its size, turned
abbrev pub direction : Float → Float → Float
direction y x = turned (negative y) (radians (bearing (negative x) (units 47 y) (units 47 x)))

-- Zeros are numeric: -0 is zero, and not negative. A pair out of the domain has a NaN.
unfoldable pub arc_tangent : Float → Float → Float
arc_tangent y x = cond (usable y && usable x) (cond (eq y zero32) (level x) (direction y x)) nan

-- document 01's entry: 1 for a NaN and an infinity, 2 out of the domain
abbrev pub arc_tangent_port : Port (Float × Float) (Unit {0})
arc_tangent_port = function (λ c. asked (finite c.0 && finite c.1) (usable c.0 && usable c.1) true (value (arc_tangent c.0 c.1)))

abbrev pub pair_refusal : Float → Float → ℕ
pair_refusal y x = refusal_in arc_tangent_port (y, x) tt

abbrev pub atan2 : Float → Float → Said
atan2 y x = said_by arc_tangent_port (y, x)

-- ---- what document 01 says

-- y and x over their common denominator
abbrev pub over : Float → Float → Difference
over y x = signed (negative y) (num y * den x)

-- |x| + |y| over the same denominator
abbrev pub sizes : Float → Float → ℕ
sizes y x = num x * den y + num y * den x

-- What is said of an answer a, with S and C at a's n
pub record Bearing (y x a : Float) : Type 0 where
  -- |y * C - x * S| is at most 2 ^ -20 * (|x| + |y|)
  pub near : SizeAtMost (2 ^ 20 · (over y x ⊠ C (negative a) (n a) ⊟ over x y ⊠ S (negative a) (n a))) (sizes y x * scale)
  -- x * C + y * S is at least 0
  pub front : AtLeastZero (over x y ⊠ C (negative a) (n a) ⊞ over y x ⊠ S (negative a) (n a))
  -- at most PI in size
  pub within_pi : T (within a pi)
