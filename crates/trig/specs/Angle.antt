-- The sine and the cosine of an f32, and what document 01 says of their distance. Definitions only.
use Rattle.std.specs.Prelude.{ℕ, ◌-◌, ◌*◌, ◌/◌, ◌^◌, ◌≤◌, Bool, true, false, cond, pos, ltb, Float}
use Rattle.std.specs.Float.{nan, inf, fin, binary32}
use Rattle.std.specs.Float.Ieee.{up, down, of_int, neg}
use Rattle.std.specs.Float.Ieee.Exact.{HasValue}
use Rattle.std.specs.Float.Ieee.Scale.{finite}
use Rattle.float.specs.Value.{f32, within, ◌⊗◌}
use Rattle.call.specs.Said.{Said, value}
use Rattle.call.specs.Port.{Port, function, asked, refusal_in, said_by}
use Rattle.trig.specs.Difference.{Difference, ◌minus◌, ◌⊟◌, ◌·◌, SizeAtMost}
use Rattle.trig.specs.Series.{scale}
use Rattle.trig.specs.Steps.{raised_sine, raised_cosine}

-- ---- the angle

-- x's size in units of 2 ^ -p, cut toward zero
unfoldable pub units : ℕ → Float → ℕ
units p nan = 0
units p (inf s) = 0
units p (fin s m e) = m * up e * 2 ^ p / down e

-- document 01's n without its sign: the angle times 2 ^ 28, cut toward zero
abbrev pub n : Float → ℕ
n a = units 28 a

-- n's sign, and any value's; -0 has it too
abbrev pub negative : Float → Bool
negative nan = false
negative (inf s) = s
negative (fin s m e) = s

-- the largest angle, 4
abbrev pub four : Float
four = f32 0x40800000

-- ---- the answer

-- k * 2 ^ -24; k is at most 2 ^ 24, so nothing is rounded
unfoldable pub small : ℕ → Float
small k = of_int binary32 (pos k) ⊗ f32 0x33800000

-- what the steps raised by 2, brought down again: where nothing is left it is +0
unfoldable pub lowered : ℕ → Float
lowered t = cond (ltb t 33554432) (neg (small (33554432 - t))) (small (t - 33554432))

-- x, turned to the other sign where `turn` says so
abbrev pub turned : Bool → Float → Float
turned turn x = cond turn (neg x) x

-- The sine is odd: it is that of the angle's size, with the sign turned for a negative angle. So a sine of zero is -0 just where the angle
-- is negative, -0 included. A NaN, an infinity and an angle above 4 in size have a NaN.
unfoldable pub sine : Float → Float
sine a = cond (within a four) (turned (negative a) (lowered (raised_sine (n a)))) nan

-- The cosine is even, so it is that of the angle's size. A cosine of zero is +0.
unfoldable pub cosine : Float → Float
cosine a = cond (within a four) (lowered (raised_cosine (n a))) nan

-- document 01's entries: 1 for a NaN and an infinity, 2 above 4 in size
abbrev pub sine_port : Port Float (Unit {0})
sine_port = function (λ a. asked (finite a) (within a four) true (value (sine a)))

abbrev pub cosine_port : Port Float (Unit {0})
cosine_port = function (λ a. asked (finite a) (within a four) true (value (cosine a)))

abbrev pub sin : Float → Said
sin a = said_by sine_port a

abbrev pub cos : Float → Said
cos a = said_by cosine_port a

-- the refusal of either
abbrev pub angle_refusal : Float → ℕ
angle_refusal a = refusal_in sine_port a tt

-- ---- what document 01 says

-- k, or -k where `below_zero` says so
abbrev pub signed : Bool → ℕ → Difference
signed false k = k minus 0
signed true k = 0 minus k

-- What is said of an answer r that stands for the fraction F / scale
pub record Near (F : Difference) (r : Float) : Type 0 where
  pub below_zero : Bool
  pub k : ℕ
  -- r is a multiple of 2 ^ -24: k / 2 ^ 24, or its opposite
  pub multiple : HasValue r below_zero k (2 ^ 24)
  -- at most 1 in size
  pub at_most_one : k ≤ 2 ^ 24
  -- |r - F / scale| is at most 2 ^ -23: both sides times 2 ^ 24 * scale
  pub near : SizeAtMost (signed below_zero (k * scale) ⊟ 2 ^ 24 · F) (2 * scale)
