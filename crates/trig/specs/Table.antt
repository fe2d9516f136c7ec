-- The tables of sines and cosines, the straight line between two entries, and the readings of an f32. Definitions only.
-- An entry is a whole number of 2 ^ -24. As the results of the steps it is raised by 2, so that it has no sign.
use Rattle.std.specs.Prelude.{ℕ, ◌+◌, ◌-◌, ◌*◌, ◌/◌, ◌%◌, ◌≤◌, ◌<◌, min, ◌≡◌, Bool, true, false, ◌&&◌, cond, ◌⊎◌, List, ℤ, pos, negsuc, get_or, Float}
use Rattle.std.specs.Float.{nan}
use Rattle.std.specs.Float.Ieee.Positive.{num, den}
use Rattle.std.specs.Float.Ieee.Scale.{finite}
use Rattle.float.specs.Value.{within}
use Rattle.float.specs.Multiple.{Multiple}
use Rattle.call.specs.Said.{Said, value}
use Rattle.call.specs.Port.{Port, function, asked, said_by}
use Rattle.trig.specs.Difference.{Difference, ◌minus◌, ◌⊟◌, ◌·◌, Within, SizeAtMost}
use Rattle.trig.specs.Series.{scale, S, C}
use Rattle.trig.specs.Angle.{n, negative, four, lowered, turned}

-- ---- the entries

-- F / scale in units of 2 ^ -24, raised by 2: the nearest whole number
abbrev pub nearest : Difference → ℕ
nearest (p minus m) = (33554432 * p + 67108865 * scale - 33554432 * m) / (2 * scale)

-- entry i, for i up to 1024: S(i / 256) and C(i / 256), where i / 256 is i * 2 ^ 20 / 2 ^ 28
unfoldable pub sine_entry : ℕ → ℕ
sine_entry i = nearest (S false (i * 1048576))

unfoldable pub cosine_entry : ℕ → ℕ
cosine_entry i = nearest (C false (i * 1048576))

-- ---- the reader, of any table

-- the entry after i; the last is its own, so that at 4 it is taken
abbrev pub next : ℕ → ℕ
next i = min (i + 1) 1024

-- The entry at floor(256 * n / 2 ^ 28), and from there on the straight line to the next the `part` of 2 ^ 20 that n has gone on, cut.
unfoldable pub line : (ℕ → ℕ) → ℕ → ℕ
line entry n =
    let i = n / 1048576 in
    let part = n % 1048576 in
    (entry i * (1048576 - part) + entry (next i) * part) / 1048576

-- ---- the answer

-- The reading of an angle's size; of an odd table the sign is turned for a negative angle. So a sine of zero is -0 just where the angle is negative, -0 included, as by
-- the steps, and a cosine of zero is +0. A NaN, an infinity and an angle above 4 in size have a NaN.
unfoldable pub read : Bool → (ℕ → ℕ) → Float → Float
read odd entry a = cond (within a four) (turned (odd && negative a) (lowered (line entry (n a)))) nan

abbrev pub table_sine : Float → Float
table_sine a = read true sine_entry a

abbrev pub table_cosine : Float → Float
table_cosine a = read false cosine_entry a

-- the request's two calls: 1 for a NaN and an infinity, 2 above 4 in size
abbrev pub table_sine_port : Port Float (Unit {0})
table_sine_port = function (λ a. asked (finite a) (within a four) true (value (table_sine a)))

abbrev pub table_cosine_port : Port Float (Unit {0})
table_cosine_port = function (λ a. asked (finite a) (within a four) true (value (table_cosine a)))

abbrev pub table_sin : Float → Said
table_sin a = said_by table_sine_port a

abbrev pub table_cos : Float → Said
table_cos a = said_by table_cosine_port a

-- ---- what the request says

-- e, raised by 2, stands for the fraction F / scale
pub record Entry (F : Difference) (e : ℕ) : Type 0 where
  -- at most 1 in size
  pub above : 16777216 ≤ e
  pub below : e ≤ 50331648
  -- within one unit of 2 ^ -24, both sides times scale
  pub near : SizeAtMost ((e * scale minus 33554432 * scale) ⊟ 16777216 · F) scale

-- floor(256 * size) of an angle, exactly
abbrev pub place : Float → ℕ
place a = 256 * num a / den a

-- how far beyond that place it is, of den a
abbrev pub beyond : Float → ℕ
beyond a = 256 * num a % den a

-- between a and b, ends included
abbrev pub Between : ℕ → ℕ → ℕ → Type 0
Between a b t = ((a ≤ t) × (t ≤ b)) ⊎ ((b ≤ t) × (t ≤ a))

-- What is said of an answer r to the angle a, by a table
pub record Reading (entry : ℕ → ℕ) (turn : Bool) (a r : Float) : Type 0 where
  -- the reading, raised by 2, whose sign is turned where `turn` says so
  pub t : ℕ
  pub reads : r ≡ turned turn (lowered t)
  -- between the two entries
  pub between : Between (entry (place a)) (entry (next (place a))) t
  -- within 2 ^ -23 of the straight line at the angle itself, both sides times den a
  pub near : Within (t * den a) (entry (place a) * (den a - beyond a) + entry (next (place a)) * beyond a) (2 * den a)
  -- a multiple of 2 ^ -24, at most 1 in size
  pub multiple : Multiple 1 r

-- ---- a table in memory: 1,025 whole numbers of either sign

-- a whole number of 2 ^ -24 raised by 2
abbrev pub raise : ℤ → ℕ
raise (pos k) = 33554432 + k
raise (negsuc k) = 33554431 - k

abbrev pub entry_of : List ℤ → ℕ → ℕ
entry_of table i = raise (get_or table i (pos 0))

-- each entry is at most 1 in size
pub record AtMostOne (table : List ℤ) : Type 0 where
  pub bounds : (i : ℕ) → i < 1025 → (16777216 ≤ entry_of table i) × (entry_of table i ≤ 50331648)

-- each entry is that of the definition
pub record Holds (entry : ℕ → ℕ) (table : List ℤ) : Type 0 where
  pub each : (i : ℕ) → i < 1025 → entry_of table i ≡ entry i
