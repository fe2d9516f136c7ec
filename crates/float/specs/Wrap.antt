-- The bounded wrap: the angle that the Rust's loops `while a > PI { a -= 2.0 * PI }` and `while a < -PI { a += 2.0 * PI }` leave, for an angle of size at most 64; and the difference of two angles. Definitions only.
use Rattle.std.specs.Prelude.{Bool, true, cond, Float}
use Rattle.std.specs.Float.Ieee.{lt, neg}
use Rattle.std.specs.Float.Ieee.Scale.{finite}
use Rattle.float.specs.Loop.{run}
use Rattle.float.specs.Value.{f32, ◌⊕◌, ◌⊖◌, within, pi}
use Rattle.call.specs.Said.{Said, value}
use Rattle.call.specs.Port.{Port, function, asked, said_by}

-- 2.0 * PI, which is exact, and 64.0
abbrev pub turn : Float
turn = f32 0x40c9_0fdb

abbrev pub limit : Float
limit = f32 0x4280_0000

-- the tests and the steps of the two loops
abbrev pub high : Float → Bool
high a = lt pi a

abbrev pub down : Float → Float
down a = a ⊖ turn

abbrev pub deep : Float → Bool
deep a = lt a (neg pi)

abbrev pub up : Float → Float
up a = a ⊕ turn

abbrev pub inside : Float → Bool
inside a = within a limit

-- The loops, with ten turns at most: from 64.0 the first takes just ten, and from -64.0 the second (`WrapLaws`).
abbrev pub lowered : Float → Float
lowered a = run high down 10 a

abbrev pub lifted : Float → Float
lifted a = run deep up 10 a

-- the total core: a NaN, an infinity and an angle above 64 in size come back as they are
unfoldable pub wrapped : Float → Float
wrapped a = cond (inside a) (lifted (lowered a)) a

-- the entry point: 1 for a NaN and an infinity, 2 above 64 in size
abbrev pub wrap_port : Port Float (Unit {0})
wrap_port = function (λ a. asked (finite a) (inside a) true (value (wrapped a)))

abbrev pub wrap_angle : Float → Said
wrap_angle a = said_by wrap_port a

-- diff = a - b; above PI a turn less, else below -PI a turn more: it folds once
abbrev pub angle_diff : Float → Float → Float
angle_diff a b =
    let diff = a ⊖ b in
    cond (lt pi diff) (diff ⊖ turn) (cond (lt diff (neg pi)) (diff ⊕ turn) diff)
