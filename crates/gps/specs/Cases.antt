-- What document 02, C-13 settles by single inputs, worked out on paper: which intervals count, from both sides of each end, and what clocks at their ends, going back and standing still give. Assumes nothing.
use Rattle.std.specs.Prelude.{ℕ, ◌≡◌, refl, [], ◌∷◌, Float}
use Rattle.std.specs.Float.Ieee as Ieee
use Rattle.std.specs.Float.{nan}
use Rattle.float.specs.Value.{f32, zero32}
use Rattle.call.specs.Said.{Said, answer, refused, done, nothing, value}
use Rattle.gps.specs.Gps.{update, update_rate, fresh, with_rate, on_gps}
use Rattle.gps.specs.declared.GpsAcceleration.{GpsAcceleration}

-- the last of all times
abbrev last : ℕ
last = 18446744073709551615

-- ---- fixes: 10 m/s at one time and 12 m/s at another; what each answers, and the time that is kept
abbrev fixed : Float → ℕ → GpsAcceleration → Said × ℕ
fixed speed now s =
    let out = on_gps (update speed now) s in
    (out.0, out.1.prev_time)

abbrev first : ℕ → Said × ℕ
first now = fixed (f32 0x4120_0000) now fresh

abbrev second : ℕ → ℕ → Said × ℕ
second before now = fixed (f32 0x4140_0000) now (on_gps (update (f32 0x4120_0000) before) fresh).1

abbrev gains : ℕ → Float → Said × ℕ
gains now a = (answer (value a), now)

abbrev nothing_at : ℕ → Said × ℕ
nothing_at now = (answer nothing, now)

pub settled_fixes :
    -- a first fix gives nothing, and at time 0 it counts; strictly between 20 and 500
    (first 250 ∷ second 0 250 ∷ second 0 20 ∷ second 0 21 ∷ second 0 499 ∷ second 0 500
    -- the clock stands still, goes back, goes as far as it can
    ∷ second 1000 1000 ∷ second 1000 750 ∷ second last 0 ∷ second 0 last
    -- late, and at the end of the clock
    ∷ second 131072200 131072400 ∷ second 18446744073709551365 last
    ∷ [])
    ≡
    -- 2 / 0.25, 2 / 0.021 and 2 / 0.499, seconds and quotient each rounded once
    (nothing_at 250 ∷ gains 250 (f32 0x4100_0000) ∷ nothing_at 20 ∷ gains 21 (f32 0x42be_79e8) ∷ gains 499 (f32 0x4080_41ab) ∷ nothing_at 500
    ∷ nothing_at 1000 ∷ nothing_at 750 ∷ nothing_at 0 ∷ nothing_at last
    -- 2 / 0.2
    ∷ gains 131072400 (f32 0x4120_0000) ∷ gains last (f32 0x4100_0000)
    ∷ [])
unfolding Ieee.add Ieee.sub Ieee.mul Ieee.div Ieee.neg Ieee.lt Ieee.le Ieee.of_bits Ieee.of_int
settled_fixes = refl

-- ---- counts of fixes: none at one time and n at another; what the second answers, the rate, and the time that is kept
abbrev counted : GpsAcceleration → ℕ → ℕ → Said × Float × ℕ
counted s n now =
    let out = on_gps (update_rate n now) s in
    (out.0, out.1.gps_rate, out.1.last_rate_time)

abbrev from : ℕ → GpsAcceleration
from time = (on_gps (update_rate 0 time) fresh).1

-- the same with a mean that is no number
abbrev unsound : ℕ → GpsAcceleration
unsound time = with_rate 0 time zero32 nan fresh

pub settled_counts :
    -- acts from 1,000 on
    (counted (from 0) 10 999 ∷ counted (from 0) 10 1000 ∷ counted (from 0) 10 1001
    -- at the ends of both differences
    ∷ counted (from 0) 16777216 16777216 ∷ counted (from 0) 10 16777217 ∷ counted (from 0) 16777217 1000 ∷ counted (from 0) 16777217 999
    -- the clock goes back; a first count is kept whatever its time, and gives no rate
    ∷ counted (from 9223372036854775808) 10 0 ∷ counted (from last) 10 0 ∷ counted fresh 10 last ∷ counted fresh 10 2000
    -- 2 comes before 4, whichever difference is too large
    ∷ counted (unsound 0) 10 16777217 ∷ counted (unsound 0) 16777217 1000 ∷ counted (unsound 0) 10 1000
    ∷ [])
    ≡
    -- 0.3 * (10 / 1), 0.3 * (10 / 1.001) and 0.3 * (16,777,216 / 16,777.216)
    ((answer done, zero32, 0) ∷ (answer done, f32 0x4040_0000, 1000) ∷ (answer done, f32 0x403f_cee5, 1001)
    ∷ (answer done, f32 0x4396_0000, 16777216) ∷ (refused 2, zero32, 0) ∷ (refused 2, zero32, 0) ∷ (answer done, zero32, 0)
    ∷ (answer done, zero32, 9223372036854775808) ∷ (answer done, zero32, last) ∷ (answer done, zero32, last) ∷ (answer done, zero32, 2000)
    ∷ (refused 2, zero32, 0) ∷ (refused 2, zero32, 0) ∷ (refused 4, zero32, 0)
    ∷ [])
unfolding Ieee.add Ieee.sub Ieee.mul Ieee.div Ieee.neg Ieee.lt Ieee.le Ieee.of_bits Ieee.of_int
settled_counts = refl
