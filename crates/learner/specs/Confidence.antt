-- How far a learner trusts what it has learned. Definitions only.
use Rattle.std.specs.Prelude.{ℕ, cond, Float}
use Rattle.std.specs.Float.Ieee.{lt}
use Rattle.float.specs.Value.{f32, ◌⊘◌}
use Rattle.float.specs.Count.{count_float}

-- (update_count as f32 / 100.0).min(1.0)
abbrev pub confidence : ℕ → Float
confidence n =
    let c = count_float n ⊘ f32 0x42c8_0000 in
    cond (lt c (f32 0x3f80_0000)) c (f32 0x3f80_0000)
