-- `update_bias` can be refused with 6 from a sound state, where rounding carries a bias beyond its range; `biases` never is. Assumes nothing.
use Rattle.std.specs.Prelude.{◌≡◌, refl, true}
use Rattle.std.specs.Float.Ieee.{of_bits, add, sub, mul, div, neg, lt, eq, le}
use Rattle.float.specs.Value.{f32, zero32}
use Rattle.call.specs.Said.{refused}
use Rattle.call.specs.PortLaws.{NotSix, not_six}
use Rattle.bias.specs.Bias.{update_bias, biases, on_bias, bias_port, bias_sound}
use Rattle.bias.specs.declared.Bias.{Bias}

-- a bias of -999.99994 with a variance of 1e9, corrected by 1000
abbrev pub edge : Bias
edge = record { x = record { x = f32 0xc479_ffff; p = f32 0x4e6e_6b28 }; y = record { x = zero32; p = zero32 } }

pub edge_sound : bias_sound edge ≡ true
unfolding of_bits neg le
edge_sound = refl

pub bias_six : on_bias (update_bias (f32 0x447a_0000) zero32) edge ≡ (refused 6, edge)
unfolding of_bits add sub mul div neg lt eq le
bias_six = refl

-- the reader stores nothing
pub biases_not_six : (s : Bias) → NotSix (on_bias biases s)
biases_not_six s = not_six bias_port biases s (λ f u n h. h)
