-- What document 01 says that its settled cases leave: the whole filter after each, every number written out. Definitions only.
-- The numbers are document 01's own; where it says "fresh", "else unchanged" or nothing, they are those of `EkfConfig::default` and `Ekf::with_config` in ekf.rs (lines 43 to 55 and 113 to 134).
-- Nothing here is taken from the definitions that the code is proved equal to, so that a number changed in a definition and in the code alike makes the table fail.
use Rattle.std.specs.Prelude.{ℕ, true, false, pos, Float}
use Rattle.std.specs.Float.{binary32}
use Rattle.std.specs.Float.Ieee.{of_int, div, neg}
use Rattle.float.specs.Value.{f32}
use Rattle.channel.specs.declared.Axis.{Axis}
use Rattle.channel.specs.declared.Tallies.{Tallies}
use Rattle.position.specs.declared.Position.{Position}
use Rattle.velocity.specs.declared.Velocity.{Velocity}
use Rattle.yaw.specs.declared.Yaw.{Yaw}
use Rattle.bias.specs.declared.Bias.{Bias}
use Rattle.ekf.specs.declared.EkfConfig.{EkfConfig}
use Rattle.ekf.specs.declared.Ekf.{Ekf}

-- ---- numbers
-- a whole number below 2 ^ 24, and a decimal as a quotient of two: it is rounded once, and "decimals mean the nearest f32"
abbrev pub whole : ℕ → Float
whole n = of_int binary32 (pos n)

infixl 7 ◌over◌
abbrev pub ◌over◌ : ℕ → ℕ → Float
m over n = div binary32 (whole m) (whole n)

abbrev tally : ℕ → ℕ → Tallies
tally m n = record { accepted = m; rejected = n }

abbrev axis : Float → Float → Axis
axis x p = record { x = x; p = p }

-- ---- the fresh filter of the Rust
-- q_acc: 0.40, r_pos: 20.0, r_vel: 0.2, r_yaw: 0.10, which cases change
abbrev q_acc : Float
q_acc = 4 over 10

abbrev r_pos : Float
r_pos = whole 20

abbrev r_vel : Float
r_vel = 2 over 10

abbrev r_yaw : Float
r_yaw = 1 over 10

-- and q_gyro: 0.005, q_bias: 1e-3, min_speed: 2.0, which none does
abbrev configured : Float → Float → Float → Float → EkfConfig
configured q_acc r_pos r_vel r_yaw =
    record { q_acc = q_acc; q_gyro = 5 over 1000; q_bias = 1 over 1000; r_pos = r_pos; r_vel = r_vel; r_yaw = r_yaw; min_speed = whole 2 }

-- no fix yet: NIS sum and count 0, last GPS pair 0 and its flag false; document 02, C-19: the run of rejections
abbrev unfixed : Axis → Axis → Tallies → ℕ → Position
unfixed x y t k =
    record { x = x; y = y; nis = record { sum = whole 0; count = 0 }; last_fix = record { x = whole 0; y = whole 0; known = false }; tallies = t; run = k }

-- no stored moving yaw: 0 and its flag false
abbrev unstored : Axis → Tallies → Yaw
unstored a t = record { angle = a; moving = record { angle = whole 0; known = false }; tallies = t }

-- x: [0.0; 7], p: [100.0, 100.0, 100.0, 100.0, 100.0, 1.0, 1.0], all six tallies 0; but the position tallies are given, and the run
abbrev fresh_position : Tallies → ℕ → Position
fresh_position t k = unfixed (axis (whole 0) (whole 100)) (axis (whole 0) (whole 100)) t k

abbrev fresh_velocity : Velocity
fresh_velocity = record { x = axis (whole 0) (whole 100); y = axis (whole 0) (whole 100); tallies = tally 0 0 }

abbrev fresh_yaw : Yaw
fresh_yaw = unstored (axis (whole 0) (whole 100)) (tally 0 0)

abbrev fresh_bias : Bias
fresh_bias = record { x = axis (whole 0) (whole 1); y = axis (whole 0) (whole 1) }

abbrev fresh : EkfConfig → Tallies → ℕ → Ekf
fresh c t k = record { config = c; position = fresh_position t k; velocity = fresh_velocity; yaw = fresh_yaw; bias = fresh_bias }

-- ---- the filters after the cases
-- K1 "`r_pos` 100, fix (80, 0): gate value 32, accepted, x[0] 40, p[0] and p[1] 50"; the gate value goes into the NIS sum, the fix is kept, one is accepted
abbrev pub after_k1 : Ekf
after_k1 =
    record {
      config = configured q_acc (whole 100) r_vel r_yaw;
      position =
          record {
            x = axis (whole 40) (whole 50);
            y = axis (whole 0) (whole 50);
            nis = record { sum = whole 32; count = 1 };
            last_fix = record { x = whole 80; y = whole 0; known = true };
            tallies = tally 1 0;
            run = 0;
          };
      velocity = fresh_velocity;
      yaw = fresh_yaw;
      bias = fresh_bias;
    }

-- K2 "the same with (80, 1): rejected, one tally, else unchanged"; document 02, C-19: "apart from the run, which becomes 1"
abbrev pub after_k2 : Ekf
after_k2 = fresh (configured q_acc (whole 100) r_vel r_yaw) (tally 0 1) 1

-- K3 "`r_yaw` 0.375 .. accepted, x[2] 1.5, p[2] 0.1875"; one is accepted
abbrev pub after_k3 : Ekf
after_k3 =
    record {
      config = configured q_acc r_pos r_vel (375 over 1000);
      position = fresh_position (tally 0 0) 0;
      velocity = fresh_velocity;
      yaw = unstored (axis (15 over 10) (1875 over 10000)) (tally 1 0);
      bias = fresh_bias;
    }

-- K4 "`r_vel` 100, velocity (10, -4): (5, -2), both variances 50"; one is accepted
abbrev pub after_k4 : Ekf
after_k4 =
    record {
      config = configured q_acc r_pos (whole 100) r_yaw;
      position = fresh_position (tally 0 0) 0;
      velocity = record { x = axis (whole 5) (whole 50); y = axis (neg (whole 2)) (whole 50); tallies = tally 1 0 };
      yaw = fresh_yaw;
      bias = fresh_bias;
    }

-- K5 "nothing changes"; and K9 only shows
abbrev pub unchanged : Ekf
unchanged = fresh (configured q_acc r_pos r_vel r_yaw) (tally 0 0) 0

-- K6 "vx 4, `q_acc` 1, predict (2, 0, 0, 0.5): x[0] 2.25, vx 5, p[0] 100.0625". The Rust (lines 376 to 384) adds 0.25 * q_acc * dt * dt to p[0] and p[1], q_gyro * dt * dt to p[2],
-- q_acc * dt * dt to p[3] and p[4], and q_bias * dt + 1e-6 to p[5] and p[6]: 100.00125 is 42C800A4, and 1.000501 is 3F80106B.
abbrev pub after_k6 : Ekf
after_k6 =
    record {
      config = configured (whole 1) r_pos r_vel r_yaw;
      position = unfixed (axis (225 over 100) (1000625 over 10000)) (axis (whole 0) (1000625 over 10000)) (tally 0 0) 0;
      velocity = record { x = axis (whole 5) (10025 over 100); y = axis (whole 0) (10025 over 100); tallies = tally 0 0 };
      yaw = unstored (axis (whole 0) (f32 0x42c8_00a4)) (tally 0 0);
      bias = record { x = axis (whole 0) (f32 0x3f80_106b); y = axis (whole 0) (f32 0x3f80_106b) };
    }

-- K8 is refused with `r_pos` 0, and "nothing has changed"
abbrev pub after_k8 : Ekf
after_k8 = fresh (configured q_acc (whole 0) r_vel r_yaw) (tally 0 0) 0
