-- Document 01's settled cases K1 to K12, as one table: what the definitions give, beside what document 01 says. The gate values of K1 to K3 are answered with their verdicts (document 02, C-12): 32, 12, and of K2 1311 steps of 2^-18 above 32, which is the f32 nearest to 32 + 1/200.
use Rattle.std.specs.Prelude.{ℕ, ◌≡◌, refl, [], ◌∷◌, Float}
use Rattle.std.proofs.Math.Option.{Option, none, some}
use Rattle.std.specs.Float.Ieee as Ieee
use Rattle.std.specs.Float.{nan}
use Rattle.std.specs.Float.Ieee.{neg}
use Rattle.float.specs.Value.{f32}
use Rattle.call.specs.Said.{Said, answer, done, accepted, rejected, nothing, refused, value}
use Rattle.float.specs.Loop.{run}
use Rattle.float.specs.Wrap.{wrapped, wrap_angle}
use Rattle.float.specs.Root.{root, root_bits, digits, normal, seek}
use Rattle.position.specs.Position.{update_position, get_nis_position_avg}
use Rattle.velocity.specs.Velocity as velocity
use Rattle.velocity.specs.Velocity.{update_velocity, update_speed}
use Rattle.yaw.specs.Yaw as yaw
use Rattle.yaw.specs.Yaw.{update_yaw}
use Rattle.ekf.specs.Filter.{with_velocity, with_yaw, call_position, call_velocity, call_yaw}
use Rattle.ekf.specs.Making.{default_config, fresh}
use Rattle.ekf.specs.Predict.{on_predict}
use Rattle.ekf.specs.declared.EkfConfig.{EkfConfig}
use Rattle.ekf.specs.declared.Ekf.{Ekf}
use Rattle.gps.specs.Gps.{update, on_gps}
use Rattle.gps.specs.Gps.{fresh as fresh_gps}
use Rattle.gps.specs.declared.GpsAcceleration.{GpsAcceleration}
use Rattle.lowpass.specs.Lowpass.{made as made_lowpass}
use Rattle.settled.specs.Cases.Expected.{whole, ◌over◌, after_k1, after_k2, after_k3, after_k4, unchanged, after_k6, after_k8}

-- a row: which case, what the call says, and the whole filter afterwards where the case has a filter
pub record Row : Type 0 where
  pub case : ℕ
  pub says : Said
  pub leaves : Option Ekf

abbrev row : ℕ → Said → Option Ekf → Row
row n s f = record { case = n; says = s; leaves = f }

-- a call of a filter, and one of anything else
abbrev call : ℕ → Said × Ekf → Row
call n out = row n out.0 (some out.1)

abbrev says : ℕ → Said → Row
says n s = row n s none

-- ---- filters, as the definitions make them
abbrev config : Float → Float → Float → Float → EkfConfig
config q_acc r_pos r_vel r_yaw =
    record {
      q_acc = q_acc;
      q_gyro = default_config.q_gyro;
      q_bias = default_config.q_bias;
      r_pos = r_pos;
      r_vel = r_vel;
      r_yaw = r_yaw;
      min_speed = default_config.min_speed;
    }

-- fresh, with one configuration number changed
abbrev by_position : Float → Ekf
by_position r = fresh (config default_config.q_acc r default_config.r_vel default_config.r_yaw)

abbrev pub hundred : Ekf
hundred = by_position (whole 100)

abbrev by_velocity : Float → Ekf
by_velocity r = fresh (config default_config.q_acc default_config.r_pos r default_config.r_yaw)

abbrev standard : Ekf
standard = fresh default_config

-- p[2] and r_yaw 0.375
abbrev at_yaw : Ekf
at_yaw =
    let f = fresh (config default_config.q_acc default_config.r_pos default_config.r_vel (375 over 1000)) in
    with_yaw f (yaw.with_angle (record { x = f.yaw.angle.x; p = 375 over 1000 }) f.yaw)

-- vx 4, q_acc 1
abbrev moving : Ekf
moving =
    let f = fresh (config (whole 1) default_config.r_pos default_config.r_vel default_config.r_yaw) in
    with_velocity f (velocity.with_axes (record { x = whole 4; p = f.velocity.x.p }) f.velocity.y f.velocity)

-- ---- learners
-- a fix at a speed and a time in milliseconds (document 02, C-13)
abbrev fix : Float → ℕ → GpsAcceleration → Said × GpsAcceleration
fix speed time s = on_gps (update speed time) s

-- 10 at 1.0 s, then 12 at 1.5 s
abbrev started : GpsAcceleration
started = (fix (whole 10) 1000 fresh_gps).1

abbrev late : Said × GpsAcceleration
late = fix (whole 12) 1500 started

-- the nearest f32 to PI
abbrev half_turn : Float
half_turn = f32 0x4049_0fdb

-- ---- K1 to K12
pub table :
    (call 1 (call_position (update_position (whole 80) (whole 0)) hundred)
    ∷ call 2 (call_position (update_position (whole 80) (whole 1)) hundred)
    ∷ call 3 (call_yaw (update_yaw (whole 3)) at_yaw)
    ∷ call 4 (call_velocity (update_velocity (whole 10) (neg (whole 4))) (by_velocity (whole 100)))
    ∷ call 5 (call_velocity (update_speed (whole 0)) standard)
    ∷ call 6 (on_predict 1 (whole 2) (whole 0) (whole 0) (5 over 10) moving)
    ∷ says 7 (wrap_angle half_turn) ∷ says 7 (wrap_angle (neg half_turn)) ∷ says 7 (wrap_angle (645 over 10))
    ∷ call 8 (call_position (update_position nan (whole 0)) (by_position (whole 0)))
    ∷ call 9 (call_position get_nis_position_avg standard)
    ∷ says 10 (fix (whole 12) 1250 started).0
    ∷ says 11 late.0 ∷ says 11 (fix (whole 13) 1750 late.1).0
    ∷ says 12 (made_lowpass (whole 100) (whole 200)).0
    ∷ [])
    ≡
    (row 1 (answer (accepted (f32 0x4200_0000))) (some after_k1)
    ∷ row 2 (answer (rejected (f32 0x4200_051f))) (some after_k2)
    ∷ row 3 (answer (accepted (f32 0x4140_0000))) (some after_k3)
    ∷ row 4 (answer done) (some after_k4)
    ∷ row 5 (answer done) (some unchanged)
    ∷ row 6 (answer done) (some after_k6)
    ∷ says 7 (answer (value half_turn)) ∷ says 7 (answer (value (neg half_turn))) ∷ says 7 (refused 2)
    ∷ row 8 (refused 1) (some after_k8)
    ∷ row 9 (answer (value (whole 2))) (some unchanged)
    ∷ says 10 (answer (value (whole 8)))
    ∷ says 11 (answer nothing) ∷ says 11 (answer (value (whole 4)))
    ∷ says 12 (refused 3)
    ∷ [])
unfolding Ieee.add Ieee.sub Ieee.mul Ieee.div Ieee.neg Ieee.lt Ieee.le Ieee.eq Ieee.of_bits Ieee.of_int Ieee.to_bits wrapped run root root_bits digits normal seek
table = refl
