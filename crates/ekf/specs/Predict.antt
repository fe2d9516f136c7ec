-- The prediction, which looks at every number of the configuration and of the state. Definitions only.
use Rattle.std.specs.Prelude.{ℕ, Bool, ◌&&◌, ◌||◌, cond, Float}
use Rattle.std.specs.Float.Ieee.{lt, neg}
use Rattle.std.specs.Float.Ieee.Scale.{finite}
use Rattle.float.specs.Value.{f32, ◌⊕◌, ◌⊖◌, ◌⊗◌, ◌⊘◌}
use Rattle.float.specs.Wrap.{wrapped}
use Rattle.call.specs.Said.{Said, done}
use Rattle.call.specs.Port.{Asked, Port, given, settled_by}
use Rattle.call.specs.Edition.{is_edition, edition_of}
use Rattle.call.specs.declared.edition.Edition.{Edition}
use Rattle.call.specs.declared.edition.Edition.TheVariants.{First, Second}
use Rattle.trig.specs.Angle.{sine, cosine}
use Rattle.trig.specs.declared.Both.{Both}
use Rattle.channel.specs.Ranges.{takes_acceleration, takes_turn}
use Rattle.position.specs.Position as position
use Rattle.position.specs.Position.{position_sound}
use Rattle.velocity.specs.Velocity as velocity
use Rattle.velocity.specs.Velocity.{velocity_sound, speed_of}
use Rattle.yaw.specs.Yaw as yaw
use Rattle.yaw.specs.Yaw.{yaw_sound}
use Rattle.bias.specs.Bias.{bias_sound}
use Rattle.ekf.specs.Making.{config_sound}
use Rattle.ekf.specs.declared.predict.Shift.{Shift}
use Rattle.position.specs.declared.Position.{Position}
use Rattle.velocity.specs.declared.Velocity.{Velocity}
use Rattle.yaw.specs.declared.Yaw.{Yaw}
use Rattle.bias.specs.declared.Bias.{Bias}
use Rattle.ekf.specs.declared.Ekf.{Ekf}

-- every number of the state
abbrev pub filter_sound : Ekf → Bool
filter_sound f = (position_sound f.position && velocity_sound f.velocity) && (yaw_sound f.yaw && bias_sound f.bias)

-- ---- the two models
-- speed > min_speed and |wz| > 1e-4
abbrev pub turns : Float → Float → Float → Bool
turns speed min_speed wz = lt min_speed speed && (lt (f32 0x38d1_b717) wz || lt wz (neg (f32 0x38d1_b717)))

-- What sine and cosine gain in the turn, from the heading on in edition 1: sin_d = (psi + wz * dt).sin() - psi.sin(); cos_d likewise.
-- In edition 2 from 0 on: a = sin(wz * dt), b = cos(wz * dt) - 1.
abbrev pub gained : Edition → Float → Float → Both
gained First psi turn = record { sine = sine (psi ⊕ turn) ⊖ sine psi; cosine = cosine (psi ⊕ turn) ⊖ cosine psi }
gained Second psi turn = record { sine = sine turn; cosine = cosine turn ⊖ f32 0x3f80_0000 }

-- x += sin_d / wz * vx + cos_d / wz * vy; y += -cos_d / wz * vx + sin_d / wz * vy; in edition 2 with a for sin_d and b for cos_d
abbrev pub turning : Edition → Float → Float → Float → Float → Float → Shift
turning e psi wz dt vx vy =
    let d = gained e psi (wz ⊗ dt) in
    record { x = d.sine ⊘ wz ⊗ vx ⊕ d.cosine ⊘ wz ⊗ vy; y = neg d.cosine ⊘ wz ⊗ vx ⊕ d.sine ⊘ wz ⊗ vy }

-- x += vx * dt + 0.5 * (ax_earth - bax) * dt * dt; y likewise
abbrev pub straight : Float → Float → Float → Float → Float → Shift
straight a_x a_y vx vy dt =
    record {
      x = vx ⊗ dt ⊕ f32 0x3f00_0000 ⊗ a_x ⊗ dt ⊗ dt;
      y = vy ⊗ dt ⊕ f32 0x3f00_0000 ⊗ a_y ⊗ dt ⊗ dt;
    }

-- ---- the four channels
-- qx = 0.25 * q_acc * dt * dt
abbrev pub shifted : Position → Shift → Float → Float → Position
shifted s d q_acc dt =
    let qx = f32 0x3e80_0000 ⊗ q_acc ⊗ dt ⊗ dt in
    position.with_axes (record { x = s.x.x ⊕ d.x; p = s.x.p ⊕ qx }) (record { x = s.y.x ⊕ d.y; p = s.y.p ⊕ qx }) s

-- vx += (ax_earth - bax) * dt; vy likewise; qv = q_acc * dt * dt
abbrev pub sped : Velocity → Float → Float → Float → Float → Velocity
sped s a_x a_y q_acc dt =
    let qv = q_acc ⊗ dt ⊗ dt in
    velocity.with_axes (record { x = s.x.x ⊕ a_x ⊗ dt; p = s.x.p ⊕ qv }) (record { x = s.y.x ⊕ a_y ⊗ dt; p = s.y.p ⊕ qv }) s

-- psi += wz * dt; psi = wrap_angle(psi); p[2] += q_gyro * dt * dt
abbrev pub swung : Yaw → Float → Float → Float → Yaw
swung s wz q_gyro dt = yaw.with_angle (record { x = wrapped (s.angle.x ⊕ wz ⊗ dt); p = s.angle.p ⊕ q_gyro ⊗ dt ⊗ dt }) s

-- p[5] += q_bias * dt + 1e-6; p[6] likewise; the biases stay
abbrev pub drifted : Bias → Float → Float → Bias
drifted s q_bias dt =
    let q = q_bias ⊗ dt ⊕ f32 0x3586_37bd in
    record { x = record { x = s.x.x; p = s.x.p ⊕ q }; y = record { x = s.y.x; p = s.y.p ⊕ q } }

-- ---- the call
abbrev pub shift_of : Edition → Ekf → Float → Float → Float → Float → Shift
shift_of e f a_x a_y wz dt =
    let vx = f.velocity.x.x in
    let vy = f.velocity.y.x in
    cond (turns (speed_of f.velocity) f.config.min_speed wz) (turning e f.yaw.angle.x wz dt vx vy) (straight a_x a_y vx vy dt)

abbrev pub predicted : Edition → Float → Float → Float → Float → Ekf → Ekf
predicted e ax_earth ay_earth wz dt f =
    let a_x = ax_earth ⊖ f.bias.x.x in
    let a_y = ay_earth ⊖ f.bias.y.x in
    record {
      config = f.config;
      position = shifted f.position (shift_of e f a_x a_y wz dt) f.config.q_acc dt;
      velocity = sped f.velocity a_x a_y f.config.q_acc dt;
      yaw = swung f.yaw wz f.config.q_gyro dt;
      bias = drifted f.bias f.config.q_bias dt;
    }

-- the edition's number, ax_earth, ay_earth, wz, dt
pub data PredictCall : Type 0 where
  predict : ℕ → Float → Float → Float → Float → PredictCall

abbrev asks_predict : PredictCall → Ekf → Asked Ekf
asks_predict (predict n ax_earth ay_earth wz dt) f =
    given ((finite ax_earth && finite ay_earth) && (finite wz && finite dt)) ((takes_acceleration ax_earth && takes_acceleration ay_earth) && (takes_turn wz dt && is_edition n)) (config_sound f.config)
    (done, predicted (edition_of n) ax_earth ay_earth wz dt f)

abbrev pub predict_port : Port PredictCall Ekf
predict_port = record { sound = filter_sound; asks = asks_predict }

abbrev pub on_predict : ℕ → Float → Float → Float → Float → Ekf → Said × Ekf
on_predict n ax_earth ay_earth wz dt f = settled_by predict_port (predict n ax_earth ay_earth wz dt) f
