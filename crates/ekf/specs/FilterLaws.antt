-- A channel's call on the filter is a call of the filter: it settles as its port says. And a prediction moves the states and variances alone. Assumes nothing.
use Rattle.std.specs.Prelude.{ℕ, ◌≡◌, refl, Bool, true, false, cond, eqb, Float}
use Rattle.call.specs.Port.{inside, settled_by, refusal_in}
use Rattle.call.specs.PortLaws.{put_back}
use Rattle.call.specs.Edition.{edition_of}
use Rattle.position.specs.Position.{PositionCall, asks_position, position_sound}
use Rattle.velocity.specs.Velocity.{VelocityCall, asks_velocity, velocity_sound}
use Rattle.yaw.specs.Yaw.{YawCall, asks_yaw, yaw_sound}
use Rattle.bias.specs.Bias.{BiasCall, asks_bias, bias_sound}
use Rattle.ekf.specs.Filter.{with_position, with_velocity, with_yaw, with_bias, with_motion, call_position, call_velocity, call_yaw, call_bias, position_calls, velocity_calls, yaw_calls, bias_calls}
use Rattle.ekf.specs.Predict.{predict, predict_port, predicted, on_predict}
use Rattle.ekf.specs.declared.Ekf.{Ekf}

pub position_settles : (c : PositionCall) (f : Ekf) → call_position c f ≡ settled_by position_calls c f
position_settles = put_back position_sound (λ f. asks_position f.config.r_pos) (λ f. f.position) with_position (λ f. refl) (λ f s. refl)

pub velocity_settles : (c : VelocityCall) (f : Ekf) → call_velocity c f ≡ settled_by velocity_calls c f
velocity_settles = put_back velocity_sound (λ f. asks_velocity f.config.r_vel) (λ f. f.velocity) with_velocity (λ f. refl) (λ f s. refl)

pub yaw_settles : (c : YawCall) (f : Ekf) → call_yaw c f ≡ settled_by yaw_calls c f
yaw_settles = put_back yaw_sound (λ f. asks_yaw f.config.r_yaw) (λ f. f.yaw) with_yaw (λ f. refl) (λ f s. refl)

pub bias_settles : (c : BiasCall) (f : Ekf) → call_bias c f ≡ settled_by bias_calls c f
bias_settles = put_back bias_sound (λ f. asks_bias) (λ f. f.bias) with_bias (λ f. refl) (λ f s. refl)

-- ---- the prediction
either : (b : Bool) (f g : Ekf) → with_motion f g ≡ g → with_motion f (cond b g f) ≡ cond b g f
either true f g e = e
either false f g e = refl

pub moves_only :
    (n : ℕ) (ax_earth ay_earth wz dt : Float) (f : Ekf) → inside (with_motion f) (on_predict n ax_earth ay_earth wz dt f) ≡ on_predict n ax_earth ay_earth wz dt f
moves_only n ax_earth ay_earth wz dt f =
    rw (either (eqb (refusal_in predict_port (predict n ax_earth ay_earth wz dt) f) 0) f (predicted (edition_of n) ax_earth ay_earth wz dt f) refl)
