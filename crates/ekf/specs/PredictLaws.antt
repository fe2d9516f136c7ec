-- A fresh filter is sound. The sine, the cosine, the wrap and the root of the prediction are never asked beyond their domains from a sound yaw and arguments in range; at heading +0 both editions are one; and a state from which a prediction is refused with 6. Assumes nothing.
use Rattle.std.specs.Prelude.{ℕ, ◌≡◌, refl, Bool, true, false, ◌&&◌, cond, T, Float}
use Rattle.std.proofs.Common.{sym, ap, ◌∙◌}
use Rattle.std.specs.Float.{binary32}
use Rattle.std.specs.Float.Ieee.{of_bits, to_bits, add, sub, mul, div, neg, lt, eq, le, fits}
use Rattle.std.specs.Float.Ieee.Fits.{and_r, mul-fits}
use Rattle.std.specs.Float.Ieee.Scale.{finite}
use Rattle.float.specs.Value.{f32, within, between, pi, zero32, ◌⊕◌, ◌⊖◌, ◌⊗◌, ◌⊘◌}
use Rattle.float.specs.Interval.{In, add_in}
use Rattle.float.specs.Zero.{zero_more}
use Rattle.float.specs.Loop.{run}
use Rattle.float.specs.Root.{root, root_bits, digits, normal, seek}
use Rattle.call.specs.Said.{answer, done, refused}
use Rattle.call.specs.Port.{changes}
use Rattle.call.specs.Edition.{number_of}
use Rattle.call.specs.declared.edition.Edition.{Edition}
use Rattle.call.specs.declared.edition.Edition.TheVariants.{First, Second}
use Rattle.float.specs.Wrap.{inside, limit, wrapped}
use Rattle.trig.specs.Angle.{four, sine, cosine}
use Rattle.trig.specs.declared.Both.{Both}
use Rattle.trig.proofs.AtZero.{sine_zero, cosine_zero}
use Rattle.float.specs.Intervals.{zero_is, from_within, to_within, widen}
use Rattle.channel.specs.Ranges.{is_yaw, takes_turn}
use Rattle.channel.specs.Kalman.{origin}
use Rattle.position.specs.Position as position
use Rattle.velocity.specs.Velocity as velocity
use Rattle.velocity.specs.Velocity.{speed_of}
use Rattle.ekf.specs.Filter.{with_position, with_velocity}
use Rattle.ekf.specs.Making.{default_config, fresh, made}
use Rattle.ekf.specs.Predict.{filter_sound, turns, gained, turning, straight, shifted, predict, predicted, predict_port, on_predict}
use Rattle.ekf.specs.Gained.{less_nothing}
use Rattle.ekf.specs.declared.predict.Shift.{Shift}
use Rattle.ekf.specs.declared.EkfConfig.{EkfConfig}
use Rattle.ekf.specs.declared.Ekf.{Ekf}

-- ---- making
pub fresh_sound : (c : EkfConfig) → T (filter_sound (fresh c))
unfolding of_bits neg le
fresh_sound c = tt

-- the default configuration is taken
pub default_made : made default_config ≡ (answer done, fresh default_config)
unfolding of_bits neg le
default_made = refl

-- ---- the prediction
abbrev half : Float
half = f32 0x3f00_0000

facts : T (finite pi) × T (finite (neg pi)) × T (finite half) × T (finite (neg half)) × T (le (neg four) (neg pi ⊕ neg half)) × T (le (pi ⊕ half) four) × T (le (neg four) (neg pi)) × T (le pi four) × T (le (neg limit) (neg four)) × T (le four limit) × T (le (neg four) (neg half)) × T (le half four)
unfolding of_bits neg add le
facts = (tt, tt, tt, tt, tt, tt, tt, tt, tt, tt, tt, tt)

-- psi, of which a sine and a cosine are taken
pub heading_in : (psi : Float) → T (is_yaw psi) → T (within psi four)
heading_in psi t = to_within psi four (widen (neg pi) pi (neg four) four psi facts.6 facts.7 (from_within psi pi t))

module _ (psi wz dt : Float) (t : T (is_yaw psi)) (u : T (takes_turn wz dt)) where
  ahead : In (neg four) four (psi ⊕ wz ⊗ dt)
  ahead =
      let w = and_r (within wz (f32 0x447a_0000) && between zero32 dt half) (within (wz ⊗ dt) half) u in
      widen (neg pi ⊕ neg half) (pi ⊕ half) (neg four) four (psi ⊕ wz ⊗ dt) facts.4 facts.5
      (add_in binary32 (neg pi) pi (neg half) half psi (wz ⊗ dt) facts.1 facts.0 facts.3 facts.2 (from_within psi pi t) (from_within (wz ⊗ dt) half w))

  -- psi + wz * dt, of which a sine and a cosine are taken, and which is wrapped
  pub turn_in : T (within (psi ⊕ wz ⊗ dt) four)
  turn_in = to_within (psi ⊕ wz ⊗ dt) four ahead

  pub turn_inside : T (inside (psi ⊕ wz ⊗ dt))
  turn_inside = to_within (psi ⊕ wz ⊗ dt) limit (widen (neg four) four (neg limit) limit (psi ⊕ wz ⊗ dt) facts.8 facts.9 ahead)

  -- wz * dt, of which edition 2 takes a sine and a cosine
  pub turn_alone_in : T (within (wz ⊗ dt) four)
  turn_alone_in =
      let w = and_r (within wz (f32 0x447a_0000) && between zero32 dt half) (within (wz ⊗ dt) half) u in
      to_within (wz ⊗ dt) four (widen (neg half) half (neg four) four (wz ⊗ dt) facts.10 facts.11 (from_within (wz ⊗ dt) half w))

-- ---- the editions
-- edition 1 is the original's: sin_d and cos_d are differences from the heading on
pub first_is :
    (psi wz dt vx vy : Float)
    → (let sin_d = sine (psi ⊕ wz ⊗ dt) ⊖ sine psi in
    let cos_d = cosine (psi ⊕ wz ⊗ dt) ⊖ cosine psi in
    turning First psi wz dt vx vy ≡ record { x = sin_d ⊘ wz ⊗ vx ⊕ cos_d ⊘ wz ⊗ vy; y = neg cos_d ⊘ wz ⊗ vx ⊕ sin_d ⊘ wz ⊗ vy })
first_is psi wz dt vx vy = refl

-- edition 2 does not look at the heading
pub second_turned : (psi psi' wz dt vx vy : Float) → turning Second psi wz dt vx vy ≡ turning Second psi' wz dt vx vy
second_turned psi psi' wz dt vx vy = refl

-- at heading +0 they are one, where wz * dt is not zero
gained_alike : (turn : Float) → T (fits binary32 turn) → eq turn zero32 ≡ false → gained First zero32 turn ≡ gained Second zero32 turn
gained_alike turn t n =
    let ahead : zero32 ⊕ turn ≡ turn = rw zero_is (zero_more binary32 turn t (rw zero_is at n)) in
    rw (ahead, sine_zero, cosine_zero, less_nothing turn) refl

pub turning_alike : (wz dt vx vy : Float) → eq (wz ⊗ dt) zero32 ≡ false → turning First zero32 wz dt vx vy ≡ turning Second zero32 wz dt vx vy
turning_alike wz dt vx vy n =
    ap (λ (d : Both). record { x = d.sine ⊘ wz ⊗ vx ⊕ d.cosine ⊘ wz ⊗ vy; y = neg d.cosine ⊘ wz ⊗ vx ⊕ d.sine ⊘ wz ⊗ vy }) (gained_alike (wz ⊗ dt) (mul-fits binary32 wz dt) n)

module _ (ax_earth ay_earth wz dt : Float) (f : Ekf) (ahead : f.yaw.angle.x ≡ zero32) (turn : eq (wz ⊗ dt) zero32 ≡ false) where
  shift_alike : (b : Bool) (s : Shift) → (let vx = f.velocity.x.x in let vy = f.velocity.y.x in cond b (turning First f.yaw.angle.x wz dt vx vy) s ≡ cond b (turning Second f.yaw.angle.x wz dt vx vy) s)
  shift_alike true s = rw ahead (turning_alike wz dt f.velocity.x.x f.velocity.y.x turn)
  shift_alike false s = refl

  predicted_alike : predicted First ax_earth ay_earth wz dt f ≡ predicted Second ax_earth ay_earth wz dt f
  predicted_alike =
      let a_x = ax_earth ⊖ f.bias.x.x in
      let a_y = ay_earth ⊖ f.bias.y.x in
      let d = shift_alike (turns (speed_of f.velocity) f.config.min_speed wz) (straight a_x a_y f.velocity.x.x f.velocity.y.x dt) in
      ap (λ (s : Shift). with_position (predicted Second ax_earth ay_earth wz dt f) (shifted f.position s f.config.q_acc dt)) d

  pub editions_agree : on_predict 1 ax_earth ay_earth wz dt f ≡ on_predict 2 ax_earth ay_earth wz dt f
  editions_agree =
      let a = predict_port.asks (predict 1 ax_earth ay_earth wz dt) f in
      ap (λ (g : Ekf). changes filter_sound a.finite a.in_range a.config true f (answer done, g)) predicted_alike

-- ---- `predict` can be refused with 6 from a sound state: at 1e4 m/s a position of 1e7 leaves its range
abbrev pub rushing : Ekf
rushing =
    let f = fresh default_config in
    let moved = with_position f (position.with_axes (record { x = f32 0x4b18_9680; p = zero32 }) (origin zero32) f.position) in
    with_velocity moved (velocity.with_axes (record { x = f32 0x461c_4000; p = zero32 }) (origin zero32) f.velocity)

pub rushing_sound : filter_sound rushing ≡ true
unfolding of_bits neg le
rushing_sound = refl

pub predict_six : (e : Edition) → on_predict (number_of e) zero32 zero32 zero32 half rushing ≡ (refused 6, rushing)
unfolding of_bits to_bits add sub mul div neg lt eq le root root_bits digits normal seek wrapped run
predict_six First = refl
predict_six Second = refl
