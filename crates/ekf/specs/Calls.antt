-- A call of the filter, as a record of a log and a caller in C both reach it, by the edition that the log has or the caller gives. Definitions only.
use Rattle.std.specs.Prelude.{ℕ, Float}
use Rattle.call.specs.Said.{Said, answer, done, refused}
use Rattle.position.specs.Position.{PositionCall}
use Rattle.velocity.specs.Velocity.{VelocityCall}
use Rattle.yaw.specs.Yaw.{YawCall}
use Rattle.bias.specs.Bias.{BiasCall}
use Rattle.ekf.specs.Machines.{Any, one, two, three, four}
use Rattle.ekf.specs.Filter.{call_position, call_velocity, call_yaw, call_bias, on_reset}
use Rattle.ekf.specs.Making.{made}
use Rattle.ekf.specs.Predict.{on_predict}
use Rattle.ekf.specs.declared.EkfConfig.{EkfConfig}
use Rattle.ekf.specs.declared.Ekf.{Ekf}

-- a call of one of the four channels
abbrev pub Call : Type 0
Call = Any PositionCall VelocityCall YawCall BiasCall

abbrev pub on_channel : Call → Ekf → Said × Ekf
on_channel (one c) f = call_position c f
on_channel (two c) f = call_velocity c f
on_channel (three c) f = call_yaw c f
on_channel (four c) f = call_bias c f

pub data FilterCall : Type 0 where
  -- a fresh filter by a configuration
  configuration : EkfConfig → FilterCall
  -- ax_earth, ay_earth, wz, dt
  prediction : Float → Float → Float → Float → FilterCall
  channel : Call → FilterCall
  -- `reset_gate_stats`
  reset : FilterCall
  -- an edition for the predictions behind it, by its number: it changes no filter
  choice : ℕ → FilterCall
  -- what is asked is no call: the number that says so
  unknown : ℕ → FilterCall

-- what is answered, and the filter after it, where the edition has this number: a prediction looks at it
unfoldable pub on_filter : ℕ → FilterCall → Ekf → Said × Ekf
on_filter n (configuration c) f = made c
on_filter n (prediction ax_earth ay_earth wz dt) f = on_predict n ax_earth ay_earth wz dt f
on_filter n (channel c) f = on_channel c f
on_filter n reset f = on_reset f
on_filter n (choice m) f = (answer done, f)
on_filter n (unknown m) f = (refused m, f)

-- the edition's number behind a call: a log begins with 1, and its edition record gives another
unfoldable pub edition_after : FilterCall → ℕ → ℕ
edition_after (configuration c) n = 1
edition_after (prediction ax_earth ay_earth wz dt) n = n
edition_after (channel c) n = n
edition_after reset n = n
edition_after (choice m) n = m
edition_after (unknown m) n = n
