-- The convoy: a measurement as a call of the filter, and a row of filters. Definitions only.
use Rattle.std.specs.Prelude.{ℕ, List}
use Rattle.call.specs.Said.{Said}
use Rattle.position.specs.Position.{update_position}
use Rattle.velocity.specs.Velocity.{update_velocity, update_speed}
use Rattle.yaw.specs.Yaw.{update_yaw}
use Rattle.bias.specs.Bias.{update_bias}
use Rattle.ekf.specs.Machines.{one, two, three, four}
use Rattle.ekf.specs.Calls.{Call, on_channel}
use Rattle.ekf.specs.Making.{default_config, fresh}
use Rattle.ekf.specs.declared.Ekf.{Ekf}
use Rattle.convoy.specs.Row.{on_row}
use Rattle.convoy.specs.declared.Measurement.{Measurement}
use Rattle.convoy.specs.declared.Measurement.TheVariants.{Position, Velocity, Speed, Yaw, Bias}

-- "The measurement is given as position, velocity, speed, yaw or bias, with its numbers in it"
abbrev pub call_of : Measurement → Call
call_of (Position z_x z_y) = one (update_position z_x z_y)
call_of (Velocity z_vx z_vy) = two (update_velocity z_vx z_vy)
call_of (Speed z_speed) = two (update_speed z_speed)
call_of (Yaw z_yaw) = three (update_yaw z_yaw)
call_of (Bias z_ax z_ay) = four (update_bias z_ax z_ay)

-- what the car alone answers, and its filter after it
unfoldable pub taken : Measurement → Ekf → Said × Ekf
taken m f = on_channel (call_of m) f

-- "It takes a lent row of filters, a car number and one measurement, and changes that car's filter only"
unfoldable pub update_car : ℕ → Measurement → List Ekf → Said × List Ekf
update_car = on_row taken (fresh default_config)
