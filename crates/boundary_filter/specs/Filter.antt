-- Made from docs/boundary.txt by tools/boundary.
-- The filter in the caller's memory: which operation is which call. Definitions only.
use Rattle.std.specs.Prelude.{ℕ, cond, List, eqb, ltb, get_or, Float}
use Rattle.std.specs.Float.{nan}
use Rattle.position.specs.Position.{update_position, lock_position, skip_prediction, reset_nis_stats, position, position_gate_stats, get_nis_position_avg, get_gps_discrepancy, get_effective_pos_sigma}
use Rattle.velocity.specs.Velocity.{update_velocity, update_speed, zupt, velocity, speed, velocity_gate_stats}
use Rattle.yaw.specs.Yaw.{update_yaw, update_yaw_soft, lock_yaw, store_moving_yaw, yaw, yaw_gate_stats, get_last_moving_yaw}
use Rattle.bias.specs.Bias.{update_bias, biases}
use Rattle.ekf.specs.Machines.{one, two, three, four}
use Rattle.ekf.specs.Making.{default_config}
use Rattle.ekf.specs.Calls.{FilterCall, configuration, prediction, channel, reset, unknown, on_filter}
use Rattle.ekf.specs.declared.EkfConfig.{EkfConfig}
use Rattle.ekf.specs.declared.Ekf.{Ekf}
use Rattle.words.specs.Words.{Turn, turn}

-- an operation with its arguments, on a filter of this configuration
unfoldable pub filter_call : ℕ → List Float → EkfConfig → FilterCall
filter_call operation arguments config =
    cond (eqb operation 0) (configuration config)
    (cond (eqb operation 1) (prediction (get_or arguments 0 nan) (get_or arguments 1 nan) (get_or arguments 2 nan) (get_or arguments 3 nan))
    (cond (eqb operation 2) (channel (one (update_position (get_or arguments 0 nan) (get_or arguments 1 nan))))
    (cond (eqb operation 3) (channel (one lock_position))
    (cond (eqb operation 4) (channel (one skip_prediction))
    (cond (eqb operation 5) (channel (one reset_nis_stats))
    (cond (eqb operation 6) (channel (two (update_velocity (get_or arguments 0 nan) (get_or arguments 1 nan))))
    (cond (eqb operation 7) (channel (two (update_speed (get_or arguments 0 nan))))
    (cond (eqb operation 8) (channel (two zupt))
    (cond (eqb operation 9) (channel (three (update_yaw (get_or arguments 0 nan))))
    (cond (eqb operation 10) (channel (three (update_yaw_soft (get_or arguments 0 nan) (get_or arguments 1 nan))))
    (cond (eqb operation 11) (channel (three lock_yaw))
    (cond (eqb operation 12) (channel (three (store_moving_yaw (get_or arguments 0 nan))))
    (cond (eqb operation 13) (channel (four (update_bias (get_or arguments 0 nan) (get_or arguments 1 nan))))
    (cond (eqb operation 14) (reset)
    (cond (eqb operation 15) (configuration default_config)
    (cond (eqb operation 16) (channel (one position))
    (cond (eqb operation 17) (channel (one position_gate_stats))
    (cond (eqb operation 18) (channel (one get_nis_position_avg))
    (cond (eqb operation 19) (channel (one get_gps_discrepancy))
    (cond (eqb operation 20) (channel (one get_effective_pos_sigma))
    (cond (eqb operation 21) (channel (two velocity))
    (cond (eqb operation 22) (channel (two speed))
    (cond (eqb operation 23) (channel (two velocity_gate_stats))
    (cond (eqb operation 24) (channel (three yaw))
    (cond (eqb operation 25) (channel (three yaw_gate_stats))
    (cond (eqb operation 26) (channel (three get_last_moving_yaw))
    (cond (eqb operation 27) (channel (four biases))
    (unknown 2))))))))))))))))))))))))))))

-- the first word is the edition of a prediction; the operations behind the others are readers
unfoldable pub called : ℕ → List Float → List ℕ → Ekf → Turn Ekf
called operation arguments words f = turn (ltb operation 16) (on_filter (get_or words 0 0) (filter_call operation arguments f.config) f)
