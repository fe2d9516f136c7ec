-- The convoy's laws that need something of the filter: its own laws, by their names. A refused measurement hands the filter back, so that it leaves the row; and inside each car the calls of its channels may be merged in any order. Assumes nothing.
use Rattle.std.specs.Prelude.{ℕ, ◌≤◌, ◌≡◌, List}
use Rattle.call.specs.Said.{Said, number}
use Rattle.call.specs.Port.{Port, settled_by}
use Rattle.call.specs.PortLaws.{settles_by, at_most_six}
use Rattle.ekf.specs.Machines.{one, two, three, four}
use Rattle.ekf.specs.Filter.{position_calls, velocity_calls, yaw_calls, bias_calls}
use Rattle.ekf.specs.FilterLaws.{position_settles, velocity_settles, yaw_settles, bias_settles}
use Rattle.ekf.specs.Calls.{Call, on_channel}
use Rattle.ekf.specs.Making.{default_config, fresh}
use Rattle.ekf.specs.declared.Ekf.{Ekf}
use Rattle.convoy.specs.RowLaws as row
use Rattle.convoy.specs.Convoy.{call_of, taken, update_car}
use Rattle.convoy.specs.declared.Measurement.{Measurement}

-- ---- one call
-- a call of a channel settles by its port, so a refused one hands the filter back, and its number is at most 6
settles : {C : Type 0} (p : Port C Ekf) (c : C) (f : Ekf) (t : Said × Ekf) → t ≡ settled_by p c f → ((number t.0 ≡ 0 → ⊥) → t.1 ≡ f) × (number t.0 ≤ 6)
settles p c f t e = rw e ((settles_by p c f).returns, at_most_six p c f)

by_channel : (c : Call) (f : Ekf) → ((number (on_channel c f).0 ≡ 0 → ⊥) → (on_channel c f).1 ≡ f) × (number (on_channel c f).0 ≤ 6)
by_channel (one c) f = settles position_calls c f _ (position_settles c f)
by_channel (two c) f = settles velocity_calls c f _ (velocity_settles c f)
by_channel (three c) f = settles yaw_calls c f _ (yaw_settles c f)
by_channel (four c) f = settles bias_calls c f _ (bias_settles c f)

pub taken_keeps : (m : Measurement) (f : Ekf) → (number (taken m f).0 ≡ 0 → ⊥) → (taken m f).1 ≡ f
unfolding taken
taken_keeps m f = (by_channel (call_of m) f).0

pub taken_number : (m : Measurement) (f : Ekf) → number (taken m f).0 ≤ 6
unfolding taken
taken_number m f = (by_channel (call_of m) f).1

-- a refused call leaves the row as it was, whoever refused it
pub refused_keeps : (car : ℕ) (m : Measurement) (filters : List Ekf) → (number (update_car car m filters).0 ≡ 0 → ⊥) → (update_car car m filters).1 ≡ filters
unfolding update_car
refused_keeps = row.refused_keeps taken (fresh default_config) taken_keeps
