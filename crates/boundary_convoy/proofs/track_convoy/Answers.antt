use Rattle.std.proofs.Common.{◌≡◌, refl, ℕ, ◌<◌, sym, arith}
use Rattle.convoy.specs.Row.{row_refusal}
use Rattle.convoy.specs.RowLaws.{row_open as has_car}
use Rattle.call.specs.Once.{not_zero}
use Rattle.boundary_convoy.specs.RowLaws.{row_shut, row_open}
use Rattle.boundary_convoy.proofs.track_convoy.Goals as goal

-- a car of a row that is open to it has its place among sixteen
placed : (cars car : ℕ) → 0 ≡ row_refusal cars car → car < 16
placed cars car e = let h = has_car cars car (sym e) in omega (arith, h.0, h.1)

pub returns-in-Err : goal.returns-in-Err
returns-in-Err c = rw c.from.ensures (row_shut _ _ _ c.in-Err.ensures (not_zero c.in-Err.refusal))

pub offset_bounds-numbers-car : goal.offset_bounds-numbers-car
offset_bounds-numbers-car c = let h = placed _ _ c.in-Ok.ensures in record { fits = omega arith }

pub bounds-numbers-car : goal.bounds-numbers-car
bounds-numbers-car c = placed _ _ c.in-Ok.ensures

pub offset_bounds-counts-car : goal.offset_bounds-counts-car
offset_bounds-counts-car c = let h = placed _ _ c.in-Ok.ensures in record { fits = omega arith }

pub bounds-counts-car : goal.bounds-counts-car
bounds-counts-car c = placed _ _ c.in-Ok.ensures

pub returns-in-Ok : goal.returns-in-Ok
returns-in-Ok c = row_open _ c.in-Ok.ensures refl c.asked_of-asked.ensures c.ask.ensures
