-- Demand 3: the calls of the four channels, merged in any order that keeps each channel's own, from any state, sound or not. Assumes nothing.
-- It runs `call_position`, `call_velocity`, `call_yaw` and `call_bias`, through which every method's promise is stated.
use Rattle.std.specs.Prelude.{◌≡◌, refl, List, ◌∷◌, ◌++◌}
use Rattle.std.proofs.Common.{sym, ap, ◌∙◌}
use Rattle.call.specs.Said.{Said}
use Rattle.ekf.specs.Machines.{Any, one, two, three, four, which, split, run, run_in, each, alone, swap}
use Rattle.position.specs.Position.{PositionCall, on_position}
use Rattle.velocity.specs.Velocity.{VelocityCall, on_velocity}
use Rattle.yaw.specs.Yaw.{YawCall, on_yaw}
use Rattle.bias.specs.Bias.{BiasCall, on_bias}
use Rattle.ekf.specs.Filter.{call_position, call_velocity, call_yaw, call_bias}
use Rattle.ekf.specs.Calls.{Call}
use Rattle.ekf.specs.declared.EkfConfig.{EkfConfig}
use Rattle.position.specs.declared.Position.{Position}
use Rattle.velocity.specs.declared.Velocity.{Velocity}
use Rattle.yaw.specs.declared.Yaw.{Yaw}
use Rattle.bias.specs.declared.Bias.{Bias}
use Rattle.ekf.specs.declared.Ekf.{Ekf}

-- the answer to a call of one of the four channels
abbrev pub Answers : Type 0
Answers = Any Said Said Said Said

abbrev pub on_call : Call → Ekf → Answers × Ekf
on_call (one c) f = let r = call_position c f in (one r.0, r.1)
on_call (two c) f = let r = call_velocity c f in (two r.0, r.1)
on_call (three c) f = let r = call_yaw c f in (three r.0, r.1)
on_call (four c) f = let r = call_bias c f in (four r.0, r.1)

-- a list of one channel's calls, run alone
abbrev pub run_position : List PositionCall → Ekf → List Said × Position
run_position l f = run (on_position f.config.r_pos) l f.position

abbrev pub run_velocity : List VelocityCall → Ekf → List Said × Velocity
run_velocity l f = run (on_velocity f.config.r_vel) l f.velocity

abbrev pub run_yaw : List YawCall → Ekf → List Said × Yaw
run_yaw l f = run (on_yaw f.config.r_yaw) l f.yaw

abbrev pub run_bias : List BiasCall → Ekf → List Said × Bias
run_bias l f = run on_bias l f.bias

-- Merged calls: every call, refused ones too, answers as if its own list had run alone, a gate with the same value, and the filter ends as the four lists, run alone, leave their channels.
pub record Separate (m : List Call) (f : Ekf) : Type 0 where
  pub answers : split (run on_call m f).0 ≡ ((run_position (split m).0 f).0, (run_velocity (split m).1 f).0, (run_yaw (split m).2 f).0, (run_bias (split m).3 f).0)
  pub ends :
      (run on_call m f).1 ≡
      record {
        config = f.config;
        position = (run_position (split m).0 f).1;
        velocity = (run_velocity (split m).1 f).1;
        yaw = (run_yaw (split m).2 f).1;
        bias = (run_bias (split m).3 f).1;
      }

-- ---- the filter is its four channels beside a configuration that no call changes
abbrev States : Type 0
States = Position × Velocity × Yaw × Bias

abbrev put : EkfConfig → States → Ekf
put k s = record { config = k; position = s.0; velocity = s.1; yaw = s.2; bias = s.3 }

abbrev each_of : EkfConfig → Call → States → Answers × States
each_of k = each (on_position k.r_pos) (on_velocity k.r_vel) (on_yaw k.r_yaw) on_bias

law : (k : EkfConfig) (c : Call) (s : States) → on_call c (put k s) ≡ ((each_of k c s).0, put k (each_of k c s).1)
law k (one c) s = refl
law k (two c) s = refl
law k (three c) s = refl
law k (four c) s = refl

pub separate : (m : List Call) (f : Ekf) → Separate m f
separate m f =
    let k = f.config in
    let s : States = (f.position, f.velocity, f.yaw, f.bias) in
    let a = alone (on_position k.r_pos) (on_velocity k.r_vel) (on_yaw k.r_yaw) on_bias m s in
    let within = run_in (put k) on_call (each_of k) (law k) m s in
    record { answers = rw within a.answers; ends = rw within (ap (put k) a.ends) }

-- ---- what follows
-- two runs that end in one state and give each channel the same answers
pub record Same (m n : List Call) (f : Ekf) : Type 0 where
  pub answers : split (run on_call m f).0 ≡ split (run on_call n f).0
  pub ends : (run on_call m f).1 ≡ (run on_call n f).1

-- two merges of the same four lists
pub merges_agree : (m n : List Call) → split m ≡ split n → (f : Ekf) → Same m n f
merges_agree m n e f =
    let a = separate m f in
    let b = separate n f in
    record { answers = a.answers ∙ rw e (sym b.answers); ends = a.ends ∙ rw e (sym b.ends) }

-- two neighbouring calls of different channels, swapped
pub swap_agrees : (k : List Call) (c d : Call) → (which c ≡ which d → ⊥) → (l : List Call) (f : Ekf) → Same (k ++ (c ∷ d ∷ l)) (k ++ (d ∷ c ∷ l)) f
swap_agrees k c d h l f = merges_agree (k ++ (c ∷ d ∷ l)) (k ++ (d ∷ c ∷ l)) (swap k c d h l) f
