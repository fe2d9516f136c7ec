-- The letter's three demands are met. Assumes nothing.
use Rattle.std.specs.Prelude.{◌≡◌, refl, Bool, true, false, cond, List, [], ◌∷◌, T, Float}
use Rattle.std.proofs.Common.{sym, ap, ◌∙◌}
use Rattle.std.specs.Float.Ieee as Ieee
use Rattle.std.specs.Float.Ieee.{eq, lt}
use Rattle.std.specs.Float.Ieee.Bits.{is_true}
use Rattle.float.specs.Value.{pi, zero32}
use Rattle.call.specs.Said.{Said, done}
use Rattle.call.specs.Port.{Port, refusal_in, settled_by, Making, refusal_of_making, made_by}
use Rattle.call.specs.PortLaws.{Settles, settles_by, settles_making}
use Rattle.float.specs.Root.{root}
use Rattle.float.specs.RootFloat.{root_nearest, root_unique}
use Rattle.trig.specs.Angle.{turned}
use Rattle.trig.specs.Tangent.{usable, level, arc_tangent}
use Rattle.trig.proofs.Distance.{sine_near, cosine_near}
use Rattle.trig.proofs.TangentDistance.{level_is, arc_tangent_near}
use Rattle.position.specs.Position.{PositionCall}
use Rattle.velocity.specs.Velocity.{VelocityCall}
use Rattle.yaw.specs.Yaw.{YawCall}
use Rattle.bias.specs.Bias.{BiasCall}
use Rattle.ekf.specs.Machines.{one, two, three, four, split, run, run_in}
use Rattle.ekf.specs.Calls.{Call, on_channel}
use Rattle.ekf.specs.FilterLaws.{position_settles, velocity_settles, yaw_settles, bias_settles}
use Rattle.ekf.specs.Order.{Answers, on_call, run_position, run_velocity, run_yaw, run_bias, separate, merges_agree}
use Rattle.ekf.specs.Filter.{call_position, call_velocity, call_yaw, call_bias}
use Rattle.ekf.specs.declared.Ekf.{Ekf}
use Rattle.verdicts.specs.Order.{order}
use Rattle.buckets.specs.Summary.{summary_port, added}
use Rattle.settled.specs.Demands.Stated.{Refuses, RefusesMaking, Equals, EqualsMaking, OfCalls, OfMaking, marked, alone, Separates, Everywhere, Demand1, Demand2, Demand3}

-- ---- what answers as a port settles, and a making likewise
abbrev pub Settled : {C S : Type 0} → Port C S → (C → S → Said × S) → Type 0
Settled {C} {S} p on = (c : C) (s : S) → on c s ≡ settled_by p c s

abbrev pub SettledMaking : {P S : Type 0} → Making P S → (P → Said × S) → Type 0
SettledMaking {P} m made = (p : P) → made p ≡ made_by m p

module _ {C S : Type 0} (p : Port C S) (on : C → S → Said × S) (h : Settled p on) where
  each : (c : C) (s : S) → Settles (refusal_in p c s) s (p.asks c s).rust (on c s)
  each c s = rw (h c s) (settles_by p c s)

  pub refuses : Refuses p on
  refuses = record { exactly = λ c s. (each c s).exactly; either = λ c s. (each c s).either; returns = λ c s. (each c s).returns }

  pub equals : Equals p on
  equals = record { equals = λ c s. (each c s).equals }

module _ {P S : Type 0} (m : Making P S) (made : P → Said × S) (h : SettledMaking m made) where
  each_making : (p : P) → Settles (refusal_of_making m p) m.blank (done, m.rust p) (made p)
  each_making p = rw (h p) (settles_making m p)

  pub refuses_making : RefusesMaking m made
  refuses_making = record { exactly = λ p. (each_making p).exactly; either = λ p. (each_making p).either; returns = λ p. (each_making p).returns }

  pub equals_making : EqualsMaking m made
  equals_making = record { equals = λ p. (each_making p).equals }

-- ---- what follows of whatever answers as its port settles, holds everywhere: our calls do so by definition, and a channel's call on the filter by a law
pub everywhere :
    (D : OfCalls) (M : OfMaking) → ((C S : Type 0) (p : Port C S) (on : C → S → Said × S) → Settled p on → D C S p on)
    → ((P S : Type 0) (m : Making P S) (made : P → Said × S) → SettledMaking m made → M P S m made) → Everywhere D M
everywhere D M calls making =
    record {
      filter =
          record {
            position = calls _ _ _ _ position_settles;
            velocity = calls _ _ _ _ velocity_settles;
            yaw = calls _ _ _ _ yaw_settles;
            bias = calls _ _ _ _ bias_settles;
          };
      predict = calls _ _ _ _ (λ c s. refl);
      reset_gate_stats = calls _ _ _ _ (λ c s. refl);
      making = making _ _ _ _ (λ p. refl);
      position = λ r. calls _ _ _ _ (λ c s. refl);
      velocity = λ r. calls _ _ _ _ (λ c s. refl);
      yaw = λ r. calls _ _ _ _ (λ c s. refl);
      bias = calls _ _ _ _ (λ c s. refl);
      lowpass = calls _ _ _ _ (λ c s. refl);
      lowpass_making = making _ _ _ _ (λ p. refl);
      gps = calls _ _ _ _ (λ c s. refl);
      tilt = calls _ _ _ _ (λ c s. refl);
      tilt_making = making _ _ _ _ (λ p. refl);
      yaw_rate = calls _ _ _ _ (λ c s. refl);
      yaw_rate_making = making _ _ _ _ (λ p. refl);
      orientation = calls _ _ _ _ (λ c s. refl);
      orientation_making = making _ _ _ _ (λ p. refl);
      aligner = calls _ _ _ _ (λ c s. refl);
      aligner_making = making _ _ _ _ (λ p. refl);
      blend = calls _ _ _ _ (λ c s. refl);
      sine = calls _ _ _ _ (λ c s. refl);
      cosine = calls _ _ _ _ (λ c s. refl);
      arc_tangent = calls _ _ _ _ (λ c s. refl);
      root = calls _ _ _ _ (λ c s. refl);
      wrap = calls _ _ _ _ (λ c s. refl);
    }

pub demand_1 : Demand1
demand_1 = record { everywhere = everywhere _ _ (λ C S p on h. refuses p on h) (λ P S m made h. refuses_making m made h); summary = λ {E}. refuses (summary_port {E = E}) added (λ v s. refl) }

-- ---- the root of a zero, and the arc tangent of a zero y
zero_root : (s : Bool) → root (turned s zero32) ≡ turned s zero32
unfolding root Ieee.neg Ieee.of_bits
zero_root true = refl
zero_root false = refl

zero_usable : (s : Bool) → T (usable (turned s zero32))
unfolding usable Ieee.le Ieee.lt Ieee.eq Ieee.neg Ieee.of_bits
zero_usable true = tt
zero_usable false = tt

zero_is : (s : Bool) → eq (turned s zero32) zero32 ≡ true
unfolding Ieee.eq Ieee.neg Ieee.of_bits
zero_is true = refl
zero_is false = refl

zero_level : (s : Bool) (x : Float) → T (usable x) → arc_tangent (turned s zero32) x ≡ level x
zero_level s x u = level_is (turned s zero32) x (zero_usable s) u (zero_is s)

level_zero : (t : Bool) → level (turned t zero32) ≡ zero32
unfolding Ieee.lt Ieee.neg Ieee.of_bits
level_zero true = refl
level_zero false = refl

pub demand_2 : Demand2
demand_2 =
    record {
      everywhere = everywhere _ _ (λ C S p on h. equals p on h) (λ P S m made h. equals_making m made h);
      nearest = root_nearest;
      no_other = root_unique;
      root_of_zero = zero_root;
      sine_near = sine_near;
      cosine_near = cosine_near;
      arc_tangent_near = arc_tangent_near;
      arc_tangent_origin = λ s t. zero_level s (turned t zero32) (zero_usable t) ∙ level_zero t;
      arc_tangent_behind = λ s x u l. zero_level s x u ∙ ap (λ (b : Bool). cond b pi zero32) (is_true (lt x zero32) l);
    }

-- ---- demand 3: the order theorem of the filter runs `on_call`, which is `on_channel` with its answers marked
is_marked : (c : Call) (f : Ekf) → marked on_channel c f ≡ on_call c f
is_marked (one c) f = refl
is_marked (two c) f = refl
is_marked (three c) f = refl
is_marked (four c) f = refl

runs_marked : (m : List Call) (f : Ekf) → run (marked on_channel) m f ≡ run on_call m f
runs_marked m f = run_in (λ s. s) (marked on_channel) on_call is_marked m f

ends_plain : (m : List Call) (f : Ekf) → (run on_channel m f).1 ≡ (run on_call m f).1
ends_plain [] f = refl
ends_plain (one c ∷ m) f = ends_plain m (call_position c f).1
ends_plain (two c ∷ m) f = ends_plain m (call_velocity c f).1
ends_plain (three c ∷ m) f = ends_plain m (call_yaw c f).1
ends_plain (four c ∷ m) f = ends_plain m (call_bias c f).1

-- a channel's list on the filter answers as on the channel
position_alone : (l : List PositionCall) (f : Ekf) → (run_position l f).0 ≡ alone on_channel one l f
position_alone [] f = refl
position_alone (c ∷ l) f = ap (λ (v : List Said). (call_position c f).0 ∷ v) (position_alone l (call_position c f).1)

velocity_alone : (l : List VelocityCall) (f : Ekf) → (run_velocity l f).0 ≡ alone on_channel two l f
velocity_alone [] f = refl
velocity_alone (c ∷ l) f = ap (λ (v : List Said). (call_velocity c f).0 ∷ v) (velocity_alone l (call_velocity c f).1)

yaw_alone : (l : List YawCall) (f : Ekf) → (run_yaw l f).0 ≡ alone on_channel three l f
yaw_alone [] f = refl
yaw_alone (c ∷ l) f = ap (λ (v : List Said). (call_yaw c f).0 ∷ v) (yaw_alone l (call_yaw c f).1)

bias_alone : (l : List BiasCall) (f : Ekf) → (run_bias l f).0 ≡ alone on_channel four l f
bias_alone [] f = refl
bias_alone (c ∷ l) f = ap (λ (v : List Said). (call_bias c f).0 ∷ v) (bias_alone l (call_bias c f).1)

pub separates : Separates on_channel
separates =
    record {
      ends = λ m m' e f. ends_plain m f ∙ (merges_agree m m' e f).ends ∙ sym (ends_plain m' f);
      answers =
          λ m f.
          ap (λ (q : List Answers × Ekf). split q.0) (runs_marked m f) ∙ (separate m f).answers
          ∙ simp (position_alone (split m).0 f, velocity_alone (split m).1 f, yaw_alone (split m).2 f, bias_alone (split m).3 f);
    }

pub demand_3 : Demand3
demand_3 = record { filter = separates; logs = order }
