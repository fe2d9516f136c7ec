-- The letter's three demands, each as a record, over the definitions that the code is proved equal to. `Met` proves that they are met.
-- A component's calls are a port in its own crate: for each call the tests of document 01 and what the Rust answers and leaves, by the ranges and the steps of that crate. So demand 1 says which ranges a call tests and in which order, and demand 2 says which step belongs to which call.
-- What a call answers and leaves is made of its port by one function, `settled_by` in call, so of our own calls both demands are one law. What they say of the code is in the promises: each public function's `ensures` is that it answers and leaves what its port settles. Here they are stated of anything that answers the same calls, so that a wrong filter falls to them.
-- That a step is the Rust's is no statement: a reader sees it where the definition stands beside its Rust lines, and the comparisons with the Rust (oracle/) show it on the calls that they make.
-- That a call "ends" and "reaches nothing undefined" is what a proof of a function means; no public function has a `requires`, so it holds of any bits.
-- That a refused one "writes nothing": these calls have only the state to write, which they hand back; of memory that a caller lends, boundary says it.
-- A log's functions refuse no call: where reading stops is `standing` in tracklog, and what a record asks for is one of these calls, by `entry_of` in verdicts.
use Rattle.std.specs.Prelude.{ℕ, ◌≡◌, Bool, List, ◌∷◌, map, T, Float}
use Rattle.std.specs.Float.{binary32}
use Rattle.std.specs.Float.Ieee.{fits, lt}
use Rattle.std.specs.Float.Ieee.Positive.{positive}
use Rattle.call.specs.Said.{Said, answer, done, refused, number, answered}
use Rattle.call.specs.Port.{Port, refusal_in, settled_by, Making, refusal_of_making}
use Rattle.float.specs.Value.{within, pi, zero32}
use Rattle.float.specs.Wrap.{wrap_port}
use Rattle.float.specs.Root.{Nearest, root, root_port}
use Rattle.trig.specs.Series.{S, C}
use Rattle.trig.specs.Angle.{n, negative, turned, four, sine, cosine, sine_port, cosine_port, Near}
use Rattle.trig.specs.Tangent.{usable, arc_tangent, arc_tangent_port, Bearing}
use Rattle.position.specs.Position.{position_port, on_position}
use Rattle.velocity.specs.Velocity.{velocity_port, on_velocity}
use Rattle.yaw.specs.Yaw.{yaw_port, on_yaw}
use Rattle.bias.specs.Bias.{bias_port, on_bias}
use Rattle.ekf.specs.Machines.{one, two, three, four as fourth, split, run}
use Rattle.ekf.specs.Filter.{position_calls, velocity_calls, yaw_calls, bias_calls, reset_port, on_reset}
use Rattle.ekf.specs.Making.{filter_making, made, fresh}
use Rattle.ekf.specs.Predict.{predict_port}
use Rattle.ekf.specs.Calls.{Call, FilterCall, configuration, on_channel}
use Rattle.ekf.specs.Order.{Answers}
use Rattle.ekf.specs.declared.EkfConfig.{EkfConfig}
use Rattle.ekf.specs.declared.Ekf.{Ekf}
use Rattle.lowpass.specs.Lowpass.{lowpass_port, on_lowpass, lowpass_making, made as made_lowpass}
use Rattle.gps.specs.Gps.{gps_port, on_gps}
use Rattle.tilt.specs.Tilt.{tilt_port, on_tilt, tilt_making, made as made_tilt}
use Rattle.yawrate.specs.YawRate.{yaw_rate_port, on_yaw_rate, yaw_rate_making, made as made_yaw_rate}
use Rattle.orientation.specs.Orientation.{orientation_port, on_orientation, orientation_making, made as made_orientation}
use Rattle.aligner.specs.Aligner.{aligner_port, on_aligner, aligner_making, made as made_aligner}
use Rattle.blend.specs.Blend.{blend_port}
use Rattle.buckets.specs.Summary.{summary_port, added}
use Rattle.verdicts.specs.Fold.{calls, log_edition}
use Rattle.verdicts.specs.Order.{Merged, SameReplay}

-- ---- what a demand says of the calls of one record
-- demand 1
pub record Refuses {C S : Type 0} (p : Port C S) (on : C → S → Said × S) : Type 0 where
  -- "either answers or gives the refusal number of document 01, exactly when that document says": the number is 0 for an answer, and 0 is no refusal
  pub exactly : (c : C) (s : S) → number (on c s).0 ≡ refusal_in p c s
  pub either : (c : C) (s : S) → (on c s).0 ≡ refused 0 → ⊥
  -- "A refused call returns the state as it came in, bit for bit"
  pub returns : (c : C) (s : S) → (number (on c s).0 ≡ 0 → ⊥) → (on c s).1 ≡ s

-- a making has no state that came in: "A refused making hands back the number with a default filter, a fresh learner with all parameters 0, or a low-pass of zeros"
pub record RefusesMaking {P S : Type 0} (m : Making P S) (made : P → Said × S) : Type 0 where
  pub exactly : (p : P) → number (made p).0 ≡ refusal_of_making m p
  pub either : (p : P) → (made p).0 ≡ refused 0 → ⊥
  pub returns : (p : P) → (number (made p).0 ≡ 0 → ⊥) → (made p).1 ≡ m.blank

-- demand 2: "On the stated domain, every answer and every number of the state equals the Rust's, bit for bit"
pub record Equals {C S : Type 0} (p : Port C S) (on : C → S → Said × S) : Type 0 where
  pub equals : (c : C) (s : S) → number (on c s).0 ≡ 0 → on c s ≡ answered (p.asks c s).rust

pub record EqualsMaking {P S : Type 0} (m : Making P S) (made : P → Said × S) : Type 0 where
  pub equals : (p : P) → number (made p).0 ≡ 0 → made p ≡ (answer done, m.rust p)

-- a demand of the calls of a record, and of a making
abbrev pub OfCalls : Type 1
OfCalls = (C S : Type 0) → Port C S → (C → S → Said × S) → Type 0

abbrev pub OfMaking : Type 1
OfMaking = (P S : Type 0) → Making P S → (P → Said × S) → Type 0

-- demands 1 and 2 of the filter's channels, whose calls `on` answers
pub record FilterMeets (D : OfCalls) (on : Call → Ekf → Said × Ekf) : Type 0 where
  pub position : D _ _ position_calls (λ c. on (one c))
  pub velocity : D _ _ velocity_calls (λ c. on (two c))
  pub yaw : D _ _ yaw_calls (λ c. on (three c))
  pub bias : D _ _ bias_calls (λ c. on (fourth c))

-- a call's answer, marked with its channel
abbrev pub marked : (Call → Ekf → Said × Ekf) → Call → Ekf → Answers × Ekf
marked on (one c) f = (one (on (one c) f).0, (on (one c) f).1)
marked on (two c) f = (two (on (two c) f).0, (on (two c) f).1)
marked on (three c) f = (three (on (three c) f).0, (on (three c) f).1)
marked on (fourth c) f = (fourth (on (fourth c) f).0, (on (fourth c) f).1)

-- the answers of one channel's list, run alone
abbrev pub alone : {K : Type 0} → (Call → Ekf → Said × Ekf) → (K → Call) → List K → Ekf → List Said
alone on channel l f = (run on (map channel l) f).0

-- demand 3, of what answers the calls of the four channels: the types of the calls are "position, velocity, yaw and bias lists as document 01 assigns them, with no reset of all tallies and no reader of several channels among them"; `split` gives a merged list's four
pub record Separates (on : Call → Ekf → Said × Ekf) : Type 0 where
  -- "Merge the lists in any order that keeps each list's own order. From any state, sound or not, the end state is the same bit for bit"
  pub ends : (m m' : List Call) → split m ≡ split m' → (f : Ekf) → (run on m f).1 ≡ (run on m' f).1
  -- "and every call, refused ones too, answers as if its own list had run alone"; an answer is all that is said, a gate's verdict with its value
  pub answers :
      (m : List Call) (f : Ekf) →
      split (run (marked on) m f).0 ≡ (alone on one (split m).0 f, alone on two (split m).1 f, alone on three (split m).2 f, alone on fourth (split m).3 f)

-- ---- every public entry point: a demand D of its calls, or M of its making
-- Not here are the functions that have nothing to refuse, such as `Ekf::new` and the tests on floats: each answers what its `ensures` says.
-- Nor are the total cores: `root` and `wrapped` of float, `sine`, `cosine`, `sine_and_cosine` and `arc_tangent` of trig. The crates above call them inside a step, where document 01 has an operation and no call,
-- and they are public because another crate can call a public function only. Each equals its definition on any bits. Where the entry point beside it refuses, a core answers a NaN; but `wrapped` gives the angle as it came, and the root of the positive infinity is that infinity.
pub record Everywhere (D : OfCalls) (M : OfMaking) : Type 0 where
  -- the filter's methods
  pub filter : FilterMeets D on_channel
  pub predict : D _ _ predict_port (settled_by predict_port)
  pub reset_gate_stats : D _ _ reset_port (λ c. on_reset)
  pub making : M _ _ filter_making made
  -- a channel's own calls, with any number as its r
  pub position : (r : Float) → D _ _ (position_port r) (on_position r)
  pub velocity : (r : Float) → D _ _ (velocity_port r) (on_velocity r)
  pub yaw : (r : Float) → D _ _ (yaw_port r) (on_yaw r)
  pub bias : D _ _ bias_port on_bias
  pub lowpass : D _ _ lowpass_port on_lowpass
  pub lowpass_making : M _ _ lowpass_making (λ p. made_lowpass p.0 p.1)
  pub gps : D _ _ gps_port on_gps
  pub tilt : D _ _ tilt_port on_tilt
  pub tilt_making : M _ _ tilt_making made_tilt
  pub yaw_rate : D _ _ yaw_rate_port on_yaw_rate
  pub yaw_rate_making : M _ _ yaw_rate_making (λ p. made_yaw_rate p.0 p.1 p.2 p.3)
  pub orientation : D _ _ orientation_port on_orientation
  pub orientation_making : M _ _ orientation_making (λ p. made_orientation p.0 p.1 p.2 p.3)
  pub aligner : D _ _ aligner_port on_aligner
  pub aligner_making : M _ _ aligner_making (λ p. made_aligner p.0 p.1 p.2)
  -- the functions that keep no state: `blend`, `sin`, `cos`, `atan2`, `square_root` and `wrap_angle` are what these say
  pub blend : D _ _ blend_port (settled_by blend_port)
  pub sine : D _ _ sine_port (settled_by sine_port)
  pub cosine : D _ _ cosine_port (settled_by cosine_port)
  pub arc_tangent : D _ _ arc_tangent_port (settled_by arc_tangent_port)
  pub root : D _ _ root_port (settled_by root_port)
  pub wrap : D _ _ wrap_port (settled_by wrap_port)

-- ---- the demands
-- 1. "Any bits may be handed to any public entry point."
pub record Demand1 : Type 1 where
  pub everywhere : Everywhere (λ C S p on. Refuses p on) (λ P S m made. RefusesMaking m made)
  -- the summary of gate values, which is document 02's and has no part of the Rust; whatever a refused call was refused with
  pub summary : {E : Type 0} → Refuses (summary_port {E = E}) added

-- 2. "with your own sine, cosine and arc tangent put under both": `sine`, `cosine` and `arc_tangent` stand in the Rust's steps as in the code.
-- "save where document 01 says "added"": where tallies and counts stop (`tallied`, `noted`, `counted`), the steps have document 01's rule and not the Rust's. "shown by runs beside it": `oracle/`
-- "or a later request departs from it": a prediction is by the definition of its edition, of which the first is the Rust's (`first_is` in ekf) and the second request C-16's
-- Of a gate's answer the verdict is the Rust's; the value beside it is what the Rust compared and does not give out, so that without it the answer is the Rust's (`update_verdict` in position, `update_verdict` and `soft_verdict` in yaw)
pub record Demand2 : Type 0 where
  pub everywhere : Everywhere (λ C S p on. Equals p on) (λ P S m made. EqualsMaking m made)
  -- "Square root is proved as IEEE 754 rounds it": it is nearest, and nothing else is; "-0 gives -0"
  pub nearest : (x : Float) → T (fits binary32 x) → T (positive x) → Nearest x (root x)
  pub no_other : (x y z : Float) → Nearest x y → Nearest x z → y ≡ z
  pub root_of_zero : (s : Bool) → root (turned s zero32) ≡ turned s zero32
  -- "The three others are proved within the stated distances of whole-number polynomials"
  pub sine_near : (a : Float) → T (within a four) → Near (S (negative a) (n a)) (sine a)
  pub cosine_near : (a : Float) → T (within a four) → Near (C (negative a) (n a)) (cosine a)
  pub arc_tangent_near : (y x : Float) → T (fits binary32 y) → T (fits binary32 x) → T (usable y) → T (usable x) → Bearing y x (arc_tangent y x)
  -- "(0, 0) gives 0; y zero and x negative gives PI", with zeros of either sign
  pub arc_tangent_origin : (s t : Bool) → arc_tangent (turned s zero32) (turned t zero32) ≡ zero32
  pub arc_tangent_behind : (s : Bool) (x : Float) → T (usable x) → T (lt x zero32) → arc_tangent (turned s zero32) x ≡ pi

-- 3. "This holds of the definitions that demand 2 ties the code to": of the same `on_channel`
pub record Demand3 : Type 0 where
  pub filter : Separates on_channel
  -- and of logs of one edition: stretches between predictions that merge the same lists
  pub logs :
      (log log' : List ℕ) (c : EkfConfig) (l l' : List FilterCall) → made c ≡ (answer done, fresh c) → log_edition log ≡ log_edition log' → calls log ≡ configuration c ∷ l
      → calls log' ≡ configuration c ∷ l' → (p : Merged l l') → SameReplay (log_edition log) log log' l l' p (fresh c)
