-- What a call is: document 01's tests in their order, and what the Rust answers and leaves where nothing is refused. One function makes of it what is answered and left. Definitions only.
-- Each component defines its calls as a port, one line a call; what a range or a step that the line names says stands in the same crate.
use Rattle.std.specs.Prelude.{ℕ, Bool, true}
use Rattle.call.specs.Refusal.{refusal_of}
use Rattle.call.specs.Said.{Said, Reply, answer, done, settled, answered}

-- one call on one state
pub record Asked (S : Type 0) : Type 0 where
  -- 1: every float argument is finite
  pub finite : Bool
  -- 2: every argument is in its range
  pub in_range : Bool
  -- 3: every configuration number or parameter that the call looks at is in its range
  pub config : Bool
  -- 5: no sample count that the call would raise stands at its stop
  pub room : Bool
  -- what the Rust answers and leaves, and with a gate's verdict the value that it compared; it refuses nothing
  pub rust : Reply × S

-- the calls of one record
pub record Port (C S : Type 0) : Type 0 where
  -- 4: every number of the state that a call looks at is sound; 6: so is every number that it would store
  pub sound : S → Bool
  pub asks : C → S → Asked S

-- a call with arguments, and one without; neither raises a sample count
abbrev pub given : {S : Type 0} → Bool → Bool → Bool → Reply × S → Asked S
given finite in_range config rust = record { finite = finite; in_range = in_range; config = config; room = true; rust = rust }

abbrev pub bare : {S : Type 0} → Bool → Reply × S → Asked S
bare config rust = given true true config rust

-- "The lowest number that applies is given", and 0 where none does
abbrev pub refusal_in : {C S : Type 0} → Port C S → C → S → ℕ
refusal_in p c s = let a = p.asks c s in refusal_of a.finite a.in_range a.config (p.sound s) a.room (p.sound a.rust.1)

-- what is answered and left
abbrev pub settled_by : {C S : Type 0} → Port C S → C → S → Said × S
settled_by p c s = settled (refusal_in p c s) s (answered (p.asks c s).rust)

-- ---- the parts of it that code has as functions of their own
-- a call that would say and leave `out`
abbrev pub changes : {S : Type 0} → (S → Bool) → Bool → Bool → Bool → Bool → S → Said × S → Said × S
changes sound finite in_range config room s out = settled (refusal_of finite in_range config (sound s) room (sound out.1)) s out

-- the refusal of a reader: it has no argument and leaves what came in, which is as sound as it was
abbrev pub unread : Bool → Bool → ℕ
unread config sound = refusal_of true true config sound true sound

-- ---- a function, which keeps no state: no number of it to look at, and none to store
abbrev pub function : {C : Type 0} → (C → Asked (Unit {0})) → Port C (Unit {0})
function asks = record { sound = λ s. true; asks = λ c s. asks c }

abbrev pub asked : Bool → Bool → Bool → Reply → Asked (Unit {0})
asked finite in_range config reply = given finite in_range config (reply, tt)

abbrev pub said_by : {C : Type 0} → Port C (Unit {0}) → C → Said
said_by p c = (settled_by p c tt).0

-- ---- a making by parameters, which are the only numbers that it looks at
pub record Making (P S : Type 0) : Type 0 where
  -- 3: every parameter is in its range
  pub config : P → Bool
  -- 6: every number that it would store is sound; true where its crate has that as a law
  pub fits : P → Bool
  -- what the Rust makes
  pub rust : P → S
  -- what a refused making hands back
  pub blank : S

abbrev pub refusal_of_making : {P S : Type 0} → Making P S → P → ℕ
refusal_of_making m p = refusal_of true true (m.config p) true true (m.fits p)

abbrev pub made_by : {P S : Type 0} → Making P S → P → Said × S
made_by m p = settled (refusal_of_making m p) m.blank (answer done, m.rust p)

-- ---- a part of a larger record: its calls look at the part, and at what of the whole `asks` takes, and put the part back
abbrev pub inside : {S W : Type 0} → (S → W) → Said × S → Said × W
inside put out = (out.0, put out.1)

abbrev pub port_inside : {C S W : Type 0} → (S → Bool) → (W → C → S → Asked S) → (W → S) → (W → S → W) → Port C W
port_inside sound asks of put =
    record {
      sound = λ w. sound (of w);
      asks =
          λ c w.
          let a = asks w c (of w) in
          record { finite = a.finite; in_range = a.in_range; config = a.config; room = a.room; rust = (a.rust.0, put w a.rust.1) };
    }
