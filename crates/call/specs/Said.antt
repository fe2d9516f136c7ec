-- What document 01 calls an answer, in one notion for every answer of the code: the number of a refusal, or a reply with its kind, its values, its counts and its flags. Definitions only.
use Rattle.std.specs.Prelude.{ℕ, List, [], ◌∷◌, Bool, true, false, cond, eqb, get_or, Float, Option, Some, None, Result, Ok, Err}
use Rattle.std.specs.Float.{nan}
use Rattle.call.specs.Refusal.{number_of}
use Rattle.call.specs.declared.refusal.Refusal.{Refusal}
use Rattle.call.specs.declared.Outcome.{Outcome}

pub data Kind : Type 0 where
  -- no gate: D
  is_done : Kind
  -- by a gate, with the gate value: A and R
  is_accepted : Kind
  is_rejected : Kind
  -- something to show, and nothing to show
  is_shown : Kind
  is_nothing : Kind

pub record Reply : Type 0 where
  pub kind : Kind
  pub values : List Float
  pub counts : List ℕ
  pub flags : List Bool

pub data Said : Type 0 where
  answer : Reply → Said
  -- a number of the table "Numbers an entry point may give back"
  refused : ℕ → Said

-- ---- replies
abbrev pub plain : Kind → Reply
plain k = record { kind = k; values = []; counts = []; flags = [] }

abbrev pub done : Reply
done = plain is_done

-- a gate's verdict, with the value that it compared
abbrev pub gauged : Kind → Float → Reply
gauged k v = record { kind = k; values = v ∷ []; counts = []; flags = [] }

abbrev pub accepted : Float → Reply
accepted v = gauged is_accepted v

abbrev pub rejected : Float → Reply
rejected v = gauged is_rejected v

abbrev pub nothing : Reply
nothing = plain is_nothing

abbrev pub shows : List Float → List ℕ → List Bool → Reply
shows v n b = record { kind = is_shown; values = v; counts = n; flags = b }

abbrev pub value : Float → Reply
value v = shows (v ∷ []) [] []

abbrev pub pair : Float → Float → Reply
pair a b = shows (a ∷ b ∷ []) [] []

abbrev pub flag : Bool → Reply
flag b = shows [] [] (b ∷ [])

-- ---- the same of the types that the code has for them
abbrev pub done_reply : Unit {0} → Reply
done_reply u = done

abbrev pub pair_reply : Float × Float → Reply
pair_reply v = pair v.0 v.1

abbrev pub option : Option Float → Reply
option (Some v) = value v
option None = nothing

-- the first value, and the second; the first count, and the second; the flag
abbrev pub value_in : Reply → Float
value_in r = get_or r.values 0 nan

abbrev pub second_value_in : Reply → Float
second_value_in r = get_or r.values 1 nan

abbrev pub count_in : Reply → ℕ
count_in r = get_or r.counts 0 0

abbrev pub second_count_in : Reply → ℕ
second_count_in r = get_or r.counts 1 0

abbrev pub flag_in : Reply → Bool
flag_in r = get_or r.flags 0 false

-- whether something is shown
abbrev pub shown_in : Kind → Bool
shown_in is_done = false
shown_in is_accepted = false
shown_in is_rejected = false
shown_in is_shown = true
shown_in is_nothing = false

-- ---- what is said
-- document 01's number: 0 for an answer
abbrev pub number : Said → ℕ
number (answer r) = 0
number (refused n) = n

-- at refusal 0 what is said, else the refusal
abbrev pub shown : ℕ → Said → Said
shown n said = cond (eqb n 0) said (refused n)

-- what a call leaves: at refusal 0 what it says and the next state, else the refusal and the state as it came in
abbrev pub settled : {S : Type 0} → ℕ → S → Said × S → Said × S
settled n old out = (shown n out.0, cond (eqb n 0) out.1 old)

-- a reply and a state, said
abbrev pub answered : {S : Type 0} → Reply × S → Said × S
answered out = (answer out.0, out.1)

-- ---- what an answer of the code says, a refusal by its number; and an outcome, with the state that it leaves
abbrev pub said : {A : Type 0} → (A → Reply) → Result A Refusal → Said
said reply (Ok a) = answer (reply a)
said reply (Err r) = refused (number_of r)

abbrev pub told : {A S : Type 0} → (A → Reply) → Outcome A S → Said × S
told reply out = (said reply out.answer, out.state)
