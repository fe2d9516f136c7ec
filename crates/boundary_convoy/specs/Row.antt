-- A row of filters in the caller's words: which operation is which measurement, and what is given and left there. Definitions only.
use Rattle.std.specs.Prelude.{ℕ, ◌≡◌, cond, List, [], eqb, get_or, set, Float, Option, Some, None}
use Rattle.std.specs.Float.{nan}
use Rattle.call.specs.Said.{refused}
use Rattle.ekf.specs.declared.Ekf.{Ekf}
use Rattle.convoy.specs.Row.{row_refusal}
use Rattle.convoy.specs.Convoy.{taken}
use Rattle.convoy.specs.declared.Measurement.{Measurement}
use Rattle.convoy.specs.declared.Measurement.TheVariants.{Position, Velocity, Speed, Yaw, Bias}
use Rattle.words.specs.Words.{Turn, changing, reading, unknown, said_in, stored, Shown}
use Rattle.words.specs.Filter.{loaded, numbers_of, counts_of}

-- the operations of the filter that are measurements, by their numbers
abbrev pub asked_of : ℕ → List Float → Option Measurement
asked_of operation arguments =
    let z : ℕ → Float = λ i. get_or arguments i nan in
    cond (eqb operation 2) (Some (Position (z 0) (z 1)))
    (cond (eqb operation 6) (Some (Velocity (z 0) (z 1)))
    (cond (eqb operation 7) (Some (Speed (z 0)))
    (cond (eqb operation 9) (Some (Yaw (z 0)))
    (cond (eqb operation 13) (Some (Bias (z 0) (z 1)))
    None))))

-- a car alone; what is no measurement gives 2
abbrev pub turn_of : Option Measurement → Ekf → Turn Ekf
turn_of (Some m) f = changing (taken m f)
turn_of None f = unknown

-- the filter that a car's words hold
abbrev pub car_in : List (List Float) → List (List ℕ) → ℕ → Ekf
car_in numbers counts car = loaded (get_or numbers car []) (get_or counts car [])

-- a car in a row of so many: the row's refusals come first
unfoldable pub turn_in : ℕ → ℕ → Option Measurement → Ekf → Turn Ekf
turn_in cars car asked f = let n = row_refusal cars car in cond (eqb n 0) (turn_of asked f) (reading (refused n))

-- what is given, and left in the words: of the row those of that car alone
pub record LentRow (t : Turn Ekf) (car : ℕ) (numbers : List (List Float)) (counts : List (List ℕ)) (values : List Float) (shown : List ℕ) (r : ℕ) (numbers' : List (List Float)) (counts' : List (List ℕ)) (values' : List Float) (shown' : List ℕ) : Type 0 where
  pub shows : Shown (said_in t) values shown r values' shown'
  pub stores : numbers' ≡ set numbers car (stored numbers_of t (get_or numbers car []))
  pub stores_counts : counts' ≡ set counts car (stored counts_of t (get_or counts car []))
