-- The numbers that an entry point may give back, and that the lowest one that applies is given. Definitions only.
use Rattle.std.specs.Prelude.{ℕ, Bool, true, false, Result, Ok, Err}
use Rattle.call.specs.declared.refusal.Refusal.{Refusal}
use Rattle.call.specs.declared.refusal.Refusal.TheVariants.{NotFinite, OutOfRange, BadParameter, UnsoundState, CountAtStop, UnsoundResult, Cut, Unknown, WrongLength, WrongPlace, NoRoom, LongRow, NoSuchCar}

-- The number of the first test that fails, or 0: every float argument is finite (1), every argument is in its range (2), every configuration number or parameter
-- looked at is in its range (3), every state number looked at is sound (4), no sample count that would be raised stands at its stop (5), every number that would be stored is sound (6).
abbrev pub refusal_of : Bool → Bool → Bool → Bool → Bool → Bool → ℕ
refusal_of false in_range config state room next = 1
refusal_of true false config state room next = 2
refusal_of true true false state room next = 3
refusal_of true true true false room next = 4
refusal_of true true true true false next = 5
refusal_of true true true true true false = 6
refusal_of true true true true true true = 0

-- 1 to 6 of document 01's first table, 7 to 10 of a log, 11 of a buffer, 12 and 13 of a row of filters
abbrev pub number_of : Refusal → ℕ
number_of NotFinite = 1
number_of OutOfRange = 2
number_of BadParameter = 3
number_of UnsoundState = 4
number_of CountAtStop = 5
number_of UnsoundResult = 6
number_of Cut = 7
number_of Unknown = 8
number_of WrongLength = 9
number_of WrongPlace = 10
number_of NoRoom = 11
number_of LongRow = 12
number_of NoSuchCar = 13

-- 0 where nothing is refused
abbrev pub number_in : {A : Type 0} → Result A Refusal → ℕ
number_in (Ok a) = 0
number_in (Err r) = number_of r
