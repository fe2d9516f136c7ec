-- A row of records, one for each car, and a call that is one car's. Definitions only.
-- What a record is and what a call does to it is given from outside: nothing here, and nothing in RowLaws, knows a filter.
use Rattle.std.specs.Prelude.{ℕ, cond, List, [], ◌∷◌, eqb, ltb, leb, length, set, get_or}
use Rattle.call.specs.Said.{Said, settled}
use Rattle.call.specs.Port.{inside}

-- "12, before all others, for a row longer than 16; then 13 for a car number not below the row's length, an empty row included"
unfoldable pub row_refusal : ℕ → ℕ → ℕ
row_refusal length car = cond (ltb 16 length) 12 (cond (leb length car) 13 0)

-- S is a car's record, M what is measured of a car, and `on` what a car alone answers and leaves
module _ {M S : Type 0} (on : M → S → Said × S) (none : S) where
  -- what a call for one car answers, and the row after it: that car's record is replaced. `none` stands where the row has no car, which is refused
  unfoldable pub on_row : ℕ → M → List S → Said × List S
  on_row car m row = settled (row_refusal (length row) car) row (inside (set row car) (on m (get_or row car none)))

  -- a call for a car, with the car's number beside its answer
  abbrev pub on_call : ℕ × M → List S → (ℕ × Said) × List S
  on_call c row = let r = on_row c.0 c.1 row in ((c.0, r.0), r.1)

-- a call of one car of so many, on its own record
unfoldable pub on_car : {M S : Type 0} → (M → S → Said × S) → ℕ → ℕ → M → S → Said × S
on_car on cars car m s = settled (row_refusal cars car) s (on m s)

-- what is one car's of a list of calls, or of answers, in its order
abbrev pub of_car : {A : Type 0} → ℕ → List (ℕ × A) → List A
of_car car [] = []
of_car car (x ∷ l) = cond (eqb x.0 car) (x.1 ∷ of_car car l) (of_car car l)
