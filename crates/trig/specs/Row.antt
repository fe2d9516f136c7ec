-- The sum of what any reader reads of a row of angles. Definitions only.
use Rattle.std.specs.Prelude.{ℕ, zero, suc, List, length, get_or, Float}
use Rattle.std.specs.Float.{nan}
use Rattle.float.specs.Value.{◌⊕◌}

-- the angle in slot i
abbrev pub slot : List Float → ℕ → Float
slot row i = get_or row i nan

-- onto `start`, over the first n slots, in slot order
unfoldable pub sum_to : (Float → Float) → Float → List Float → ℕ → Float
sum_to read start row zero = start
sum_to read start row (suc n) = sum_to read start row n ⊕ read (slot row n)

-- over all
abbrev pub sum_of : (Float → Float) → Float → List Float → Float
sum_of read start row = sum_to read start row (length row)
