-- A sum over a row's slots, step by step, and what it depends on. Assumes nothing.
use Rattle.std.specs.Prelude.{ℕ, zero, suc, ◌+◌, ◌≤◌, ◌<◌, ◌≡◌, refl, List, [], ◌∷◌, length, take, T, Float}
use Rattle.std.proofs.Common.{ap, ◌∙◌, add-one, arith, get_or-take, length-take-le}
use Rattle.std.specs.Float.{nan, binary32}
use Rattle.std.specs.Float.Ieee.{of_bits, neg, fits}
use Rattle.float.specs.Value.{◌⊕◌, zero32}
use Rattle.float.specs.Zero.{minus_zero_more}
use Rattle.trig.specs.Row.{slot, sum_to, sum_of}

pub sum_start : (read : Float → Float) (start : Float) (row : List Float) → sum_to read start row 0 ≡ start
unfolding sum_to
sum_start read start row = refl

pub sum_next : (read : Float → Float) (start : Float) (row : List Float) (n : ℕ) → sum_to read start row (n + 1) ≡ sum_to read start row n ⊕ read (slot row n)
unfolding sum_to
sum_next read start row n = ap (sum_to read start row) (add-one n)

-- only what is read counts
pub sum_same : (f g : Float → Float) (start : Float) (r s : List Float) (n : ℕ) → ((i : ℕ) → i < n → f (slot r i) ≡ g (slot s i)) → sum_to f start r n ≡ sum_to g start s n
unfolding sum_to
sum_same f g start r s zero h = refl
sum_same f g start r s (suc n) h = rw (sum_same f g start r s n (λ i l. h i (omega arith)), h n (omega arith)) refl

-- the first n of a row
pub sum_first : (read : Float → Float) (start : Float) (row : List Float) (n : ℕ) → n ≤ length row → sum_of read start (take n row) ≡ sum_to read start row n
sum_first read start row n h =
    ap (sum_to read start (take n row)) (length-take-le n row h) ∙ sum_same read read start (take n row) row n (λ i l. ap read (get_or-take n row i nan l))

-- one angle, onto -0
pub sum_one : (read : Float → Float) (a : Float) → T (fits binary32 (read a)) → sum_of read (neg zero32) (a ∷ []) ≡ read a
unfolding sum_to of_bits
sum_one read a t = minus_zero_more binary32 (read a) t
