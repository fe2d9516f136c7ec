-- A value's size in units of 2 ^ -p, cut toward zero, from the value and from any fraction that it equals. Assumes nothing.
use Rattle.std.specs.Prelude.{ℕ, ◌*◌, ◌/◌, ◌^◌, ◌≤◌, ◌<◌, ◌≡◌, refl, Bool, Float}
use Rattle.std.proofs.Common.{ap, ◌∙◌, mul-div_cancel, arith}
use Rattle.std.proofs.Math.Nat.{div-le_of_le-mul}
use Rattle.std.specs.Float.{nan, inf, fin}
use Rattle.std.specs.Float.Ieee.{up, down}
use Rattle.std.specs.Float.Ieee.Exact.{HasValue}
use Rattle.std.specs.Float.Ieee.Fits.{down_pos}
use Rattle.std.specs.Float.Ieee.Nearest.{div_same}
use Rattle.std.specs.Float.Ieee.Positive.{num, den}
use Rattle.trig.specs.Angle.{units, negative}

nothing : (p : ℕ) → 0 ≡ 0 * 2 ^ p / 1
nothing p = omega arith

-- cut, and not rounded
pub units_cut : (p : ℕ) (x : Float) → units p x ≡ num x * 2 ^ p / den x
unfolding units
units_cut p nan = nothing p
units_cut p (inf s) = nothing p
units_cut p (fin s m e) = refl

pub units_most : (p : ℕ) (x : Float) (l : ℕ) → num x * 2 ^ p ≤ l * den x → units p x ≤ l
units_most p x l h = rw (units_cut p x) (div-le_of_le-mul (den x) (omega arith))

-- ---- any fraction a / c that x equals
pub value_sign : (x : Float) (s : Bool) (a c : ℕ) → HasValue x s a c → negative x ≡ s
value_sign nan s a c v = absurd v
value_sign (inf t) s a c v = absurd v
value_sign (fin t m e) s a c v = v.0

pub value_cut : (p : ℕ) (x : Float) (s : Bool) (a c : ℕ) → 0 < c → HasValue x s a c → units p x ≡ a * 2 ^ p / c
value_cut p nan s a c o v = absurd v
value_cut p (inf t) s a c o v = absurd v
value_cut p (fin t m e) s a c o v = units_cut p (fin t m e) ∙ div_same (m * up e * 2 ^ p) (down e) (a * 2 ^ p) c (down_pos e) o (swap (m * up e) (2 ^ p) c a (down e) v.1)
  where
    swap : (n p c a d : ℕ) → n * c ≡ a * d → n * p * c ≡ a * p * d
    swap n p c a d h = omega (arith, ap (λ (z : ℕ). p * z) h)

-- a whole number k of them
pub value_units : (p : ℕ) (x : Float) (s : Bool) (a c k : ℕ) → 0 < c → HasValue x s a c → a * 2 ^ p ≡ k * c → units p x ≡ k
value_units p x s a c k o v h = value_cut p x s a c o v ∙ rw h (mul-div_cancel k o)
